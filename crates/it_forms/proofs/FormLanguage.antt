-- What letters say in a form is one thing, their first fault is one, and they have not both.
use Rattle.std.proofs.Common.{◌≡◌, List, [], ◌∷◌, ◌++◌, Ok, refl, sym, ap, ◌∙◌, subst, ℕ, zero, suc, inl, inr, append_assoc, Option}
use Rattle.it_forms.specs.declared.types.Code.{Code}
use Rattle.it_forms.specs.Letters.{Letter, FlaggedLetters, without_flags}
use Rattle.it_forms.specs.Reads.{Reads}
use Rattle.it_forms.proofs.LetterLemmas.{letters_cleaned, clean_is_clean}
use Rattle.it_forms.specs.Forms.{Kind, Terminal, IsTaken, AreTurns, Form, Give, Take, Then, If, While, Spells}
use Rattle.it_forms.specs.FormTexts.{Says, IsFirstFault}
use Rattle.it_forms.proofs.Outlines.{Outline, Has}
use Rattle.it_forms.proofs.FormFaults.{said_is_read}

abbrev ok_of : {A : Type 0} → A × List Letter → Reads A
ok_of p = Ok p

ok_is : {A : Type 0} (p q : A × List Letter) → ok_of p ≡ ok_of q → p ≡ q
ok_is p q e = cc

pub one_meaning : {A : Type 0} (f : Form A) (o : Outline) → Has f o → (ls : List Letter) (y z : A) → Says f ls y → Says f ls z → y ≡ z
one_meaning {A} f o h ls y z s t = ap (λ (q : A × List Letter). q.0) (ok_is (y, []) (z, []) (sym (said_is_read f o h ls y s) ∙ said_is_read f o h ls z t))

-- letters that say something have no first fault
pub says_or_fault : {A : Type 0} (f : Form A) (ls : List Letter) (y : A) (c : Code) (r : List Letter) → Says f ls y → IsFirstFault f ls c r → ⊥
says_or_fault f ls y c r s g = clean_is_clean ls g.prefix c (g.each (y, without_flags ls, s) r refl (letters_cleaned ls ∙ g.parts))

-- ---- what is written may be followed by anything else

pub record Moves {A : Type 0} (f : Form A) (y : A) (m k : FlaggedLetters) : Type 0 where
  pub prefix : FlaggedLetters
  pub is : m ≡ prefix ++ k
  pub moves : (q : FlaggedLetters) → Spells f y (prefix ++ q) q

terminal_moves : {A : Type 0} (t : Terminal A) (a : A) (m k : FlaggedLetters) → IsTaken t a m k
    → (x : Letter × Option Code) × ((m ≡ x ∷ k) × ((q : FlaggedLetters) → IsTaken t a (x ∷ q) q))
terminal_moves t a m k s = ((s.0, (t.says s.0).0), (s.3, λ q. (s.0, s.1, s.2, refl)))

turns_move : {A B : Type 0} (ks : List Kind) (says : A → Letter → Option Code × B) (step : A → B → Form A)
    → ((a : A) (b : B) (c : A) (m k : FlaggedLetters) → Spells (step a b) c m k → Moves (step a b) c m k)
    → (n : ℕ) (a y : A) (m k : FlaggedLetters) → AreTurns (λ a. record { kinds = ks; says = says a }) (λ a b. Spells (step a b)) n a y m k
    → Moves (While ks says step a) y m k
unfolding Spells
turns_move ks says step h zero a y m k s = record { prefix = []; is = s.1; moves = λ q. (zero, (s.0, refl)) }
turns_move {A} {B} ks says step h (suc n) a y m k s = both (terminal_moves (record { kinds = ks; says = says a }) s.0 m s.1 s.4)
    (h a s.0 s.2 s.1 s.3 s.5) (turns_move ks says step h n s.2 y s.3 k s.6)
  where
    both : (x : Letter × Option Code) × ((m ≡ x ∷ s.1) × ((q : FlaggedLetters)
        → IsTaken (record { kinds = ks; says = says a }) s.0 (x ∷ q) q)) → Moves (step a s.0) s.2 s.1 s.3
        → Moves (While ks says step s.2) y s.3 k → Moves (While ks says step a) y m k
    both x b c = record {
      prefix = x.0 ∷ (b.prefix ++ c.prefix);
      is = x.1.0 ∙ ap (λ (t : FlaggedLetters). x.0 ∷ t) (b.is ∙ ap (λ (t : FlaggedLetters). b.prefix ++ t) c.is ∙ sym (append_assoc b.prefix c.prefix k));
      moves = λ q. let w = c.moves q in (
        suc w.0,
        (
          s.0,
          (b.prefix ++ c.prefix) ++ q,
          s.2,
          c.prefix
              ++ q,
          x.1.1 ((b.prefix ++ c.prefix) ++ q),
          subst (λ (t : FlaggedLetters). Spells (step a s.0) s.2 t (c.prefix ++ q))
              (sym (append_assoc b.prefix c.prefix q)) (b.moves (c.prefix ++ q)),
          w.1,
        ),
      );
    }

pub prefix_moves : {A : Type 0} (f : Form A) (y : A) (m k : FlaggedLetters) → Spells f y m k → Moves f y m k
unfolding Spells
prefix_moves (Give a) y m k s = record { prefix = []; is = s.1; moves = λ q. (s.0, refl) }
prefix_moves (Take t) y m k s = let x = terminal_moves t y m k s in record { prefix = x.0 ∷ []; is = x.1.0; moves = x.1.1 }
prefix_moves (Then f g) y m k s = both (prefix_moves f s.0 m s.1 s.2) (prefix_moves (g s.0) y s.1 k s.3)
  where
    both : Moves f s.0 m s.1 → Moves (g s.0) y s.1 k → Moves (Then f g) y m k
    both a b = record {
      prefix = a.prefix ++ b.prefix;
      is = a.is ∙ ap (λ (t : FlaggedLetters). a.prefix ++ t) b.is ∙ sym (append_assoc a.prefix b.prefix k);
      moves = λ q. (
        s.0,
        b.prefix ++ q,
        subst (λ (t : FlaggedLetters). Spells f s.0 t (b.prefix ++ q))
            (sym (append_assoc a.prefix b.prefix q)) (a.moves (b.prefix ++ q)),
        b.moves q,
      );
    }
prefix_moves (If t g h) y m k (inl s) = both (terminal_moves t s.0 m s.1 s.2) (prefix_moves (g s.0) y s.1 k s.3)
  where
    both : (x : Letter × Option Code) × ((m ≡ x ∷ s.1) × ((q : FlaggedLetters) → IsTaken t s.0 (x ∷ q) q)) → Moves (g s.0) y s.1 k → Moves (If t g h) y m k
    both x b = record {
      prefix = x.0 ∷ b.prefix;
      is = x.1.0 ∙ ap (λ (t : FlaggedLetters). x.0 ∷ t) b.is;
      moves = λ q. inl
          (s.0, b.prefix ++ q, x.1.1 (b.prefix ++ q), b.moves q);
    }
prefix_moves (If t g h) y m k (inr s) = let b = prefix_moves h y m k s in record { prefix = b.prefix; is = b.is; moves = λ q. inr (b.moves q) }
prefix_moves (While ks says step a) y m k s = turns_move ks says step (λ a b c m k t. prefix_moves (step a b) c m k t) s.0 a y m k s.1
