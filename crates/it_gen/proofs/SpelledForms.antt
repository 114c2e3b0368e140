-- Bytes of a line that are written in a form, put together part by part.
use Rattle.std.proofs.Common.{◌≡◌, ℕ, suc, true, List, [], ◌∷◌, ◌++◌, Option, None, refl, sym, ap, subst, inl, inr}
use Rattle.it_forms.specs.declared.types.Code.{Code}
use Rattle.it_forms.specs.Letters.{Letter, FlaggedLetters}
use Rattle.it_forms.specs.Forms.{Kind, Terminal, is_among, IsTaken, Form, Give, Take, Then, If, While, Spells}
use Rattle.it_forms.specs.Words.{each}
use Rattle.it_gen.proofs.SpelledLines.{Writes, Anything, writes_then, writes_nothing}

-- Where what follows is as C says, the text is a letter of the terminal, which says a and doesn't flag it.
pub record IsLetter {A : Type 0} (C : List ℕ → Type 0) (text : List ℕ) (t : Terminal A) (a : A) : Type 0 where
  pub letter : Letter
  pub writes : Writes C text (λ k. (letter, None) ∷ k)
  pub among : is_among t.kinds letter ≡ true
  pub says : t.says letter ≡ (None, a)

-- Where what follows is as C says, the text is written in the form.
pub record IsWritten {A : Type 0} (C : List ℕ → Type 0) (text : List ℕ) (f : Form A) : Type 0 where
  pub value : A
  pub prefix : FlaggedLetters → FlaggedLetters
  pub writes : Writes C text prefix
  pub says : (k : FlaggedLetters) → Spells f value (prefix k) k

pub is_taken : {A : Type 0} {C : List ℕ → Type 0} {text : List ℕ} (t : Terminal A) (a : A) (x : IsLetter C text t a) (k : FlaggedLetters)
    → IsTaken t a ((x.letter, None) ∷ k) k
is_taken {A} t a x k = (x.letter, x.among, ap (λ (p : Option Code × A). p.1) x.says, ap (λ (p : Option Code × A). (x.letter, p.0) ∷ k) (sym x.says))

unfoldable pub same_text : {A : Type 0} {C : List ℕ → Type 0} {a b : List ℕ} {f : Form A} → a ≡ b → IsWritten C a f → IsWritten C b f
same_text {C = C} e p = record { value = p.value; prefix = p.prefix; writes = subst (λ (text : List ℕ). Writes C text p.prefix) e p.writes; says = p.says }

unfoldable pub letter_written : {A : Type 0} {C : List ℕ → Type 0} {text : List ℕ} {t : Terminal A} {a : A} → IsLetter C text t a → IsWritten C text (Take t)
unfolding Spells
letter_written {t = t} {a = a} x = record { value = a; prefix = λ k. (x.letter, None) ∷ k; writes = x.writes; says = λ k. is_taken t a x k }

unfoldable pub then_written : {A B : Type 0} {C D : List ℕ → Type 0} {a b : List ℕ} {f : Form A} {g : A → Form B} → (p : IsWritten C a f)
    → IsWritten D b (g p.value) → ((rest : List ℕ) → D rest → C (b ++ rest)) → IsWritten D (a ++ b) (Then f g)
unfolding Spells
then_written p q fits = record {
  value = q.value;
  prefix = λ k. p.prefix
      (q.prefix k);
  writes = writes_then p.writes q.writes fits;
  says = λ k. (p.value, q.prefix k, p.says (q.prefix k), q.says k);
}

-- a form, and what its value gives
unfoldable pub last_written : {A B : Type 0} {C : List ℕ → Type 0} {a : List ℕ} {f : Form A} {g : A → B} → IsWritten C a f
    → IsWritten C a (Then f (λ x. Give (g x)))
unfolding Spells
last_written {g = g} p = record { value = g p.value; prefix = p.prefix; writes = p.writes; says = λ k. (p.value, k, p.says k, (refl, refl)) }

unfoldable pub first_written : {A B : Type 0} {C D : List ℕ → Type 0} {a b : List ℕ} {t : Terminal A} {x : A} {g : A → Form B} {h : Form B}
    → IsLetter C a t x → IsWritten D b (g x) → ((rest : List ℕ) → D rest → C (b ++ rest)) → IsWritten D (a ++ b) (If t g h)
unfolding Spells
first_written {t = t} {x = x} p q fits = record {
  value = q.value;
  prefix = λ k. (p.letter, None)
      ∷ q.prefix k;
  writes = writes_then p.writes q.writes fits;
  says = λ k. inl (x, q.prefix k, is_taken t x p (q.prefix k), q.says k);
}

unfoldable pub other_written : {A B : Type 0} {C : List ℕ → Type 0} {a : List ℕ} {t : Terminal A} {g : A → Form B} {h : Form B}
    → IsWritten C a h → IsWritten C a (If t g h)
unfolding Spells
other_written p = record { value = p.value; prefix = p.prefix; writes = p.writes; says = λ k. inr (p.says k) }

-- no turn more
unfoldable pub none_written : {A B : Type 0} {C : List ℕ → Type 0} {ks : List Kind} {says : A → Letter → Option Code × B}
    {step : A → B → Form A} (x : A) → IsWritten C [] (While ks says step x)
unfolding Spells
none_written x = record { value = x; prefix = λ k. k; writes = writes_nothing; says = λ k. (0, (refl, refl)) }

-- one turn more, and others
unfoldable pub one_written : {A B E : Type 0} {C D : List ℕ → Type 0} {a b c : List ℕ} {ks : List Kind}
    {says : A → Letter → Option Code × B} {item : A → B → Form E} {put : A → E → A} {x : A} {y : B}
    → IsLetter Anything a (record { kinds = ks; says = says x }) y → (q : IsWritten C b (item x y))
    → IsWritten D c (each ks says item put (put x q.value)) → ((rest : List ℕ) → D rest → C (c ++ rest))
    → IsWritten D (a ++ (b ++ c)) (each ks says item put x)
unfolding Spells
one_written {ks = ks} {says = says} {put = put} {x = x} {y = y} p q r fits = record {
  value = r.value;
  prefix = λ k. (p.letter, None) ∷ q.prefix (r.prefix k);
  writes = writes_then p.writes (writes_then q.writes r.writes fits) (λ rest d. tt);
  says = λ k.
      let m = r.prefix k in
      let w = r.says k in (
        suc w.0,
        (
          y,
          q.prefix m,
          put x q.value,
          m,
          is_taken (record { kinds = ks; says = says x }) y p (q.prefix m),
          (q.value, m, q.says m, (refl, refl)),
          w.1,
        ),
      );
}

-- nothing more
unfoldable pub give_written : {A : Type 0} {C : List ℕ → Type 0} (x : A) → IsWritten C [] (Give x)
unfolding Spells
give_written x = record { value = x; prefix = λ k. k; writes = writes_nothing; says = λ k. (refl, refl) }
