-- What a form puts before the letters that follow: tokens of a line, or a number of whole lines.
use Rattle.std.proofs.Common.{◌≡◌, ℕ, zero, suc, ◌+◌, Bool, true, false, ◌||◌, List, [], ◌∷◌, ◌++◌, refl, sym, ap, ◌∙◌, subst, inl, inr, append_assoc, arith}
use Rattle.it_forms.specs.declared.types.Code.{Code}
use Rattle.it_forms.specs.declared.types.Code.TheVariants.{Unfinished}
use Rattle.it_forms.specs.Letters.{Letter, Word, Number, Sym, End, Bad, FlaggedLetters, letters}
use Rattle.it_forms.specs.Forms.{Kind, LineEnd, FileEnd, is_of, is_among, Terminal, IsTaken, AreTurns, Form, Give, Take, Then, If, While, Spells}
use Rattle.it_forms.specs.Words.{to_end}
use Rattle.it_forms.proofs.KindLemmas.{apart_among}
use Rattle.it_forms.proofs.LetterLemmas.{letters_append}
use Rattle.it_forms.proofs.LineEnds.{NoEndAmong, HasNoEnd}

abbrev pub AreTokens : List Letter → Type 0
AreTokens [] = Unit {0}
AreTokens (End ∷ ls) = ⊥
AreTokens (Bad c ∷ ls) = ⊥
AreTokens (l ∷ ls) = AreTokens ls

-- the letters of n lines: tokens and an end, n times
abbrev pub HasLines : ℕ → List Letter → Type 0
HasLines zero [] = Unit {0}
HasLines zero (l ∷ ls) = ⊥
HasLines (suc n) [] = ⊥
HasLines (suc n) (End ∷ ls) = HasLines n ls
HasLines (suc n) (Bad c ∷ ls) = ⊥
HasLines (suc n) (l ∷ ls) = HasLines (suc n) ls

-- m is letters of this kind, and then k
pub record Puts (P : List Letter → Type 0) (m k : FlaggedLetters) : Type 0 where
  pub prefix : FlaggedLetters
  pub is : m ≡ prefix ++ k
  pub kind : P (letters prefix)

pub puts_then : (P Q R : List Letter → Type 0) {m n k : FlaggedLetters} → ((a b : List Letter) → P a → Q b → R (a ++ b)) → Puts P m n → Puts Q n k → Puts R m k
puts_then P Q R {m} {n} {k} join p q = record {
  prefix = p.prefix ++ q.prefix;
  is = p.is ∙ ap (λ (t : FlaggedLetters). p.prefix ++ t) q.is ∙ sym (append_assoc p.prefix q.prefix k);
  kind = subst R (sym (letters_append p.prefix q.prefix)) (join (letters p.prefix) (letters q.prefix) p.kind q.kind);
}

pub puts_at : {P : List Letter → Type 0} {m n k : FlaggedLetters} → Puts P m n → n ≡ k → Puts P m k
puts_at {P} {m} p e = subst (λ (t : FlaggedLetters). Puts P m t) e p

join_tokens : (a b : List Letter) → AreTokens a → AreTokens b → AreTokens (a ++ b)
join_tokens [] b h g = g
join_tokens (End ∷ a) b h g = absurd h
join_tokens (Bad c ∷ a) b h g = absurd h
join_tokens (l ∷ a) b h g = join_tokens a b h g

join_line : (n : ℕ) (a b : List Letter) → AreTokens a → HasLines (suc n) b → HasLines (suc n) (a ++ b)
join_line n [] b h g = g
join_line n (End ∷ a) b h g = absurd h
join_line n (Bad c ∷ a) b h g = absurd h
join_line n (l ∷ a) b h g = join_line n a b h g

join_lines : (n m : ℕ) (a b : List Letter) → HasLines n a → HasLines m b → HasLines (n + m) (a ++ b)
join_lines zero m [] b h g = let e : m ≡ 0 + m = omega arith in subst (λ (i : ℕ). HasLines i b) e g
join_lines zero m (l ∷ a) b h g = absurd h
join_lines (suc n) m [] b h g = absurd h
join_lines (suc n) m (End ∷ a) b h g = let e : suc (n + m) ≡ suc n + m = omega arith
    in subst (λ (i : ℕ). HasLines i (End ∷ (a ++ b))) e (join_lines n m a b h g)
join_lines (suc n) m (Bad c ∷ a) b h g = absurd h
join_lines (suc n) m (l ∷ a) b h g = let e : suc (n + m) ≡ suc n + m = omega arith
    in subst (λ (i : ℕ). HasLines i (l ∷ (a ++ b))) e (subst (λ (i : ℕ). HasLines i (a ++ b)) (sym e) (join_lines (suc n) m a b h g))

-- ---- forms within a line

bad_of : (k : Kind) (c : Code) → is_of k (Bad c) ≡ true → c ≡ Unfinished
bad_of FileEnd Unfinished e = refl
bad_of k c e = absurd cc

bad_among : (ks : List Kind) (c : Code) → is_among ks (Bad c) ≡ true → c ≡ Unfinished
bad_among [] c e = absurd cc
bad_among (k ∷ ks) c e = by_test (is_of k (Bad c)) (bad_of k c) (bad_among ks c) e
  where
    by_test : (b : Bool) → (b ≡ true → c ≡ Unfinished) → (is_among ks (Bad c) ≡ true → c ≡ Unfinished) → (b || is_among ks (Bad c)) ≡ true → c ≡ Unfinished
    by_test true h more e = h refl
    by_test false h more e = more e

token_among : (ks : List Kind) (l : Letter) → NoEndAmong ks → is_among ks l ≡ true → AreTokens (l ∷ [])
token_among ks (Word w) h e = tt
token_among ks (Number n) h e = tt
token_among ks (Sym s) h e = tt
token_among ks End h e = let x = apart_among (LineEnd ∷ FileEnd ∷ []) ks End h e in absurd cc
token_among ks (Bad c) h e = let x : is_among (LineEnd ∷ FileEnd ∷ []) (Bad Unfinished)
    ≡ false = subst (λ (d : Code). is_among (LineEnd ∷ FileEnd ∷ []) (Bad d) ≡ false) (bad_among ks c e)
    (apart_among (LineEnd ∷ FileEnd ∷ []) ks (Bad c) h e) in absurd cc

pub no_tokens : {m k : FlaggedLetters} → m ≡ k → Puts AreTokens m k
no_tokens e = record { prefix = []; is = e; kind = tt }

pub tokens_then : {m n k : FlaggedLetters} → Puts AreTokens m n → Puts AreTokens n k → Puts AreTokens m k
tokens_then p q = puts_then AreTokens AreTokens AreTokens join_tokens p q

-- a token that is taken
pub taken_token : {A : Type 0} (t : Terminal A) (a : A) (m k : FlaggedLetters) → NoEndAmong t.kinds → IsTaken t a m k → Puts AreTokens m k
taken_token t a m k i s = record { prefix = (s.0, (t.says s.0).0) ∷ []; is = s.3; kind = token_among t.kinds s.0 i s.1 }

turns_in_line : {A B : Type 0} (t : A → Terminal B) (Step : A → B → A → FlaggedLetters → FlaggedLetters → Type 0)
    → ((a : A) → NoEndAmong (t a).kinds) → ((a : A) (b : B) (c : A) (m k : FlaggedLetters) → Step a b c m k → Puts AreTokens m k)
    → (n : ℕ) (a y : A) (m k : FlaggedLetters) → AreTurns t Step n a y m k → Puts AreTokens m k
turns_in_line t Step i h zero a y m k s = no_tokens s.1
turns_in_line t Step i h (suc n) a y m k s = tokens_then (taken_token (t a) s.0 m s.1 (i a) s.4)
    (tokens_then (h a s.0 s.2 s.1 s.3 s.5) (turns_in_line t Step i h n s.2 y s.3 k s.6))

pub in_line : {A : Type 0} (f : Form A) → HasNoEnd f → (y : A) (m k : FlaggedLetters) → Spells f y m k → Puts AreTokens m k
unfolding HasNoEnd Spells
in_line (Give a) i y m k s = no_tokens s.1
in_line (Take t) i y m k s = taken_token t y m k i s
in_line (Then f g) i y m k s = tokens_then (in_line f i.0 s.0 m s.1 s.2) (in_line (g s.0) (i.1 s.0) y s.1 k s.3)
in_line (If t g h) i y m k (inl s) = tokens_then (taken_token t s.0 m s.1 i.0 s.2) (in_line (g s.0) (i.1 s.0) y s.1 k s.3)
in_line (If t g h) i y m k (inr s) = in_line h i.2 y m k s
in_line (While ks says step a) i y m k s = turns_in_line (λ a. record { kinds = ks; says = says a }) (λ a b. Spells (step a b)) (λ a. i.0)
    (λ a b c m k t. in_line (step a b) (i.1 a b) c m k t) s.0 a y m k s.1

-- ---- whole lines

pub no_lines : {m k : FlaggedLetters} → m ≡ k → Puts (HasLines 0) m k
no_lines e = record { prefix = []; is = e; kind = tt }

-- an end, whatever its flag
pub end_puts : {A : Type 0} (t : Terminal A) (a : A) (m k : FlaggedLetters) → t.kinds ≡ LineEnd ∷ [] → IsTaken t a m k → Puts (HasLines 1) m k
end_puts t a m k e s = record { prefix = (s.0, (t.says s.0).0) ∷ []; is = s.3; kind = by_letter s.0 (subst (λ (ks : List Kind). is_among ks s.0 ≡ true) e s.1) }
  where
    by_letter : (l : Letter) → is_among (LineEnd ∷ []) l ≡ true → HasLines 1 (l ∷ [])
    by_letter End h = tt
    by_letter l h = absurd cc

pub tokens_lines : {m n k : FlaggedLetters} (i : ℕ) → Puts AreTokens m n → Puts (HasLines (suc i)) n k → Puts (HasLines (suc i)) m k
tokens_lines i p q = puts_then AreTokens (HasLines (suc i)) (HasLines (suc i)) (join_line i) p q

pub lines_then : {m n k : FlaggedLetters} (i j : ℕ) → Puts (HasLines i) m n → Puts (HasLines j) n k → Puts (HasLines (i + j)) m k
lines_then i j p q = puts_then (HasLines i) (HasLines j) (HasLines (i + j)) (join_lines i j) p q

pub lines_as : {m k : FlaggedLetters} (i j : ℕ) → Puts (HasLines i) m k → i ≡ j → Puts (HasLines j) m k
lines_as {m} {k} i j p e = subst (λ (n : ℕ). Puts (HasLines n) m k) e p

-- a form within a line, up to the line's end
pub line_puts : {A : Type 0} (f : Form A) → HasNoEnd f → (y : A) (m k : FlaggedLetters) → Spells (to_end f) y m k → Puts (HasLines 1) m k
unfolding Spells
line_puts f i y m k s = puts_at (tokens_lines 0 (in_line f i s.0 m s.1 s.2) (end_puts _ s.3.0 s.1 s.3.1 refl s.3.2)) s.3.3.1
