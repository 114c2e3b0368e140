-- A reading of flagged letters: what they say, or the fault at the first flag.
use Rattle.std.specs.Prelude.{None}
use Rattle.std.proofs.Common.{◌≡◌, List, [], ◌∷◌, ◌++◌, Some, Ok, Err, refl, ap, ◌∙◌, inl, inr, ◌⊎◌, append_assoc}
use Rattle.it_forms.specs.Letters.{Letter, FlaggedLetters, letters, without_flags}
use Rattle.it_forms.proofs.LetterLemmas.{cleaned_append}
use Rattle.it_forms.specs.Reads.{Fault, Reads, ◌>>=◌}

-- m is k after letters without flags
pub record Clears (m k : FlaggedLetters) : Type 0 where
  pub prefix : List Letter
  pub is : m ≡ without_flags prefix ++ k

-- m has its first flag at a place whose fault is f
pub record Flags (m : FlaggedLetters) (f : Fault) : Type 0 where
  pub prefix : List Letter
  pub letter : Letter
  pub rest : FlaggedLetters
  pub is : m ≡ without_flags prefix ++ ((letter, Some f.0) ∷ rest)
  pub left : f.1 ≡ letter ∷ letters rest

-- a reading of m, which spells x and then k: x, or the fault at the first flag before k
abbrev pub Answers : {A : Type 0} → Reads A → FlaggedLetters → A → FlaggedLetters → Type 0
Answers r m x k = ((r ≡ Ok (x, letters k)) × Clears m k) ⊎ ((f : Fault) × ((r ≡ Err f) × Flags m f))

passes_none : (k : FlaggedLetters) → Clears k k
passes_none k = record { prefix = []; is = refl }

passes_cons : (l : Letter) (m k : FlaggedLetters) → Clears m k → Clears ((l, None) ∷ m) k
passes_cons l m k p = record { prefix = l ∷ p.prefix; is = ap (λ (q : FlaggedLetters). (l, None) ∷ q) p.is }

flags_cons : (l : Letter) (m : FlaggedLetters) (f : Fault) → Flags m f → Flags ((l, None) ∷ m) f
flags_cons l m f p = record { prefix = l ∷ p.prefix; letter = p.letter; rest = p.rest; is = ap (λ (q : FlaggedLetters). (l, None) ∷ q) p.is; left = p.left }

append_cleaned : (p q : List Letter) (m n k : FlaggedLetters) → m ≡ without_flags p ++ n → n ≡ without_flags q ++ k → m ≡ without_flags (p ++ q) ++ k
append_cleaned p q m n k g h = g ∙ ap (λ (t : FlaggedLetters). without_flags p ++ t) h ∙ rw (cleaned_append p q, append_assoc) refl

passes_then : (m n k : FlaggedLetters) → Clears m n → Clears n k → Clears m k
passes_then m n k p q = record { prefix = p.prefix ++ q.prefix; is = append_cleaned p.prefix q.prefix m n k p.is q.is }

flags_then : (m n : FlaggedLetters) (f : Fault) → Clears m n → Flags n f → Flags m f
flags_then m n f p q = record {
  prefix = p.prefix ++ q.prefix;
  letter = q.letter;
  rest = q.rest;
  is = append_cleaned p.prefix q.prefix m n
      ((q.letter, Some f.0) ∷ q.rest) p.is q.is;
  left = q.left;
}

-- nothing more to read
pub answers_ok : {A : Type 0} (x : A) (k : FlaggedLetters) → Answers (Ok (x, letters k)) k x k
answers_ok x k = inl (refl, passes_none k)

-- a letter without a flag stands in front
pub answers_cons : {A : Type 0} (l : Letter) (r : Reads A) (m : FlaggedLetters) (x : A) (k : FlaggedLetters) → Answers r m x k → Answers r ((l, None) ∷ m) x k
answers_cons l r m x k (inl a) = inl (a.0, passes_cons l m k a.1)
answers_cons l r m x k (inr b) = inr (b.0, (b.1.0, flags_cons l m b.0 b.1.1))

-- one reading, and then another that may depend on its value
pub answers_bind : {A B : Type 0} (r : Reads A) (f : (A × List Letter) → Reads B) (m n k : FlaggedLetters) (x : A) (y : B) → Answers r m x n
    → Answers (f (x, letters n)) n y k → Answers (r >>= f) m y k
answers_bind r f m n k x y (inl a) (inl b) = inl (ap (λ (q : Reads _). q >>= f) a.0 ∙ b.0, passes_then m n k a.1 b.1)
answers_bind r f m n k x y (inl a) (inr b) = inr (b.0, (ap (λ (q : Reads _). q >>= f) a.0 ∙ b.1.0, flags_then m n b.0 a.1 b.1.1))
answers_bind r f m n k x y (inr a) b = inr (a.0, (ap (λ (q : Reads _). q >>= f) a.1.0, a.1.1))
