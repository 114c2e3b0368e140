-- Flagged letters one after the other.
use Rattle.std.proofs.Common.{◌≡◌, List, [], ◌∷◌, ◌++◌, Option, Some, None, refl, ap, ◌∙◌}
use Rattle.it_forms.specs.declared.types.Code.{Code}
use Rattle.it_forms.specs.Letters.{Letter, FlaggedLetters, letters, without_flags}
use Rattle.it_forms.specs.FirstFault.{FlaggedAt}

pub cleaned_append : (p q : List Letter) → without_flags (p ++ q) ≡ without_flags p ++ without_flags q
cleaned_append [] q = refl
cleaned_append (l ∷ p) q = ap (λ (m : FlaggedLetters). (l, None) ∷ m) (cleaned_append p q)

pub letters_append : (m n : FlaggedLetters) → letters (m ++ n) ≡ letters m ++ letters n
letters_append [] n = refl
letters_append (x ∷ m) n = ap (λ (t : List Letter). x.0 ∷ t) (letters_append m n)

pub letters_cleaned : (p : List Letter) → letters (without_flags p) ≡ p
letters_cleaned [] = refl
letters_cleaned (l ∷ p) = ap (λ (t : List Letter). l ∷ t) (letters_cleaned p)

-- the letters of a spelling after letters without flags
pub letters_after : (p : List Letter) (m : FlaggedLetters) → letters (without_flags p ++ m) ≡ p ++ letters m
letters_after p m = letters_append (without_flags p) m ∙ ap (λ (t : List Letter). t ++ letters m) (letters_cleaned p)

pub second_is : (x y : Letter × Option Code) (a b : FlaggedLetters) → x ∷ a ≡ y ∷ b → x.1 ≡ y.1
second_is x y a b e = let h : x ≡ y = cc in ap (λ (p : Letter × Option Code). p.1) h

pub same_tails : (x y : Letter × Option Code) (a b : FlaggedLetters) → x ∷ a ≡ y ∷ b → a ≡ b
same_tails x y a b e = cc

-- letters without flags have no flag
pub clean_is_clean : (ls prefix : List Letter) (c : Code) → FlaggedAt (without_flags ls) prefix c → ⊥
clean_is_clean [] [] c k = let e = k.2 in absurd cc
clean_is_clean (l ∷ ls) [] c k = let e : None ≡ Some c = second_is (l, None) (k.0, Some c) (without_flags ls) k.1 k.2 in absurd cc
clean_is_clean [] (x ∷ prefix) c k = let e = k.2 in absurd cc
clean_is_clean (l ∷ ls) (x ∷ prefix) c k = clean_is_clean ls prefix c (
  k.0,
  k.1,
  same_tails (l, None) (x, None) (without_flags ls)
      (without_flags prefix ++ ((k.0, Some c) ∷ k.1)) k.2,
)
