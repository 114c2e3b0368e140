-- Letters without flags, and their parts.
use Rattle.std.specs.Prelude.{None}
use Rattle.std.proofs.Common.{◌≡◌, List, [], ◌∷◌, ◌++◌, Option, refl, sym, ap, ◌∙◌}
use Rattle.it_forms.specs.declared.types.Code.{Code}
use Rattle.it_forms.proofs.LetterLemmas.{letters_cleaned}
use Rattle.it_forms.specs.Letters.{Letter, FlaggedLetters, letters, without_flags}

-- both parts of letters without flags
pub record CleanParts (p k : FlaggedLetters) (ls : List Letter) : Type 0 where
  pub prefix : p ≡ without_flags (letters p)
  pub after : k ≡ without_flags (letters k)
  pub all : ls ≡ letters p ++ letters k

clean_itself : (m : FlaggedLetters) (ls : List Letter) → m ≡ without_flags ls → (m ≡ without_flags (letters m)) × (ls ≡ letters m)
clean_itself m ls e = let back : letters m ≡ ls = ap letters e ∙ letters_cleaned ls in (e ∙ ap without_flags (sym back), sym back)

-- one more letter without a flag in front
one_more_clean : (x : Letter × Option Code) (l : Letter) (p k : FlaggedLetters) (ls : List Letter) → x ≡ (l, None) → CleanParts p k ls
    → CleanParts (x ∷ p) k (l ∷ ls)
one_more_clean x l p k ls e c =
    let letter : x.0 ≡ l = ap (λ (y : Letter × Option Code). y.0) e in
    record {
      prefix = ap (λ (y : Letter × Option Code). y ∷ p) (e ∙ ap (λ (l : Letter). (l, None)) (sym letter))
          ∙ ap (λ (q : FlaggedLetters). (x.0, None) ∷ q) c.prefix;
      after = c.after;
      all = ap (λ (y : Letter). y ∷ ls) (sym letter) ∙ ap (λ (q : List Letter). x.0 ∷ q) c.all;
    }

pub clean_parts : (p k : FlaggedLetters) (ls : List Letter) → p ++ k ≡ without_flags ls → CleanParts p k ls
clean_parts [] k ls e = let c = clean_itself k ls e in record { prefix = refl; after = c.0; all = c.1 }
clean_parts (x ∷ p) k [] e = absurd cc
clean_parts (x ∷ p) k (l ∷ ls) e =
    let first : x ≡ (l, None) = cc in
    let tails : p ++ k ≡ without_flags ls = cc in
    one_more_clean x l p k ls first (clean_parts p k ls tails)
