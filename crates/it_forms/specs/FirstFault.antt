-- The first fault of letters, for a language that is given by its trees and by how each is spelled.
use Rattle.std.specs.Prelude.{◌≡◌, ◌⊎◌, List, ◌∷◌, ◌++◌, Some, slice_get}
use Rattle.it_forms.specs.declared.types.Code.{Code}
use Rattle.it_forms.specs.declared.types.Code.TheVariants as codes
use Rattle.it_forms.specs.Letters.{Letter, Bad, FlaggedLetters, letters, without_flags}

-- the code of a fault where no rule goes on: that of a letter that is no token, else `Word`
abbrev pub own_code : List Letter → Code
own_code (Bad c ∷ ls) = c
own_code ls = codes.Word

-- m begins with the letters `prefix`, none of them flagged, and its next letter is flagged by c
abbrev pub FlaggedAt : FlaggedLetters → List Letter → Code → Type 0
FlaggedAt m prefix c = (l : Letter) × (more : FlaggedLetters) × (m ≡ without_flags prefix ++ ((l, Some c) ∷ more))

-- The first fault of `ls` is c, and it comes where r is left.
pub record FirstFault {X : Type 0} (spell : X → FlaggedLetters) (ls : List Letter) (c : Code) (r : List Letter) : Type 0 where
  pub prefix : List Letter
  pub parts : ls ≡ prefix ++ r
  -- what stands before can be completed, without a flag on it
  pub tree : X
  pub more : FlaggedLetters
  pub viable : spell tree ≡ without_flags prefix ++ more
  -- each tree whose letters are `prefix` and then the letter that stands there has it flagged by c
  pub each : (x : X) (q : List Letter) → slice_get q 0 ≡ slice_get r 0 → letters (spell x) ≡ prefix ++ q → FlaggedAt (spell x) prefix c
  -- c is that flag, or, where no tree goes on with that letter, the letter's own code
  pub code : (own_code r ≡ c) ⊎ ((x : X) × (q : List Letter) × ((slice_get q 0 ≡ slice_get r 0) × (letters (spell x) ≡ prefix ++ q)))
