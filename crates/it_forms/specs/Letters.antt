-- Texts as lists of letters: tokens, and the ends of lines. A grammar is stated over them, and flags letters that are faults.
use Rattle.std.specs.Prelude.{ℕ, List, map, Option, None}
use Rattle.it_forms.specs.declared.types.Symbol.{Symbol}
use Rattle.it_forms.specs.declared.types.Code.{Code}

-- a letter; `Bad` stands for what is no token
pub data Letter : Type 0 where
  Word : (text : List ℕ) → Letter
  Number : (value : ℕ) → Letter
  Sym : (symbol : Symbol) → Letter
  End : Letter
  Bad : (code : Code) → Letter

-- letters, each with its flag: the code of what the rules have against it where it stands
abbrev pub FlaggedLetters : Type 0
FlaggedLetters = List (Letter × Option Code)

-- the letters without their flags
abbrev pub letters : FlaggedLetters → List Letter
letters m = map (λ (x : Letter × Option Code). x.0) m

-- the letters, none of them flagged
abbrev pub without_flags : List Letter → FlaggedLetters
without_flags ls = map (λ l. (l, None)) ls
