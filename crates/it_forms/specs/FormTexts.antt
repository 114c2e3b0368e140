-- What letters say in a form, and their first fault in it.
use Rattle.std.specs.Prelude.{List, []}
use Rattle.it_forms.specs.declared.types.Code.{Code}
use Rattle.it_forms.specs.Letters.{Letter, FlaggedLetters, without_flags}
use Rattle.it_forms.specs.FirstFault.{FirstFault}
use Rattle.it_forms.specs.Forms.{Form, Spells}

-- the letters say y in the form f, and none of them is flagged
abbrev pub Says : {A : Type 0} → Form A → List Letter → A → Type 0
Says f ls y = Spells f y (without_flags ls) []

-- a tree of the form f: what it says, and its letters with their flags
abbrev pub Written : {A : Type 0} → Form A → Type 0
Written {A} f = (y : A) × (m : FlaggedLetters) × Spells f y m []

-- the letters of a tree, with their flags
abbrev pub spelling : {A : Type 0} (f : Form A) → Written f → FlaggedLetters
spelling f x = x.1

-- the first fault of the letters is c, where r is left
abbrev pub IsFirstFault : {A : Type 0} → Form A → List Letter → Code → List Letter → Type 0
IsFirstFault f ls c r = FirstFault (spelling f) ls c r
