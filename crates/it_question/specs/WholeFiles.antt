-- Whole files in a language that is defined by how each tree is spelled, up to the file's end, and by the value of each tree; and the
-- first fault of a file.
use Rattle.std.specs.Prelude.{◌≡◌, ℕ, ◌-◌, List, length, Option, Some, slice_get, flat_map}
use Rattle.it_forms.specs.declared.types.Code.{Code}
use Rattle.it_forms.specs.Letters.{Letter, FlaggedLetters, without_flags}
use Rattle.it_forms.specs.FirstFault.{FirstFault}
use Rattle.it_question.specs.declared.types.FileFault.{FileFault}
use Rattle.it_question.specs.declared.types.FileFault.TheVariants.{Memory, Fault}
use Rattle.it_question.specs.Lines.{LineView, AreLinesOf, letters_of_lines, line_places}

-- the bytes say y: their letters spell a tree, none of them is flagged, and y is the value of the tree in these lines
pub record SaysWhole {X Y : Type 0} (spell : X → FlaggedLetters) (value : List LineView → X → Y) (bytes : List ℕ) (y : Y) : Type 0 where
  pub lines : List LineView
  pub cut : AreLinesOf bytes lines
  pub tree : X
  pub spelled : spell tree ≡ without_flags (letters_of_lines lines)
  pub says : value lines tree ≡ y

-- the line and the column of the first of the letters that are left of these lines
abbrev pub place_of : List LineView → List Letter → Option (ℕ × ℕ)
place_of lines left = slice_get (flat_map line_places lines) (length (letters_of_lines lines) - length left)

-- The first fault of these bytes is `code`, at this line and column: those of the first letter that is left at the fault.
pub record WholeFaultAt {X : Type 0} (spell : X → FlaggedLetters) (bytes : List ℕ) (line column : ℕ) (code : Code) : Type 0 where
  pub lines : List LineView
  pub cut : AreLinesOf bytes lines
  pub left : List Letter
  pub first : FirstFault spell (letters_of_lines lines) code left
  pub place : place_of lines left ≡ Some (line, column)

-- of an error: memory ran out, or it is the first fault
abbrev pub IsFirstWholeFault : {X : Type 0} → (X → FlaggedLetters) → List ℕ → FileFault → Type 0
IsFirstWholeFault spell bytes Memory = Unit {0}
IsFirstWholeFault spell bytes (Fault line column code) = WholeFaultAt spell bytes line column code
