-- The fault that the code gives where reading stopped. No public clause cites it.
use Rattle.std.specs.Prelude.{◌≡◌, ℕ, ◌-◌, ◌<◌, ◌≤◌, List, length, Option, Some, flat_map}
use Rattle.it_forms.specs.declared.types.Code.{Code}
use Rattle.it_syntax.specs.declared.rest.Stop.{Stop}
use Rattle.it_syntax.specs.declared.rest.Stop.TheVariants as stops
use Rattle.it_forms.specs.Letters.{Letter}
use Rattle.it_question.specs.declared.types.FileFault.{FileFault}
use Rattle.it_question.specs.declared.types.FileFault.TheVariants.{Memory, Fault}
use Rattle.it_question.specs.Lines.{LineView, letters_of_lines, line_places}

-- `left` are letters left of the lines: no more than all, and their first one has a place
pub record IsLeft (lines : List LineView) (left : List Letter) : Type 0 where
  pub within : length left ≤ length (letters_of_lines lines)
  pub some : length (letters_of_lines lines) - length left < length (flat_map line_places lines)

-- p holds, unless memory ran out
abbrev pub IfFault : Stop → Type 0 → Type 0
IfFault stops.Memory p = Unit {0}
IfFault (stops.Fault code) p = p

-- the fault is `code`, at this place
abbrev pub IsFaultAt : Option (ℕ × ℕ) → Code → FileFault → Type 0
IsFaultAt place code Memory = ⊥
IsFaultAt place code (Fault line column c) = (c ≡ code) × (place ≡ Some (line, column))

-- the error says why reading stopped: memory ran out, or this code at that place
abbrev pub IsStopAt : Option (ℕ × ℕ) → Stop → FileFault → Type 0
IsStopAt place stops.Memory fault = fault ≡ Memory
IsStopAt place (stops.Fault code) fault = IsFaultAt place code fault
