-- Whole files in a form, and their first fault.
use Rattle.std.specs.Prelude.{ℕ, List}
use Rattle.it_forms.specs.declared.types.Code.{Code}
use Rattle.it_question.specs.Lines.{LineView}
use Rattle.it_question.specs.declared.types.FileFault.{FileFault}
use Rattle.it_question.specs.WholeFiles.{SaysWhole, WholeFaultAt, IsFirstWholeFault}
use Rattle.it_forms.specs.Forms.{Form}
use Rattle.it_forms.specs.FormTexts.{spelling}

-- The bytes say y in the form f; `value` makes it of the file's lines and of what the form says.
abbrev pub SaysInForm : {A Y : Type 0} → Form A → (List LineView → A → Y) → List ℕ → Y → Type 0
SaysInForm f value bytes y = SaysWhole (spelling f) (λ lines x. value lines x.0) bytes y

-- the first fault of these bytes is `code`, at this line and column
abbrev pub FormFaultAt : {A : Type 0} → Form A → List ℕ → ℕ → ℕ → Code → Type 0
FormFaultAt f bytes line column code = WholeFaultAt (spelling f) bytes line column code

-- of an error: memory ran out, or it is the first fault
abbrev pub IsFirstFormFault : {A : Type 0} → Form A → List ℕ → FileFault → Type 0
IsFirstFormFault f bytes fault = IsFirstWholeFault (spelling f) bytes fault
