-- What a sharing file says, and the first fault of one that has no reading.
use Rattle.std.specs.Prelude.{◌≡◌, ℕ, List, ◌⊎◌}
use Rattle.it_forms.specs.declared.types.Code.{Code}
use Rattle.it_question.specs.declared.sizes.FileLimits.{FileLimits}
use Rattle.it_question.specs.declared.types.FileFault.{FileFault}
use Rattle.it_question.specs.WholeForms.{SaysInForm, FormFaultAt, IsFirstFormFault}
use Rattle.it_sharing.specs.Sharings.{SharingView, IsSharing, IsBoundWhereBest}
use Rattle.it_sharing.specs.SharingForms.{sharing}

-- the bytes say x, in a file with these limits
abbrev pub IsSharingFile : FileLimits → List ℕ → SharingView → Type 0
IsSharingFile limits bytes x = SaysInForm (sharing limits) (λ lines y. y) bytes x

-- The first fault of these bytes, as a file with these limits, is `code`, at this line and column.
abbrev pub SharingFaultAt : FileLimits → List ℕ → ℕ → ℕ → Code → Type 0
SharingFaultAt limits bytes line column code = FormFaultAt (sharing limits) bytes line column code

-- of an error: memory ran out, or it is the first fault
abbrev pub IsFirstSharingFault : FileLimits → List ℕ → FileFault → Type 0
IsFirstSharingFault limits bytes fault = IsFirstFormFault (sharing limits) bytes fault

-- a file has at most one reading
abbrev pub SharingIsOne : Type 0
SharingIsOne = (limits : FileLimits) (bytes : List ℕ) (x y : SharingView) → IsSharingFile limits bytes x → IsSharingFile limits bytes y
    → x ≡ y

-- a file has at most one first fault, with its place and its code
abbrev pub SharingFaultIsOne : Type 0
SharingFaultIsOne = (limits : FileLimits) (bytes : List ℕ) (line column row place : ℕ) (c d : Code)
    → SharingFaultAt limits bytes line column c → SharingFaultAt limits bytes row place d
    → (line ≡ row) × (column ≡ place) × (c ≡ d)

-- no file has both a reading and a first fault
abbrev pub SharingOrFault : Type 0
SharingOrFault = (limits : FileLimits) (bytes : List ℕ) (x : SharingView) (line column : ℕ) (c : Code) → IsSharingFile limits bytes x
    → SharingFaultAt limits bytes line column c → ⊥

-- A file has a reading or a first fault.
abbrev pub SharingHasOne : Type 0
SharingHasOne = (limits : FileLimits) (bytes : List ℕ)
    → ((x : SharingView) × IsSharingFile limits bytes x)
    ⊎ ((line : ℕ) × (column : ℕ) × (c : Code) × SharingFaultAt limits bytes line column c)

-- What a file says is within the limits.
abbrev pub SharingIsWithin : Type 0
SharingIsWithin = (limits : FileLimits) (bytes : List ℕ) (x : SharingView) → IsSharingFile limits bytes x → IsSharing x × IsBoundWhereBest x
