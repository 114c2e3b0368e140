-- No public clause cites this module: what the readers of parts give, against the definitions.
use Rattle.std.specs.Prelude.{◌≡◌, List, ◌++◌, Option, Some, None, option_map, Result, Ok, Err}
use Rattle.it_certificate.specs.declared.keys.Key.{Key}
use Rattle.it_certificate.specs.declared.keys.ReportFault.{ReportFault}
use Rattle.it_certificate.specs.declared.keys.ReportFault.TheVariants as faults
use Rattle.it_certificate.specs.declared.keys.Refusal.{Refusal}
use Rattle.it_certificate.specs.declared.keys.Refusal.TheVariants.{Memory, Shape}

-- what a reader gave, against what there is to be read
abbrev pub Yields : {A B : Type 0} → (A → B) → Result A Refusal → Option B → Type 0
Yields view (Ok a) o = o ≡ Some (view a)
Yields view (Err Shape) o = o ≡ None
Yields view (Err Memory) o = Unit {0}

-- what a reader of keys gave
abbrev pub GivesKeyed : {A B : Type 0} → (A → B) → Result A ReportFault → Result B Key → Type 0
GivesKeyed view (Ok a) r = r ≡ Ok (view a)
GivesKeyed view (Err (faults.Shape key)) r = r ≡ Err key
GivesKeyed view (Err faults.NotJson) r = ⊥
GivesKeyed view (Err faults.Memory) r = Unit {0}

-- the fault of a line whose part at `key` isn't read
abbrev pub fault_by : Refusal → Key → ReportFault
fault_by Memory key = faults.Memory
fault_by Shape key = faults.Shape key

-- what was read before what is still to be read
abbrev pub prepend : {A : Type 0} → List A → Option (List A) → Option (List A)
prepend xs o = option_map (λ ys. xs ++ ys) o
