-- A law of the reading of dependences.
use Rattle.std.specs.Prelude.{◌≡◌, ◌↔◌, ℕ, Some}
use Rattle.it_space.specs.declared.spaces.Space.{Space}
use Rattle.it_problems.specs.declared.problems.Constraint.{Constraint}
use Rattle.it_space.specs.Rows.{IsOver}
use Rattle.it_closure.specs.declared.dependences.Dependence.{Dependence}
use Rattle.it_closure.specs.Reading.{SaysDependence, read_one}

-- read_one gives exactly the dependence that a constraint states, with the constraint's number
abbrev pub ReadsExactly : Type 0
ReadsExactly = (s : Space) (size g : ℕ) (c : Constraint) (d : Dependence) → IsOver size c.row → (read_one s.variables g c ≡ Some d) ↔ (SaysDependence s c d × (d.generator ≡ g))
