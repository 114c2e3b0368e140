-- Parts of `obligations`. No public clause cites this module: it serves the proofs of private functions.
use Rattle.std.specs.Prelude.{◌≡◌, ℕ, ◌<◌, ◌^◌, List, length, All}
use Rattle.it_problems.specs.declared.problems.Constraint.{Constraint}
use Rattle.it_space.specs.Rows.{value}
use Rattle.it_polymatroid.specs.Certificates.{Form}
use Rattle.it_demand.specs.Targets.{inequalities_of}
use Rattle.it_region.specs.declared.types.Pair.{Pair}
use Rattle.it_region.specs.Obligations.{pulled_form}

-- a set of the first region's variables for each variable of the second
pub record AreSetsFor (p : Pair) (sets : List ℕ) : Type 0 where
  pub complete : length sets ≡ p.space.variables
  pub within : All (λ s. s < 2 ^ p.first.space.variables) sets

-- the obligations that one constraint gives
abbrev pub obligations_of : (ℕ → ℕ) → Constraint → List Form
obligations_of f c = inequalities_of c.kind (pulled_form f (value c.row))
