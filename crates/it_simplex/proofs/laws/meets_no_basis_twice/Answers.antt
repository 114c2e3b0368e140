use Rattle.std.proofs.Common.{ℕ, ◌≤◌, arith}
use Rattle.it_rational.proofs.Field.{field_ℚ}
use Rattle.it_tableau.specs.Operations.{rationals}
use Rattle.it_tableau.specs.SimplexTables.{start}
use Rattle.it_tableau.proofs.StartLemmas.{start_has_invariants}
use Rattle.it_run.proofs.BasisSets.{never_set_again}
use Rattle.it_simplex.proofs.laws.meets_no_basis_twice.Goals as goal

at_most_itself : (b : ℕ) → b ≤ b
at_most_itself b = omega arith

pub returns : goal.returns
returns c = λ m n p a b l go w v.
    never_set_again field_ℚ m n p (start rationals m n p) (start_has_invariants field_ℚ m n p) b go a b l (at_most_itself b) w v
