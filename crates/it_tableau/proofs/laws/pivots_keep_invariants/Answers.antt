use Rattle.it_rational.proofs.Field.{field_ℚ}
use Rattle.it_tableau.proofs.Kept.{pivot_keeps_invariants}
use Rattle.it_tableau.proofs.laws.pivots_keep_invariants.Goals as goal

pub returns : goal.returns
returns c = λ m n p t r k h e. pivot_keeps_invariants field_ℚ m n p t r k h e
