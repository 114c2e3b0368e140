use Rattle.it_rational.proofs.Field.{field_ℚ}
use Rattle.it_tableau.proofs.StartLemmas.{start_has_invariants}
use Rattle.it_tableau.proofs.laws.start_has_invariants.Goals as goal

pub returns : goal.returns
returns c = λ m n p. start_has_invariants field_ℚ m n p
