use Rattle.it_rational.proofs.Field.{field_ℚ}
use Rattle.it_tableau.proofs.Kept.{kept_combines}
use Rattle.it_tableau.proofs.laws.pivots_combine_start.Goals as goal

pub returns : goal.returns
returns c = λ m n p t r c h e. kept_combines field_ℚ m n p t r c h e
