use Rattle.it_rational.proofs.Field.{null_from}
use Rattle.bench.proofs.fractions.write_quotient.Goals as goal

pub div-requires : goal.div-requires
div-requires c = λ e. c.if-is_zero.ensures.no (null_from _ e)
