use Rattle.std.proofs.Common.{rules}
use Rattle.it_certificate.proofs.PairLemmas.{two_of_fewer, two_of_more}
use Rattle.it_certificate.proofs.lists.two_values.Goals as goal
use Rattle.it_certificate.proofs.lists.two_values.Goals.{in_default-via-then-values-lt2, in_default-via-else-values-lt2+else-values-lt3}

pub returns-in_default : goal.returns-in_default
returns-in_default c = elim c.in_default.branch [
  | in_default-via-then-values-lt2 w ↦ two_of_fewer c.args.values.now (search rules)
  | in_default-via-else-values-lt2+else-values-lt3 w ↦ two_of_more c.args.values.now (search rules)
]
