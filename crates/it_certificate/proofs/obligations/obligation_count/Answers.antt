use Rattle.std.proofs.Common.{rules}
use Rattle.it_certificate.proofs.ObligationLemmas.{count_is}
use Rattle.it_certificate.proofs.obligations.obligation_count.Goals as goal

pub returns : goal.returns
returns c = count_is c.args.region.now c.givens_form_count.result c.rows_form_count.result c.givens_form_count.ensures.count (search rules)
