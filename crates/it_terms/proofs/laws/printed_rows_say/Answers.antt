use Rattle.it_terms.proofs.RowLemmas.{printed_rows_say}
use Rattle.it_terms.proofs.laws.printed_rows_say.Goals as goal

pub returns : goal.returns
returns c = printed_rows_say
