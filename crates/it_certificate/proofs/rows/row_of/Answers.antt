use Rattle.std.proofs.Common.{rules}
use Rattle.it_certificate.proofs.RowLemmas.{row_is_canonical}
use Rattle.it_certificate.proofs.rows.row_of.Goals as goal

pub new-requires : goal.new-requires
new-requires c = row_is_canonical c.args.size c.args.terms.items (search rules) c.requires
