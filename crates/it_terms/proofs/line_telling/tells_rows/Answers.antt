use Rattle.std.proofs.Common.{map}
use Rattle.it_space.specs.Rows.{value}
use Rattle.it_syntax.specs.Meaning.{relation_view}
use Rattle.it_terms.proofs.SignLemmas.{forms_told}
use Rattle.it_terms.proofs.line_telling.tells_rows.Goals as goal

pub returns-in-Some : goal.returns-in-Some
returns-in-Some c = forms_told c.args.names.now (map value c.args.rows.now) c.args.text.now c.space.result
    (relation_view c.in-Some.relation) c.says_rows.result c.space.ensures.counts
    (rw c.in-Some.is at c.in_ok-relation.ensures.is) c.says_rows.ensures
