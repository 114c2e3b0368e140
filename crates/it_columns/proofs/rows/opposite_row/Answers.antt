use Rattle.std.proofs.Common.{◌∙◌, ap}
use Rattle.it_space.specs.Rows.{negated_terms}
use Rattle.it_space.proofs.TermLemmas.{ascends-negated_terms}
use Rattle.it_columns.proofs.rows.opposite_row.Goals as goal

pub new-requires : goal.new-requires
new-requires c = rw (c.in_ok-terms.ensures ∙ ap negated_terms c.terms.ensures.value) (ascends-negated_terms 0 c.args.row.now c.terms.ensures.canonical)
