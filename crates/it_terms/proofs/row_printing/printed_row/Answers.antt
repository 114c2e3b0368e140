use Rattle.std.proofs.Common.{}
use Rattle.it_terms.proofs.RowLemmas.{row_printed_by_lines}
use Rattle.it_terms.proofs.row_printing.printed_row.Goals as goal

pub returns-in-Ok : goal.returns-in-Ok
returns-in-Ok c = row_printed_by_lines (λ t. t.lines.items) (λ t. t.text.items)
    c.args.question.now.body c.args.row.now c.in_ok-posed.posed.space c.in_ok-posed.posed.constraints
    c.in-Ok.printed c.in_ok-posed.ensures.poses.constraints c.in-Ok.ensures
