use Rattle.std.proofs.Common.{}
use Rattle.it_space.specs.Rows.{value}
use Rattle.it_terms.proofs.SameProofs.{printed_by_lines}
use Rattle.it_terms.proofs.printing.printed_form.Goals as goal

pub returns-in-Ok : goal.returns-in-Ok
returns-in-Ok c = printed_by_lines (λ t. t.lines.items) (λ t. t.named.items) (λ t. t.text.items) (λ t. t.whole.items) (λ t. t.by.items)
    c.args.question.now.body (value c.args.proven.now.row.now) c.in_ok-posed.posed.space c.in_ok-posed.posed.constraints
    c.in-Ok.proof c.in_ok-posed.ensures.poses.constraints c.in-Ok.ensures
