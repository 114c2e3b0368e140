use Rattle.std.proofs.Common.{◌≡◌, ◌∙◌, ap, sym}
use Rattle.it_print.specs.declared.posed.PosedQuestion.{PosedQuestion}
use Rattle.it_print.specs.Lines.{origins_of}
use Rattle.it_bounds.specs.declared.types.Reply.{Reply}
use Rattle.it_bounds.specs.Lines.{reply_lines}
use Rattle.it_bounds.specs.LineSteps.{bound_lines}
use Rattle.it_bounds.specs.Replies.{reply_view}
use Rattle.it_bounds.proofs.LineLemmas.{bounds_text}
use Rattle.it_run.proofs.AnswerLemmas.{if_ok}
use Rattle.it_bounds.proofs.lines.reply_lines.Goals as goal

pub returns-in-Bounded : goal.returns-in-Bounded
returns-in-Bounded c =
    let q = c.args.question.now.body in
    let posed : PosedQuestion = record { number = c.args.k; question = c.args.question; constraints = c.args.constraints } in
    let rows = c.as_slice.result.now in
    let proofs = c.as_slice-in-Bounded.result.now in
    let rays = c.as_slice-in-Bounded-2.result.now in
    if_ok c.bounds_lines.result (λ t. t.items ≡ bound_lines posed rows proofs rays)
    (λ t. t.items ≡ reply_lines c.args.limits c.args.k q (origins_of c.args.constraints.now) (reply_view c.args.reply.now)) c.bounds_lines.ensures
    (λ t e. e ∙ bounds_text posed c.in-Bounded.rows.items rows c.in-Bounded.proofs.items proofs
    c.in-Bounded.rays.items rays c.as_slice.ensures.value c.as_slice-in-Bounded.ensures.value c.as_slice-in-Bounded-2.ensures.value
    ∙ ap (λ (r : Reply). reply_lines c.args.limits c.args.k q (origins_of c.args.constraints.now) (reply_view r)) (sym c.in-Bounded.is))
