use Rattle.std.proofs.Common.{ℕ, List, subst, sym}
use Rattle.it_bounds.specs.Replies.{reply_view}
use Rattle.it_bounds.specs.Reports.{IsToldReport}
use Rattle.it_bounds.proofs.reporting.reply_report.Goals as goal

pub returns : goal.returns
returns c = subst (λ (text : List ℕ). IsToldReport c.args.limits c.args.question.now (reply_view c.args.reply.now) text)
    (sym c.in_ok-extend_from_slice.ensures.items) c.in_ok-line.ensures
