use Rattle.std.proofs.Common.{◌≤◌, subst, sym}
use Rattle.it_space.specs.Rows.{most_system_rows}
use Rattle.it_outer.specs.declared.types.Limits.{Limits}
use Rattle.it_bounds.specs.Replies.{reply_view}
use Rattle.it_bounds.proofs.RightLemmas.{right_under}
use Rattle.it_bounds.proofs.replying.reply.Goals as goal

pub reply_under-requires-clause-few_rows : goal.reply_under-requires-clause-few_rows
reply_under-requires-clause-few_rows c = subst (λ (l : Limits). l.rows ≤ most_system_rows) (sym c.in_ok-own.ensures) c.requires.few_rows

pub returns-clause-right : goal.returns-clause-right
returns-clause-right c = right_under c.args.file c.args.limits c.in_ok-own.own c.args.question.now.body c.in_ok-problem.problem c.in_ok-problem.ensures
    c.in_ok-own.ensures (reply_view c.in_ok-reply.reply) c.in_ok-reply.ensures.right
