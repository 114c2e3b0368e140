use Rattle.it_factor.specs.Replies.{reply_view}
use Rattle.it_factor.proofs.RightLemmas.{right_under}
use Rattle.it_factor.proofs.replying.reply.Goals as goal

pub returns-clause-right : goal.returns-clause-right
returns-clause-right c = right_under c.args.effort c.in_ok-own.own c.args.question.now.body c.in_ok-problem.problem c.in_ok-problem.ensures.poses
    c.in_ok-own.ensures (reply_view c.in_ok-reply.reply) c.in_ok-reply.ensures.right
