use Rattle.std.proofs.Common.{arith}
use Rattle.it_cli.proofs.CountLemmas.{counting_done, counting_first, counting_more}
use Rattle.it_cli.proofs.benching.counts_of.Goals as goal

pub loop-question-init : goal.loop-question-init
loop-question-init g c = rw c.new-counts.ensures (counting_first c.args.budgets _ _)

pub with_answer-counts-requires : goal.with_answer-counts-requires
with_answer-counts-requires g c = let few = c.loop-question.invariant.few in omega (arith, few)

pub loop-question-preserved : goal.loop-question-preserved
loop-question-preserved g c = rw c.with_answer-counts.ensures (counting_more c.args.budgets _ _ _ c.args.questions.now
    c.loop-question.question-index c.question-item.result c.loop-question.counts _ c.loop-question.invariant
    (omega arith) c.question-item.is
    c.in_ok-answered.ensures.answered)

pub returns : goal.returns
returns g c = counting_done c.args.budgets _ _ _ c.loop-question.question-index c.loop-question.counts c.loop-question.invariant (omega arith)
