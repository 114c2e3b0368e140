use Rattle.it_answer.proofs.AnswerLemmas.{answered_under}
use Rattle.it_answer.proofs.answering.answer.Goals as goal

pub returns-clause-answered : goal.returns-clause-answered
returns-clause-answered g c = answered_under c.args.budgets c.in_ok-own.own c.args.question.now c.in_ok-problem.problem c.in_ok-problem.ensures.poses
    c.in_ok-own.ensures _ _ c.in_ok-answer.answer c.in_ok-answer.ensures
