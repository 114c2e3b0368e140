use Rattle.std.proofs.Common.{ap, sym, ◌∙◌}
use Rattle.it_space.specs.Answers.{answer_view}
use Rattle.it_question.specs.Questions.{verb_view}
use Rattle.it_region.proofs.PairLemmas.{pair_of_verb}
use Rattle.it_answer.specs.SearchAnswers.{found_of}
use Rattle.it_answer.proofs.ContainmentLemmas.{question_is_answered}
use Rattle.it_answer.proofs.containments.containment.Goals as goal

pub returns : goal.returns
returns g c =
    let q = c.args.question.now.body in
    let a = c.in-Contain.first in
    let b = c.in-Contain.second in
    let tries = c.in-Contain.tries.items in
    let is = sym c.verb.ensures.value ∙ ap verb_view c.in-Contain.is in
    let p = c.in_ok-pair.pair in
    let answered =
    question_is_answered q a b tries p c.facts.ensures is c.in_ok-pair.ensures.limits
    (pair_of_verb q a b tries p is c.in_ok-pair.ensures.pair) c.args.budgets _ _
    c.in_ok-end.end c.as_slice-2.result.now (answer_view c.in_ok-answer.answer)
    (c.as_slice-2.ensures.value ∙ (rw c.as_slice.ensures.value at c.in_ok-tried.ensures)) c.in_ok-answer.ensures c.in_ok-end.ensures in
    record { found = found_of c.in_ok-end.end; right = answered.0; learned = answered.1 }
