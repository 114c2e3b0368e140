use Rattle.std.proofs.Common.{List, ap, sym, ◌∙◌}
use Rattle.it_space.specs.Answers.{answer_view}
use Rattle.it_syntax.specs.Meaning.{relation_view}
use Rattle.it_question.specs.Questions.{verb_view}
use Rattle.it_demand.specs.Targets.{targets}
use Rattle.it_run.proofs.AnswerLemmas.{if_ok}
use Rattle.it_contain.specs.Proposals.{Plan}
use Rattle.it_answer.specs.RightAnswers.{IsAnswered}
use Rattle.it_answer.specs.RowAnswers.{AnswersForms}
use Rattle.it_answer.proofs.AnswerLemmas.{answers_relation, nothing_found}
use Rattle.it_answer.proofs.ContainmentLemmas.{is_containment}
use Rattle.it_answer.proofs.answering.answer_under.Goals as goal

pub returns-in-Prove : goal.returns-in-Prove
returns-in-Prove g c =
    let q = c.args.question.now.body in
    let p = c.args.problem.now in
    let r = relation_view c.in-Prove.relation in
    if_ok c.relation_answer.result (λ a. AnswersForms p (targets p.space.variables r) (answer_view a) c.args.budgets.effort)
    (λ a. IsAnswered c.args.budgets _ c.args.question.now a _) c.relation_answer.ensures
    (λ a answered. nothing_found c.args.budgets _ c.args.question.now a (answers_relation q p c.requires.problem.space
    c.requires.problem.constraints c.requires.problem.limits c.args.budgets _ r (answer_view a) (sym c.verb.ensures.value ∙ ap verb_view c.in-Prove.is) answered))

pub returns-in-Eliminate : goal.returns-in-Eliminate
returns-in-Eliminate g c =
    if_ok c.region.result (λ a. (plans : List Plan) → IsAnswered c.args.budgets plans c.args.question.now a plans)
    (λ a. IsAnswered c.args.budgets _ c.args.question.now a _) c.region.ensures (λ a x. x _)

pub containment-requires : goal.containment-requires
containment-requires g c = record {
  contains = is_containment c.args.question.now.body c.in-Contain.first c.in-Contain.second
      c.in-Contain.tries.items (sym c.verb.ensures.value ∙ ap verb_view c.in-Contain.is);
}
