use Rattle.std.proofs.Common.{◌≡◌, ◌∷◌, []}
use Rattle.it_space.specs.Answers.{answer_view}
use Rattle.it_syntax.specs.Meaning.{relation_view}
use Rattle.it_demand.specs.Canonical.{form_of}
use Rattle.it_run.proofs.AnswerLemmas.{if_ok}
use Rattle.it_prove.specs.ProofViews.{proof_view}
use Rattle.it_answer.specs.RowAnswers.{AnswersForms, answer_after_one}
use Rattle.it_answer.proofs.AnswerLemmas.{answers_one}
use Rattle.it_answer.proofs.answering.inequality.Goals as goal

pub returns : goal.returns
returns c =
    let p = c.args.problem.now in
    let f = form_of p.space.variables (relation_view c.args.relation.now) in
    let o = proof_view c.in_ok-proof.proof in
    if_ok c.after_one.result (λ a. answer_view a ≡ answer_after_one o) (λ a. AnswersForms p (f ∷ []) (answer_view a) c.args.effort) c.after_one.ensures
    (λ a is. answers_one p f c.in_ok-row.row (rw c.space.ensures.value at c.in_ok-row.ensures) c.args.effort o
    (answer_view a) is c.in_ok-proof.ensures.right c.in_ok-proof.ensures.ends)
