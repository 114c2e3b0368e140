use Rattle.std.proofs.Common.{◌≡◌, ◌∷◌, [], subst, refl}
use Rattle.it_space.specs.Answers.{answer_view, certificate_view}
use Rattle.it_syntax.specs.Meaning.{relation_view}
use Rattle.it_demand.specs.Canonical.{form_of}
use Rattle.it_demand.specs.Targets.{negation}
use Rattle.it_run.proofs.AnswerLemmas.{if_ok}
use Rattle.it_prove.specs.ProofViews.{EndsWith, IsRightProof, proof_view}
use Rattle.it_space.specs.Rows.{negated_terms}
use Rattle.it_answer.specs.RowAnswers.{AnswersForms, answer_after_one, answer_after_two}
use Rattle.it_answer.proofs.AnswerLemmas.{answers_first, answers_two, row_negation}
use Rattle.it_answer.proofs.answering.equation.Goals as goal

pub prove-requires-in-Yes-clause-target : goal.prove-requires-in-Yes-clause-target
prove-requires-in-Yes-clause-target c =
    (row_negation c.args.problem.now.space (form_of c.args.problem.now.space.variables (relation_view c.args.relation.now)) c.in_ok-row.row
    c.in_ok-other-in-Yes.other c.in_ok-other-in-Yes.ensures (rw c.space.ensures.value at c.in_ok-row.ensures)).coordinates

pub prove-requires-in-Yes-clause-closed : goal.prove-requires-in-Yes-clause-closed
prove-requires-in-Yes-clause-closed c = c.in_ok-proof.ensures.stays c.args.problem.now c.in_ok-closed.ensures

pub returns-in-Yes : goal.returns-in-Yes
returns-in-Yes c =
    let p = c.args.problem.now in
    let f = form_of p.space.variables (relation_view c.args.relation.now) in
    let g = negation f in
    let t = c.in_ok-row.row in
    let u = c.in_ok-other-in-Yes.other in
    let w = certificate_view c.in-Yes.certificate in
    let o = proof_view c.in_ok-proof-in-Yes.proof in
    if_ok c.after_two.result (λ a. answer_view a ≡ answer_after_two w o) (λ a. AnswersForms p (f ∷ g ∷ []) (answer_view a) c.args.effort) c.after_two.ensures
    (λ a is. answers_two p f t (rw c.space.ensures.value at c.in_ok-row.ensures) c.args.effort g u
    (row_negation p.space f t u c.in_ok-other-in-Yes.ensures (rw c.space.ensures.value at c.in_ok-row.ensures)) w o (answer_view a) is
    (subst (λ x. IsRightProof p t (proof_view x)) c.in-Yes.is c.in_ok-proof.ensures.right)
    (subst (λ x. EndsWith p t c.args.effort (proof_view x)) c.in-Yes.is c.in_ok-proof.ensures.ends) c.in_ok-proof-in-Yes.ensures.right
    c.in_ok-proof-in-Yes.ensures.ends)

pub returns : goal.returns
returns c =
    let p = c.args.problem.now in
    let f = form_of p.space.variables (relation_view c.args.relation.now) in
    let g = negation f in
    let t = c.in_ok-row.row in
    if_ok c.after_one.result (λ a. answer_view a ≡ answer_after_one (proof_view c.in_ok-proof.proof))
    (λ a. AnswersForms p (f ∷ g ∷ []) (answer_view a) c.args.effort)
    c.after_one.ensures
    (λ a is. answers_first p f t (rw c.space.ensures.value at c.in_ok-row.ensures) c.args.effort g (negated_terms t)
    (row_negation p.space f t (negated_terms t) refl (rw c.space.ensures.value at c.in_ok-row.ensures)) c.in_ok-proof.proof
    (answer_view a) is (λ k e. c.in_default.not-Yes k e)
    c.in_ok-proof.ensures.right c.in_ok-proof.ensures.ends)
