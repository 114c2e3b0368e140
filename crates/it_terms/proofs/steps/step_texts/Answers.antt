use Rattle.std.proofs.Common.{List, ℕ, ◌+◌, ◌∷◌, [], map, take, subst, sym, ap, ◌∙◌}
use Rattle.std.proofs.lemmas.List.{map-append}
use Rattle.it_syntax.specs.declared.types.Term.{Term}
use Rattle.it_terms.specs.ProofSteps.{AreStepTexts}
use Rattle.it_terms.proofs.StepLemmas.{no_step, one_step_more}
use Rattle.it_terms.proofs.steps.step_texts.Goals as goal

pub loop-i-init : goal.loop-i-init
loop-i-init c = rw c.in_ok-sum.ensures.items (rw c.new-lines.ensures.items (no_step c.args.names.now c.args.first.now))

pub loop-i-preserved : goal.loop-i-preserved
loop-i-preserved c =
    let v = c.args.names.now in
    let lines = map (λ line. line.items) c.loop-i.lines.items in
    let step = c.in-Some.step in
    let term = c.index-terms-i.result in
    subst (λ (ls : List (List ℕ)). AreStepTexts v c.args.first.now (take (c.loop-i.i + 1) c.args.terms.now) step.sum.items ls)
    (sym (ap (map (λ line. line.items)) c.in_ok-push-in-Some.ensures.items ∙ map-append (λ line. line.items) c.loop-i.lines.items (step.text ∷ [])))
    (one_step_more v c.args.first.now c.args.terms.now c.loop-i.sum.items step.sum.items lines c.loop-i.i term step.text.items
    c.loop-i-test.true c.index-terms-i.is c.loop-i.invariant
    (subst (λ (sum : List Term). AreStepTexts v sum (term ∷ []) step.sum.items (step.text.items ∷ [])) c.as_slice.ensures.value
    (rw c.in-Some.is at c.in_ok-step.ensures)))
