use Rattle.std.proofs.Common.{List, ◌∷◌, [], sym, subst, ◌∙◌}
use Rattle.it_syntax.specs.declared.types.Term.{Term}
use Rattle.it_syntax.specs.Meaning.{relation_view}
use Rattle.it_terms.specs.ProofSteps.{AreStepTexts}
use Rattle.it_terms.proofs.StepLemmas.{one_step}
use Rattle.it_terms.proofs.steps.judged.Goals as goal

pub returns-in_ok-after : goal.returns-in_ok-after
returns-in_ok-after c =
    subst (λ (ts : List Term). AreStepTexts c.args.names.now c.args.sum.now (c.args.term.now ∷ []) ts (c.args.text.items ∷ []))
    (sym (c.in_ok-after.ensures.items ∙ c.as_slice-right.ensures.value))
    (one_step c.args.names.now c.args.sum.now c.args.term.now c.args.text.items (relation_view c.in-Some.read)
    (rw c.as_slice.ensures.value at rw c.in-Some.is at c.in_ok-read.ensures.is)
    (sym c.as_slice-2.ensures.value ∙ c.if-are_same_terms.ensures ∙ c.as_slice-3.ensures.value ∙ c.in_ok-left.ensures))
