-- The steps of a report, of what the code has.
use Rattle.std.proofs.Common.{◌≡◌, ◌<◌, List, ℕ, length, All, sym, ap, subst, ◌∙◌}
use Rattle.std.proofs.lemmas.List.{get_or-map, length-map}
use Rattle.it_spans.specs.declared.types.Step.{Step}
use Rattle.it_spans.specs.Spans.{StepView, step_view, step_views}

-- steps have a value for each coordinate where their views have
pub steps_complete : (size : ℕ) (steps : List Step) → All (λ (v : StepView). length v.ray ≡ size) (step_views steps)
    → All (λ (s : Step). length s.ray ≡ size) steps
steps_complete size steps h k d l =
    sym (ap (λ (v : StepView). length v.ray) (get_or-map step_view steps k d (step_view d) l))
    ∙ h k (step_view d) (subst (λ n. k < n) (sym (length-map steps step_view)) l)
