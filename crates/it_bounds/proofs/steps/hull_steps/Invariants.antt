use Rattle.it_hull.specs.Hulls.{first_rows}
use Rattle.it_spans.specs.Spans.{step_views}
use Rattle.it_bounds.proofs.StepLemmas.{IsMaking}
use Rattle.it_bounds.proofs.steps.hull_steps.Given as goal

abbrev pub invariant-loop-ray : goal.invariant-loop-ray
invariant-loop-ray l = IsMaking l.frame l.effort (first_rows l.kept) l.rays l.ray-index l.rows.items (step_views l.steps.items)
