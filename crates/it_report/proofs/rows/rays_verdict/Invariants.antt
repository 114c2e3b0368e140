use Rattle.std.proofs.Common.{◌≡◌, drop}
use Rattle.it_spans.specs.Spans.{step_views}
use Rattle.it_report.specs.RowVerdicts.{rays_verdict}
use Rattle.it_report.proofs.rows.rays_verdict.Given as goal

abbrev pub invariant-loop-step : goal.invariant-loop-step
invariant-loop-step l = rays_verdict l.problem (step_views (drop l.step-index l.steps)) ≡ rays_verdict l.problem (step_views l.steps)
