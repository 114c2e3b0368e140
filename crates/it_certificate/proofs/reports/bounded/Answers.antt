use Rattle.serde_json.specs.View.{view}
use Rattle.it_certificate.specs.Bounds.{bounds_view}
use Rattle.it_certificate.proofs.FitLemmas.{bounds_fit}
use Rattle.it_certificate.proofs.reports.bounded.Goals as goal

pub returns-in-Ok-clause-limits : goal.returns-in-Ok-clause-limits
returns-in-Ok-clause-limits c =
    (c.in_ok-question.ensures.limits, bounds_fit c.in_ok-question.question (view c.args.value.now) (bounds_view c.in-Ok.bounds) c.in-Ok.ensures)
