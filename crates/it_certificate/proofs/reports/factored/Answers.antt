use Rattle.serde_json.specs.View.{view}
use Rattle.it_ratio.specs.BestViews.{best_view}
use Rattle.it_certificate.proofs.FactorFits.{best_fits}
use Rattle.it_certificate.proofs.ReportLemmas.{best_ok}
use Rattle.it_certificate.proofs.reports.factored.Goals as goal

pub returns-in-Ok-clause-reading : goal.returns-in-Ok-clause-reading
returns-in-Ok-clause-reading c =
    best_ok c.args.limits (view c.args.value.now) c.requires.told c.requires.outer c.args.kind c.requires.factors c.in_ok-question.question c.in-Ok.best
    c.in_ok-question.ensures.reading c.in-Ok.ensures

pub returns-in-Ok-clause-limits : goal.returns-in-Ok-clause-limits
returns-in-Ok-clause-limits c = (
  c.in_ok-question.ensures.limits,
  best_fits c.in_ok-question.question c.args.kind (view c.args.value.now)
      (best_view c.in-Ok.best) c.in-Ok.ensures,
)
