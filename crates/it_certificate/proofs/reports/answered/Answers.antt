use Rattle.serde_json.specs.View.{view}
use Rattle.it_space.specs.Answers.{answer_view}
use Rattle.it_certificate.proofs.FitLemmas.{answer_fits}
use Rattle.it_certificate.proofs.ReportLemmas.{answer_ok}
use Rattle.it_certificate.proofs.reports.answered.Goals as goal

pub returns-in-Ok-clause-reading : goal.returns-in-Ok-clause-reading
returns-in-Ok-clause-reading c =
    answer_ok c.args.limits (view c.args.value.now) c.requires.told c.requires.outer c.requires.factors c.requires.code c.requires.origins
    c.in-Some.kind c.in-Some.ensures c.in_ok-question.question c.in-Ok.answer c.in_ok-question.ensures.reading c.in-Ok.ensures

pub returns-in-Ok-clause-limits : goal.returns-in-Ok-clause-limits
returns-in-Ok-clause-limits c = (
  c.in_ok-question.ensures.limits,
  answer_fits c.in_ok-question.question c.in-Some.kind (view c.args.value.now)
      (answer_view c.in-Ok.answer) c.in-Ok.ensures,
)
