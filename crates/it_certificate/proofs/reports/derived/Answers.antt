use Rattle.std.proofs.Common.{map}
use Rattle.serde_json.specs.View.{view}
use Rattle.it_space.specs.Answers.{answer_view, certificate_view}
use Rattle.it_certificate.proofs.OriginFits.{derived_fits}
use Rattle.it_certificate.proofs.ReportLemmas.{origins_err, origins_ok}
use Rattle.it_certificate.proofs.reports.derived.Goals as goal

pub returns-in-Ok-answer_origins-clause-reading : goal.returns-in-Ok-answer_origins-clause-reading
returns-in-Ok-answer_origins-clause-reading c =
    origins_ok c.args.limits (view c.args.value.now) c.requires.told c.requires.outer c.requires.factors c.requires.code c.requires.origins
    c.in_ok-question.question c.in_ok-question.ensures.reading
    c.in-Ok.answer c.in-Ok.ensures c.in-Ok-answer_origins.origins c.in-Ok-answer_origins.ensures

pub returns-in-Ok-answer_origins-clause-limits : goal.returns-in-Ok-answer_origins-clause-limits
returns-in-Ok-answer_origins-clause-limits c = (
  c.in_ok-question.ensures.limits,
  derived_fits c.in_ok-question.question (view c.args.value.now) (answer_view c.in-Ok.answer)
      (map certificate_view c.in-Ok-answer_origins.origins.items) c.in-Ok.ensures c.in-Ok-answer_origins.ensures,
)

pub returns-in-Err-answer_origins-clause-reading : goal.returns-in-Err-answer_origins-clause-reading
returns-in-Err-answer_origins-clause-reading c =
    origins_err c.args.limits (view c.args.value.now) c.requires.told c.requires.outer c.requires.factors c.requires.code c.requires.origins
    c.in_ok-question.question c.in_ok-question.ensures.reading
    c.in-Ok.answer c.in-Ok.ensures c.in-Err-answer_origins.fault c.in-Err-answer_origins.ensures
