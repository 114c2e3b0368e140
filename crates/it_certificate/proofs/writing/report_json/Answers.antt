use Rattle.std.proofs.Common.{ap, ◌∙◌}
use Rattle.serde_json.specs.Written.{members_have_float}
use Rattle.it_space.specs.Answers.{answer_view}
use Rattle.it_certificate.proofs.ValueLemmas.{answer_no_float}
use Rattle.it_certificate.proofs.writing.report_json.Goals as goal

pub line_about-requires : goal.line_about-requires
line_about-requires c = ap members_have_float c.in_ok-members.ensures ∙ answer_no_float c.args.names.now (answer_view c.args.answer.now)
