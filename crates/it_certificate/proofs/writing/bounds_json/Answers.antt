use Rattle.std.proofs.Common.{ap, ◌∙◌}
use Rattle.serde_json.specs.Written.{members_have_float}
use Rattle.it_certificate.specs.Bounds.{bounds_view}
use Rattle.it_certificate.proofs.ValueLemmas.{bounds_no_float}
use Rattle.it_certificate.proofs.writing.bounds_json.Goals as goal

pub line_about-requires : goal.line_about-requires
line_about-requires c = ap members_have_float c.in_ok-members.ensures ∙ bounds_no_float (bounds_view c.args.bounds.now)
