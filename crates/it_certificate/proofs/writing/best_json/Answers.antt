use Rattle.std.proofs.Common.{ap, ◌∙◌}
use Rattle.serde_json.specs.Written.{members_have_float}
use Rattle.it_ratio.specs.BestViews.{best_view}
use Rattle.it_certificate.proofs.ValueLemmas.{best_no_float}
use Rattle.it_certificate.proofs.writing.best_json.Goals as goal

pub line_about-requires : goal.line_about-requires
line_about-requires c = ap members_have_float c.in_ok-members.ensures ∙ best_no_float (best_view c.args.best.now)
