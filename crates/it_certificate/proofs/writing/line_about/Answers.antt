use Rattle.std.proofs.Common.{ap, ◌∙◌}
use Rattle.serde_json.specs.Data.{object}
use Rattle.serde_json.specs.View.{members_view}
use Rattle.it_certificate.specs.Values.{source_texts}
use Rattle.it_certificate.proofs.ValueLemmas.{line_is}
use Rattle.it_certificate.proofs.writing.line_about.Goals as goal

pub returns : goal.returns
returns c = rw c.into_bytes.ensures.value
    (line_is (source_texts c.args.source) (members_view c.args.members.map.entries) _ _ c.requires
    (c.into_value-value.ensures ∙ ap object c.in_ok-members.ensures) c.in_ok-line.ensures.text)
