use Rattle.std.proofs.Common.{map, string_bytes}
use Rattle.it_space.specs.Answers.{certificate_view}
use Rattle.it_certificate.proofs.ValueLemmas.{derived_back_is, derived_text_is}
use Rattle.it_certificate.proofs.writing.derived_string.Goals as goal

pub returns-clause-text : goal.returns-clause-text
returns-clause-text c = derived_text_is string_bytes c.args.question.now c.args.names.now c.args.rows.now
    (map certificate_view c.args.origins.now) _ c.to_string.result c.in_ok-value.ensures c.to_string.ensures.text

pub returns-clause-reads_back : goal.returns-clause-reads_back
returns-clause-reads_back c = derived_back_is string_bytes c.args.question.now c.args.names.now c.args.rows.now
    (map certificate_view c.args.origins.now) _ c.to_string.result c.in_ok-value.ensures c.to_string.ensures.reads_back
