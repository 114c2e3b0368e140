use Rattle.std.proofs.Common.{string_bytes}
use Rattle.it_space.specs.Answers.{answer_view}
use Rattle.it_certificate.proofs.ValueLemmas.{text_is, back_is}
use Rattle.it_certificate.proofs.writing.answer_string.Goals as goal

pub returns-clause-text : goal.returns-clause-text
returns-clause-text c = text_is string_bytes c.args.question.now c.args.names.now
    (answer_view c.args.answer.now) _ c.to_string.result c.in_ok-value.ensures c.to_string.ensures.text

pub returns-clause-reads_back : goal.returns-clause-reads_back
returns-clause-reads_back c = back_is string_bytes c.args.question.now c.args.names.now
    (answer_view c.args.answer.now) _ c.to_string.result c.in_ok-value.ensures c.to_string.ensures.reads_back
