use Rattle.it_spans.proofs.SpanLemmas.{one_span_end, spans_are_right}
use Rattle.it_spans.proofs.laws.spans_are_determined.Goals as goal

pub returns : goal.returns
returns c = record { right = spans_are_right; one = one_span_end }
