use Rattle.it_spans.specs.Spans.{spanned_view, step_views}
use Rattle.it_spans.proofs.SpanLemmas.{spans_are_right}
use Rattle.it_spans.proofs.spans.hull.Goals as goal

pub returns-clause-hull : goal.returns-clause-hull
returns-clause-hull c = spans_are_right c.args.frame c.args.kept.now (step_views c.args.steps.now)
    (spanned_view c.in_ok-end.end) c.requires.frame c.requires.kept c.in_ok-end.ensures
