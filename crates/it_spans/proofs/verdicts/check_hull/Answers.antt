use Rattle.it_spans.specs.Spans.{spanned_view, step_views}
use Rattle.it_spans.proofs.VerdictLemmas.{valid_rows}
use Rattle.it_spans.proofs.verdicts.check_hull.Goals as goal

pub returns-clause-hull : goal.returns-clause-hull
returns-clause-hull c = λ valid. valid_rows c.args.frame c.args.kept.now (step_views c.args.steps.now) c.args.rows.now
    (spanned_view c.in_ok-end.end) c.rows_verdict.result c.requires.frame c.requires.kept
    c.in_ok-end.ensures.ends c.rows_verdict.ensures valid
