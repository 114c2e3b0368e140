use Rattle.std.proofs.Common.{◌≤◌, option_map, subst, sym}
use Rattle.it_space.specs.Rows.{most_system_rows}
use Rattle.it_outer.specs.declared.types.Limits.{Limits}
use Rattle.it_hull.specs.Hulls.{first_rows}
use Rattle.it_rates.specs.Asked.{gone_rates, kept_rates}
use Rattle.it_spans.specs.Spans.{step_views}
use Rattle.it_bounds.proofs.FrameLemmas.{made_under}
use Rattle.it_bounds.proofs.reporting.steps_for.Goals as goal

pub steps_of-requires-clause-few_rows : goal.steps_of-requires-clause-few_rows
steps_of-requires-clause-few_rows c = subst (λ (l : Limits). l.rows ≤ most_system_rows) (sym c.in_ok-own.ensures) c.requires.few_rows

pub returns : goal.returns
returns c = let q = c.args.question.now.body in
    made_under c.args.limits c.in_ok-own.own q c.in_ok-problem.problem c.in_ok-problem.ensures c.in_ok-own.ensures
    (first_rows (kept_rates q (gone_rates q.verb))) c.args.rays.now (option_map (λ v. step_views v.items) c.in_ok-steps.steps) c.in_ok-steps.ensures
