use Rattle.std.proofs.Common.{IfOk, sym, subst, ◌∙◌}
use Rattle.it_syntax.specs.Meaning.{relation_view}
use Rattle.it_ratio.specs.BestViews.{best_view}
use Rattle.it_report.specs.FactorSteps.{IsFactorVerdictOver}
use Rattle.it_report.specs.LineVerdicts.{LineVerdict, IsLineOf}
use Rattle.it_report.proofs.JudgingLemmas.{size_named, weighed_as_told}
use Rattle.it_report.proofs.judging.best_line.Goals as goal

pub factor_line-requires : goal.factor_line-requires
factor_line-requires c = subst (λ n. IsFactorVerdictOver n c.in-Some.verdict)
    (size_named c.args.question.now.body c.in_ok-problem.problem.space c.problem_names.result.now
    c.in_ok-problem.ensures.poses.space c.problem_names.ensures.value)
    (c.in_ok-verdict.ensures.over c.in-Some.verdict c.in-Some.is)

pub returns-in-Some : goal.returns-in-Some
returns-in-Some c =
    let told = weighed_as_told c.args.question.now.body c.in_ok-problem.problem c.in_ok-problem.ensures.poses
    (relation_view c.relation_of.result.now) c.relation_of.ensures
    (best_view c.args.best.now) c.in_ok-left.left c.in_ok-left.right c.problem_names.result.now c.in-Some.verdict c.requires.fits.asks
    (rw c.space.ensures.value at c.in_ok-left.ensures.left) (rw c.space.ensures.value at c.in_ok-left.ensures.right)
    c.problem_names.ensures.value (sym c.in_ok-verdict.ensures.verdict ∙ c.in-Some.is) in
    subst (λ (w : LineVerdict). IfOk c.factor_line.result (λ j. IsLineOf c.args.k w j.text.items j.invalid)) told c.factor_line.ensures
