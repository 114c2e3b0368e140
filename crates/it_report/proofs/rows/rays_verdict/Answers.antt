use Rattle.std.proofs.Common.{◌≡◌, false, true, sym, ◌∙◌, ap}
use Rattle.it_report.specs.RowVerdicts.{is_valid, ray_verdict}
use Rattle.it_report.proofs.VerdictLemmas.{rays_done, rays_found, rays_more}
use Rattle.it_report.proofs.rows.rays_verdict.Goals as goal

pub returns-clause-verdict : goal.returns-clause-verdict
returns-clause-verdict c = rays_done c.args.problem.now c.args.steps.now c.loop-step.step-index c.loop-step-test.false c.loop-step.invariant

pub returns-then-not-is_valid-clause-verdict : goal.returns-then-not-is_valid-clause-verdict
returns-then-not-is_valid-clause-verdict c =
    let p = c.args.problem.now in
    let e : is_valid (ray_verdict p c.step-item.result.ray) ≡ false
    = ap is_valid (sym c.ray_verdict-verdict.ensures.verdict) ∙ sym c.is_valid.ensures ∙ c.if-not-is_valid.true in
    c.ray_verdict-verdict.ensures.verdict ∙ rays_found p c.args.steps.now c.loop-step.step-index c.step-item.result c.loop-step-test.true
    c.step-item.is e c.loop-step.invariant

pub loop-step-preserved : goal.loop-step-preserved
loop-step-preserved c =
    let p = c.args.problem.now in
    let e : is_valid (ray_verdict p c.step-item.result.ray) ≡ true
    = ap is_valid (sym c.ray_verdict-verdict.ensures.verdict) ∙ sym c.is_valid.ensures ∙ c.if-not-is_valid.false in
    rays_more p c.args.steps.now c.loop-step.step-index c.step-item.result c.loop-step-test.true c.step-item.is e c.loop-step.invariant
