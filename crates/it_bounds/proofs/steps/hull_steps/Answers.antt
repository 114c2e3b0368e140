use Rattle.std.proofs.Common.{Option, subst}
use Rattle.it_hull.specs.Hulls.{first_rows}
use Rattle.it_bounds.specs.declared.steps.Made.{Made}
use Rattle.it_bounds.specs.StepViews.{IsMadeStep}
use Rattle.it_bounds.proofs.StepLemmas.{making_done, making_first, making_more, making_none}
use Rattle.it_bounds.proofs.steps.hull_steps.Goals as goal

pub loop-ray-init : goal.loop-ray-init
loop-ray-init c = making_first c.args.frame c.args.effort c.args.kept.now c.args.rays.now c.in_ok-rows.rows.items c.new-steps.result.items
    c.requires.kept c.in_ok-rows.ensures c.new-steps.ensures.items

pub loop-ray-preserved : goal.loop-ray-preserved
loop-ray-preserved c = making_more c.args.frame c.args.effort (first_rows c.args.kept.now) c.args.rays.now c.loop-ray.ray-index
    c.loop-ray.rows.items c.loop-ray.steps.items c.loop-ray.invariant c.ray-item.result c.loop-ray-test.true c.ray-item.is
    c.in-Some.made c.push.new.self.items c.requires.frame (subst
    (λ (m : Option Made). IsMadeStep c.args.frame c.args.effort c.loop-ray.rows.items c.ray-item.result m) c.in-Some.is
    c.in_ok-made.ensures) c.in_ok-push-in-Some.ensures.items

pub returns-in-None : goal.returns-in-None
returns-in-None c = making_none c.args.frame c.args.effort (first_rows c.args.kept.now) c.args.rays.now c.loop-ray.ray-index
    c.loop-ray.rows.items c.loop-ray.steps.items c.loop-ray.invariant c.ray-item.result c.loop-ray-test.true c.ray-item.is
    (subst (λ (m : Option Made). IsMadeStep c.args.frame c.args.effort c.loop-ray.rows.items c.ray-item.result m) c.in-None.is c.in_ok-made.ensures)

pub returns : goal.returns
returns c = making_done c.args.frame c.args.effort (first_rows c.args.kept.now) c.args.rays.now c.loop-ray.ray-index c.loop-ray.rows.items
    c.loop-ray.steps.items c.loop-ray.invariant c.loop-ray-test.false
