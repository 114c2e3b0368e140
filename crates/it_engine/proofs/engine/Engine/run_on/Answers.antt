use Rattle.std.proofs.Common.{◌<◌, ◌≤◌, ℕ, sym, subst, List, false, None, arith}
use Rattle.it_engine.specs.Engine.{IsFinished, IsEngineStep, IsEngineStepOrStuck}
use Rattle.it_whole.specs.WholeRows.{WholeRowView}
use Rattle.it_engine.specs.declared.engine.EngineEnd.TheVariants.{Point}
use Rattle.it_engine.proofs.StepsLeft.{steps_left_to}
use Rattle.it_engine.proofs.UnboundRuns.{IsRunUnderWay, run_begins, unbound_done, step_lowers_steps_left, steps_lower_steps_left, step_is_made, steps_are_made, unbound_stuck}
use Rattle.it_engine.proofs.engine.Engine.run_on.Goals as goal
use Rattle.it_engine.proofs.engine.Engine.run_on.Goals.{Else-not-branch, In_ok-made}

pub steps-init : goal.steps-init
steps-init c = run_begins c.args.run.now.columns.now c.args.run.now.limit c.args.self.now.rows c.args.self.now.basis c.requires.engine c.requires.stands

-- the run after the degenerate steps
after_still_steps : (c : In_ok-made) → IsRunUnderWay c.args.run.now.columns.now c.args.run.now.limit c.args.self.now.rows c.args.self.now.basis
    c.still_steps.new.self.rows c.still_steps.new.self.basis
after_still_steps c = steps_are_made c.args.run.now.columns.now c.args.run.now.limit c.args.self.now.rows c.args.self.now.basis c.steps.self.rows
    c.steps.self.basis c.steps.invariant
    c.still_steps.new.self.rows c.still_steps.new.self.basis c.in_ok-made.made c.in_ok-made.ensures.steps

pub returns-then-is_done : goal.returns-then-is_done
returns-then-is_done c = unbound_done c.args.run.now.columns.now c.args.run.now.limit c.args.self.now.rows c.args.self.now.basis c.still_steps.new.self.rows
    c.still_steps.new.self.basis
    (after_still_steps (goal.at.returns-then-is_done c).In_ok-made) c.if-is_done.ensures.yes

pub returns-then-not-branch : goal.returns-then-not-branch
returns-then-not-branch c =
    let g : IsEngineStepOrStuck c.args.run.now.columns.now c.args.run.now.limit c.still_steps.new.self.rows c.still_steps.new.self.basis
    c.step.new.self.rows c.step.new.self.basis false =
    subst (IsEngineStepOrStuck c.args.run.now.columns.now c.args.run.now.limit c.still_steps.new.self.rows c.still_steps.new.self.basis c.step.new.self.rows
    c.step.new.self.basis) c.if-not-branch.true c.in_ok-step.ensures in
    subst (λ (l : List WholeRowView). IsFinished c.args.run.now.columns.now c.args.run.now.limit c.args.self.now.rows c.args.self.now.basis None l
    c.step.new.self.basis Point) (sym g.0)
    (subst (λ (b : List ℕ). IsFinished c.args.run.now.columns.now c.args.run.now.limit c.args.self.now.rows c.args.self.now.basis None
    c.still_steps.new.self.rows b Point) (sym g.1)
    (unbound_stuck c.args.run.now.columns.now c.args.run.now.limit c.args.self.now.rows c.args.self.now.basis c.still_steps.new.self.rows
    c.still_steps.new.self.basis
    (after_still_steps (goal.at.returns-then-not-branch c).In_ok-made) c.if-is_done.ensures.no g.2))

loop_makes_step : (c : Else-not-branch) → IsEngineStep c.args.run.now.columns.now c.args.run.now.limit c.still_steps.new.self.rows
    c.still_steps.new.self.basis c.step.new.self.rows c.step.new.self.basis
loop_makes_step c = subst (IsEngineStepOrStuck c.args.run.now.columns.now c.args.run.now.limit c.still_steps.new.self.rows c.still_steps.new.self.basis
    c.step.new.self.rows c.step.new.self.basis) c.if-not-branch.false c.in_ok-step.ensures

pub steps-smaller : goal.steps-smaller
steps-smaller c =
    let below : steps_left_to c.args.run.now.columns.now c.step.new.self.rows c.step.new.self.basis
    < steps_left_to c.args.run.now.columns.now c.still_steps.new.self.rows c.still_steps.new.self.basis =
    step_lowers_steps_left c.args.run.now.columns.now c.args.run.now.limit c.args.self.now.rows c.args.self.now.basis
    c.still_steps.new.self.rows c.still_steps.new.self.basis
    (after_still_steps (goal.at.steps-smaller c).In_ok-made) c.step.new.self.rows c.step.new.self.basis
    (loop_makes_step (goal.at.steps-smaller c).Else-not-branch) in
    let most : steps_left_to c.args.run.now.columns.now c.still_steps.new.self.rows c.still_steps.new.self.basis
    ≤ steps_left_to c.args.run.now.columns.now c.steps.self.rows c.steps.self.basis =
    steps_lower_steps_left c.args.run.now.columns.now c.args.run.now.limit c.args.self.now.rows c.args.self.now.basis c.steps.self.rows c.steps.self.basis
    c.steps.invariant c.still_steps.new.self.rows c.still_steps.new.self.basis c.in_ok-made.made c.in_ok-made.ensures.steps in
    by_order (steps_left_to c.args.run.now.columns.now c.step.new.self.rows c.step.new.self.basis)
    (steps_left_to c.args.run.now.columns.now c.still_steps.new.self.rows c.still_steps.new.self.basis)
    (steps_left_to c.args.run.now.columns.now c.steps.self.rows c.steps.self.basis) below most
  where
    by_order : (a b d : ℕ) → a < b → b ≤ d → a < d
    by_order a b d h k = omega (arith, h, k)

pub steps-preserved : goal.steps-preserved
steps-preserved c = step_is_made c.args.run.now.columns.now c.args.run.now.limit c.args.self.now.rows c.args.self.now.basis c.still_steps.new.self.rows
    c.still_steps.new.self.basis
    (after_still_steps (goal.at.steps-preserved c).In_ok-made) c.step.new.self.rows c.step.new.self.basis
    c.if-is_done.ensures.no (loop_makes_step (goal.at.steps-preserved c).Else-not-branch)
