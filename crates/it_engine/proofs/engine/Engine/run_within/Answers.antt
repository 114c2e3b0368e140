use Rattle.std.proofs.Common.{◌+◌, sym, subst, List, ℕ, arith, false, Some}
use Rattle.it_engine.specs.Engine.{IsFinished, IsEngineStep, IsEngineStepOrStuck}
use Rattle.it_whole.specs.WholeRows.{WholeRowView}
use Rattle.it_engine.specs.declared.engine.EngineEnd.TheVariants.{Point}
use Rattle.it_engine.proofs.Steps.{stuck_here}
use Rattle.it_engine.proofs.Runs.{IsRunUnderWay, run_begins, not_stuck_here, run_ends_at_budget, run_ends_done, step_is_made, steps_are_made, run_ends_stuck}
use Rattle.it_engine.proofs.engine.Engine.run_within.Goals as goal
use Rattle.it_engine.proofs.engine.Engine.run_within.Goals.{In_ok-made}

pub loop-k-init : goal.loop-k-init
loop-k-init c = record {
  under_way = run_begins c.args.run.now.columns.now c.args.run.now.limit c.args.self.now.rows c.args.self.now.basis c.args.budget
      c.requires.engine;
  within = omega arith;
}

-- the run after the degenerate steps
after_still_steps : (c : In_ok-made) → IsRunUnderWay c.args.run.now.columns.now c.args.run.now.limit c.args.self.now.rows c.args.self.now.basis
    c.args.budget c.still_steps.new.self.rows c.still_steps.new.self.basis (c.loop-k.k + c.in_ok-made.made)
after_still_steps c = steps_are_made c.args.run.now.columns.now c.args.run.now.limit c.args.self.now.rows c.args.self.now.basis c.args.budget
    c.loop-k.self.rows c.loop-k.self.basis c.loop-k.k c.loop-k.invariant.under_way
    c.still_steps.new.self.rows c.still_steps.new.self.basis c.in_ok-made.made
    (omega (arith, c.in_ok-made.ensures.most, c.most_still-most.ensures, c.loop-k-test.true)) c.in_ok-made.ensures.steps

pub returns-then-is_done : goal.returns-then-is_done
returns-then-is_done c = run_ends_done c.args.run.now.columns.now c.args.run.now.limit c.args.self.now.rows c.args.self.now.basis c.args.budget
    c.still_steps.new.self.rows c.still_steps.new.self.basis (c.loop-k.k + c.in_ok-made.made)
    (after_still_steps (goal.at.returns-then-is_done c).In_ok-made) c.if-is_done.ensures.yes

pub returns-then-not-branch : goal.returns-then-not-branch
returns-then-not-branch c =
    let g : IsEngineStepOrStuck c.args.run.now.columns.now c.args.run.now.limit c.still_steps.new.self.rows c.still_steps.new.self.basis
    c.step.new.self.rows c.step.new.self.basis false =
    subst (IsEngineStepOrStuck c.args.run.now.columns.now c.args.run.now.limit c.still_steps.new.self.rows c.still_steps.new.self.basis c.step.new.self.rows
    c.step.new.self.basis) c.if-not-branch.true c.in_ok-step.ensures in
    subst (λ (l : List WholeRowView). IsFinished c.args.run.now.columns.now c.args.run.now.limit c.args.self.now.rows c.args.self.now.basis
    (Some c.args.budget) l c.step.new.self.basis Point) (sym g.0)
    (subst (λ (b : List ℕ). IsFinished c.args.run.now.columns.now c.args.run.now.limit c.args.self.now.rows c.args.self.now.basis
    (Some c.args.budget) c.still_steps.new.self.rows b Point) (sym g.1)
    (run_ends_stuck c.args.run.now.columns.now c.args.run.now.limit c.args.self.now.rows c.args.self.now.basis c.args.budget c.still_steps.new.self.rows
    c.still_steps.new.self.basis (c.loop-k.k + c.in_ok-made.made)
    (after_still_steps (goal.at.returns-then-not-branch c).In_ok-made) c.if-is_done.ensures.no g.2))

pub loop-k-preserved : goal.loop-k-preserved
loop-k-preserved c =
    let g : IsEngineStep c.args.run.now.columns.now c.args.run.now.limit c.still_steps.new.self.rows c.still_steps.new.self.basis
    c.step.new.self.rows c.step.new.self.basis =
    subst (IsEngineStepOrStuck c.args.run.now.columns.now c.args.run.now.limit c.still_steps.new.self.rows c.still_steps.new.self.basis c.step.new.self.rows
    c.step.new.self.basis) c.if-not-branch.false c.in_ok-step.ensures in record {
      under_way = step_is_made c.args.run.now.columns.now c.args.run.now.limit c.args.self.now.rows c.args.self.now.basis c.args.budget
          c.still_steps.new.self.rows c.still_steps.new.self.basis (c.loop-k.k + c.in_ok-made.made)
          (after_still_steps (goal.at.loop-k-preserved c).In_ok-made) c.step.new.self.rows c.step.new.self.basis
          c.if-is_done.ensures.no (omega (arith, c.in_ok-made.ensures.most, c.most_still-most.ensures, c.loop-k-test.true)) g;
      within = omega (arith, c.in_ok-made.ensures.most, c.most_still-most.ensures, c.loop-k-test.true);
    }

pub returns-then-is_done-2 : goal.returns-then-is_done-2
returns-then-is_done-2 c = run_ends_done c.args.run.now.columns.now c.args.run.now.limit c.args.self.now.rows c.args.self.now.basis c.args.budget
    c.loop-k.self.rows c.loop-k.self.basis c.loop-k.k c.loop-k.invariant.under_way c.if-is_done-2.ensures.yes

pub next_column-requires : goal.next_column-requires
next_column-requires c = (c.args.run.now.limit, c.loop-k.invariant.under_way.engine)

pub returns-in-Some : goal.returns-in-Some
returns-in-Some c = run_ends_at_budget c.args.run.now.columns.now c.args.run.now.limit c.args.self.now.rows c.args.self.now.basis c.args.budget
    c.loop-k.self.rows c.loop-k.self.basis c.loop-k.k c.loop-k.invariant.under_way c.if-is_done-2.ensures.no
    (omega (arith, c.loop-k-test.false, c.loop-k.invariant.within))
    (λ p t s. not_stuck_here p t c.args.run.now.columns.now c.args.run.now.limit c.loop-k.self.rows c.loop-k.self.basis c.in-Some.field-0 s
    c.in-Some.ensures.within c.in-Some.ensures.some)

pub returns-in-None : goal.returns-in-None
returns-in-None c = run_ends_stuck c.args.run.now.columns.now c.args.run.now.limit c.args.self.now.rows c.args.self.now.basis c.args.budget
    c.loop-k.self.rows c.loop-k.self.basis c.loop-k.k c.loop-k.invariant.under_way c.if-is_done-2.ensures.no
    (λ p t s. stuck_here p t c.args.run.now.columns.now c.args.run.now.limit c.loop-k.self.rows c.loop-k.self.basis s c.in-None.ensures.none)
