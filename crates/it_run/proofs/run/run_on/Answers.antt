use Rattle.std.proofs.Common.{◌∙◌, subst, ap}
use Rattle.it_tableau.specs.TableauViews.{height, table}
use Rattle.it_run.specs.Steps.{IsStep, IsStepOrStuck}
use Rattle.it_run.proofs.RunSteps.{ready_by_invariants, holds_next}
use Rattle.it_run.proofs.UnboundRuns.{steps_left_falls, unbound_done, unbound_stuck, unbound_wide, step_is_made}
use Rattle.it_run.proofs.run.run_on.Goals as goal
use Rattle.it_run.proofs.run.run_on.Goals.{In-Ok-true}

pub returns-then-is_done-clause-end : goal.returns-then-is_done-clause-end
returns-then-is_done-clause-end c = unbound_done c.args.tableau.now c.steps.tableau c.steps.number c.steps.invariant.way c.if-is_done.ensures.yes

pub step-requires-clause-ready : goal.step-requires-clause-ready
step-requires-clause-ready c = let t = c.steps.tableau in let h = c.steps.invariant.kept.holds
    in ready_by_invariants (height t) t.generator_columns h.0 (table t) h.1

pub returns-in-Ok-false-clause-end : goal.returns-in-Ok-false-clause-end
returns-in-Ok-false-clause-end c = let t = c.steps.tableau in let s = c.step.new.tableau in
    let q = subst (IsStepOrStuck t s) c.in-Ok-false.field-0-test c.in-Ok-false.ensures.value in
    unbound_stuck c.args.tableau.now t c.steps.number c.steps.invariant.way (table s) c.if-is_done.ensures.no q.0 (ap table q.1)

pub returns-in-Err-Wide-clause-end : goal.returns-in-Err-Wide-clause-end
returns-in-Err-Wide-clause-end c = unbound_wide c.args.tableau.now c.steps.tableau c.steps.number c.steps.invariant.way c.if-is_done.ensures.no
    (c.in-Err-Wide.ensures.wide c.in-Err-Wide.field-0-is)

loop_makes_step : (c : In-Ok-true) → IsStep c.steps.tableau c.step.new.tableau
loop_makes_step c = subst (IsStepOrStuck c.steps.tableau c.step.new.tableau) c.in-Ok-true.field-0-test c.in-Ok-true.ensures.value

pub steps-smaller : goal.steps-smaller
steps-smaller c = steps_left_falls c.steps.tableau c.step.new.tableau (loop_makes_step (goal.at.steps-smaller c).In-Ok-true) c.steps.invariant.kept.holds

pub steps-preserved : goal.steps-preserved
steps-preserved c = let t = c.steps.tableau in let s = c.step.new.tableau in
    let g : IsStep t s = loop_makes_step (goal.at.steps-preserved c).In-Ok-true in
    let f = c.steps.invariant.kept.frame in record {
      kept = record {
        usable = g.usable;
        frame = record {
          generator_columns = g.frame.generator_columns ∙ f.generator_columns;
          height = g.frame.height
              ∙ f.height;
          negated = g.frame.negated ∙ f.negated;
        };
        holds = holds_next t s g c.steps.invariant.kept.holds;
      };
      way = step_is_made c.args.tableau.now t c.steps.number c.steps.invariant.way s c.next_number-number.result
          c.next_number-number.ensures c.if-is_done.ensures.no g;
    }
