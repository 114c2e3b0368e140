use Rattle.std.proofs.Common.{◌≡◌, ◌∙◌, ◌+◌, ◌-◌, ℕ, suc, min, refl, subst, ap, arith}
use Rattle.it_tableau.specs.TableauViews.{height, table}
use Rattle.it_run.specs.Runs.RunEndView.{Weights, Point, Pivots, Width}
use Rattle.it_run.specs.Steps.{IsStep, ReachesFrom, IsStepOrStuck}
use Rattle.it_run.proofs.RunSteps.{IsEnteringColumn, stuck_without_entering, not_stuck_with_entering, ready_by_invariants, run_done, run_stuck, run_wide, run_budget, holds_next, step_on}
use Rattle.it_run.proofs.run.run_within.Goals as goal

pub returns-then-is_done-clause-end : goal.returns-then-is_done-clause-end
returns-then-is_done-clause-end c = let t = c.loop-k.tableau in
    c.loop-k.invariant.back (Weights (table t)) (run_done (height t) t.generator_columns (c.args.budget - c.loop-k.k) c.loop-k.k
    (table t) c.if-is_done.ensures.yes)

pub step-requires-clause-ready : goal.step-requires-clause-ready
step-requires-clause-ready c = let t = c.loop-k.tableau in let h = c.loop-k.invariant.kept.holds
    in ready_by_invariants (height t) t.generator_columns h.0 (table t) h.1

pub returns-in-Ok-false-clause-end : goal.returns-in-Ok-false-clause-end
returns-in-Ok-false-clause-end c = let t = c.loop-k.tableau in let s = c.step.new.tableau in
    let q = subst (IsStepOrStuck t s) c.in-Ok-false.field-0-test c.in-Ok-false.ensures.value in
    c.loop-k.invariant.back (Point (table s))
    (run_stuck (height t) t.generator_columns (c.args.budget - c.loop-k.k) c.loop-k.k (table t) (table s) c.if-is_done.ensures.no q.0 (ap table q.1))

pub returns-in-Err-Wide-clause-end : goal.returns-in-Err-Wide-clause-end
returns-in-Err-Wide-clause-end c = let t = c.loop-k.tableau in
    let number_is : c.loop-k.k + 1 ≡ min (suc c.loop-k.k) 4294967295 = omega (arith, c.loop-k-test.true) in
    c.loop-k.invariant.back (Width (c.loop-k.k + 1))
    (run_wide (height t) t.generator_columns (c.args.budget - c.loop-k.k) c.loop-k.k (c.loop-k.k + 1) (table t)
    (omega (arith, c.loop-k-test.true)) c.if-is_done.ensures.no
    (c.in-Err-Wide.ensures.wide c.in-Err-Wide.field-0-is) number_is)

pub loop-k-preserved : goal.loop-k-preserved
loop-k-preserved c = let t = c.loop-k.tableau in let s = c.step.new.tableau in
    let g : IsStep t s = subst (IsStepOrStuck t s) c.in-Ok-true.field-0-test c.in-Ok-true.ensures.value in
    let f = c.loop-k.invariant.kept.frame in
    let left : c.args.budget - (c.loop-k.k + 1) ≡ c.args.budget - c.loop-k.k - 1 = omega arith in record {
      kept = record {
        usable = g.usable;
        frame = record {
          generator_columns = g.frame.generator_columns ∙ f.generator_columns;
          height = g.frame.height
              ∙ f.height;
          negated = g.frame.negated ∙ f.negated;
        };
        holds = holds_next t s g c.loop-k.invariant.kept.holds;
      };
      back = λ e r. c.loop-k.invariant.back e (step_on t s (c.args.budget - c.loop-k.k) c.loop-k.k e
          (omega (arith, c.loop-k-test.true)) c.if-is_done.ensures.no g
          (subst (λ (x : ℕ). ReachesFrom s x (c.loop-k.k + 1) e) left r));
    }

pub returns-in-Some-clause-end : goal.returns-in-Some-clause-end
returns-in-Some-clause-end c = let t = c.loop-k.tableau in
    let last : c.loop-k.k ≡ c.args.budget = omega (arith, c.loop-k-test.false, c.loop-k.auto.k-end) in
    let f : IsEnteringColumn (height t) t.generator_columns (table t) c.in-Some.field-0 = record
    { within = c.in-Some.ensures.within; is = c.in-Some.ensures.some } in
    c.loop-k.invariant.back (Pivots c.args.budget)
    (subst (λ (x : ℕ). ReachesFrom t (c.args.budget - c.loop-k.k) c.loop-k.k (Pivots x)) last
    (run_budget (height t) t.generator_columns (c.args.budget - c.loop-k.k) c.loop-k.k (table t)
    (omega (arith, last)) c.if-is_done-2.ensures.no (not_stuck_with_entering (height t) t.generator_columns
    (table t) c.in-Some.field-0 f)))

pub returns-in-None-clause-end : goal.returns-in-None-clause-end
returns-in-None-clause-end c = let t = c.loop-k.tableau in
    c.loop-k.invariant.back (Point (table t))
    (run_stuck (height t) t.generator_columns (c.args.budget - c.loop-k.k) c.loop-k.k (table t) (table t) c.if-is_done-2.ensures.no
    (stuck_without_entering (height t) t.generator_columns (table t) c.in-None.ensures.none) refl)
