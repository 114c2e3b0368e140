use Rattle.std.proofs.Common.{◌∙◌, refl, subst, Some}
use Rattle.it_space.specs.declared.faults.RowFault.TheVariants.{Wide}
use Rattle.it_tableau.specs.TableauViews.{height, table}
use Rattle.it_tableau.proofs.RowsLemmas.{fault_is_handed_on}
use Rattle.it_run.specs.Steps.{IsLeaving, IsWide}
use Rattle.it_run.proofs.RunSteps.{IsEnteringColumn, stuck_without_entering, not_stuck_with_entering, wide_ratio, wide_pivot, step_fits, step_is}
use Rattle.it_run.proofs.run.step.Goals as goal
use Rattle.it_run.proofs.run.step.Goals.{In-Some, In-Ok-Some}

column_is_entering : (c : In-Some) → IsEnteringColumn (height c.args.tableau.now) c.args.tableau.now.generator_columns
    (table c.args.tableau.now) c.in-Some.column
column_is_entering c = record { within = c.in-Some.ensures.within; is = c.in-Some.ensures.some }

row_is_leaving : (c : In-Ok-Some) → IsLeaving (height c.args.tableau.now) c.args.tableau.now.generator_columns
    (table c.args.tableau.now) c.in-Some.column (Some c.in-Ok-Some.row)
row_is_leaving c = subst (IsLeaving (height c.args.tableau.now) c.args.tableau.now.generator_columns
    (table c.args.tableau.now) c.in-Some.column) c.in-Ok-Some.field-0-is c.in-Ok-Some.ensures.value

pub returns-in_default-clause-value : goal.returns-in_default-clause-value
returns-in_default-clause-value c = (
  stuck_without_entering (height c.args.tableau.now) c.args.tableau.now.generator_columns
      (table c.args.tableau.now) c.in_default.ensures.none,
  refl,
)

pub pivot-requires-clause-positive : goal.pivot-requires-clause-positive
pivot-requires-clause-positive c = (row_is_leaving (goal.at.pivot-requires-clause-positive c).In-Ok-Some).2

pub returns-in_err-pivot-in-Ok-Some-clause-wide : goal.returns-in_err-pivot-in-Ok-Some-clause-wide
returns-in_err-pivot-in-Ok-Some-clause-wide c =
    let t = c.args.tableau.now in
    let d = (goal.at.returns-in_err-pivot-in-Ok-Some-clause-wide c).In-Ok-Some in
    let f = column_is_entering (goal.at.returns-in_err-pivot-in-Ok-Some-clause-wide c).In-Some in
    fault_is_handed_on c.from_residual.result c.in_err-pivot-in-Ok-Some.field-0.0 Wide
    (IsWide (height t) t.generator_columns (table t)) c.from_residual.ensures.1
    (λ e. wide_pivot (height t) t.generator_columns (table t) c.in-Some.column c.in-Ok-Some.row f (row_is_leaving d) (c.in_err-pivot-in-Ok-Some.ensures.wide e))

pub returns-in_ok-pivot-in-Ok-Some-clause-value : goal.returns-in_ok-pivot-in-Ok-Some-clause-value
returns-in_ok-pivot-in-Ok-Some-clause-value c =
    let t = c.args.tableau.now in
    let d = (goal.at.returns-in_ok-pivot-in-Ok-Some-clause-value c).In-Ok-Some in
    let f = column_is_entering (goal.at.returns-in_ok-pivot-in-Ok-Some-clause-value c).In-Some in record {
      moves = not_stuck_with_entering (height t) t.generator_columns (table t) c.in-Some.column f;
      fits = step_fits (height t) t.generator_columns (table t) c.in-Some.column c.in-Ok-Some.row f
          (row_is_leaving d) c.in-Ok-Some.ensures.ok c.in_ok-pivot-in-Ok-Some.ensures.ok;
      usable = c.in_ok-pivot-in-Ok-Some.ensures.usable;
      frame = c.in_ok-pivot-in-Ok-Some.ensures.frame;
      table_is = c.in_ok-pivot-in-Ok-Some.ensures.value ∙ step_is (height t) t.generator_columns (table t) c.in-Some.column c.in-Ok-Some.row
          f (row_is_leaving d);
    }

pub returns-in-Err-clause-wide : goal.returns-in-Err-clause-wide
returns-in-Err-clause-wide c e =
    let t = c.args.tableau.now in
    wide_ratio (height t) t.generator_columns (table t) c.in-Some.column
    (column_is_entering (goal.at.returns-in-Err-clause-wide c).In-Some) c.in-Err.ensures.err
