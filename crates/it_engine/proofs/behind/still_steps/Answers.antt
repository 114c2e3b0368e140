use Rattle.std.proofs.Common.{◌≡◌, ◌+◌, ◌∙◌, List, Option, Bool, ℕ, length, slice_set, sym, ap, subst, arith}
use Rattle.std.proofs.lemmas.List.{length-set}
use Rattle.std.specs.Option.{IfSome}
use Rattle.it_engine.specs.Behind.{AreBaseBounds, AreMovedInOrder, AreRanked, AreStillSteps, IsStillChoice}
use Rattle.it_engine.specs.Engine.{HasRoom}
use Rattle.it_engine.proofs.ManySteps.{bounds_kept, no_steps, more_steps}
use Rattle.it_engine.proofs.RankedRows.{ranked_kept}
use Rattle.it_engine.proofs.behind.still_steps.Goals as goal

pub loop-k-init : goal.loop-k-init
loop-k-init c = record {
  steps = no_steps c.args.run.now.columns.now c.args.run.now.limit c.args.rows.now c.args.basis.now c.args.notes.now.moved.items c.requires.engine;
  bound_is = subst (λ (moved : List Bool). AreBaseBounds c.in_ok-base.base.bound c.in_ok-base.base.bound c.args.rows.now moved
      (length c.args.basis.now)) c.as_slice.ensures.value c.in_ok-base.ensures.bound;
  ranked_are = subst (λ (moved : List Bool). AreRanked c.args.rows.now c.args.basis.now moved
      (length c.args.basis.now) c.in_ok-base.base.ranked.items) c.as_slice.ensures.value c.in_ok-base.ensures.ranked;
  order_is = c.requires.order;
  entered_are = c.requires.entered;
  notes = c.requires.notes;
}

pub loop-k-preserved : goal.loop-k-preserved
loop-k-preserved c =
    let made = c.in_ok-make_step.ensures in
    let choice = subst (λ (moved : List Bool). IsStillChoice c.args.run.now.columns.now c.args.run.now.limit c.loop-k.rows c.loop-k.basis
    moved c.in-Some.column c.in-Some.row) c.as_slice-in-loop-k.ensures.value
    (subst (λ (found : Option (ℕ × ℕ)). IfSome found (λ x. IsStillChoice c.args.run.now.columns.now c.args.run.now.limit c.loop-k.rows
    c.loop-k.basis c.as_slice-in-loop-k.result.now x.0 x.1)) c.in-Some.is c.in_ok-found.ensures.choice) in
    let steps = c.loop-k.invariant.steps in record {
      steps = subst (λ (bs : List ℕ). AreStillSteps c.args.run.now.columns.now c.args.run.now.limit c.args.rows.now c.args.basis.now
          c.args.notes.now.moved.items (c.loop-k.k + 1) c.make_step.new.rows bs c.make_step.new.notes.moved.items) (sym made.basis)
          (subst (λ (ms : List Bool). AreStillSteps c.args.run.now.columns.now c.args.run.now.limit c.args.rows.now c.args.basis.now
          c.args.notes.now.moved.items (c.loop-k.k + 1) c.make_step.new.rows
          (slice_set c.loop-k.basis c.in-Some.row c.in-Some.column) ms) (sym made.moved)
          (more_steps c.args.run.now.columns.now c.args.run.now.limit c.args.rows.now c.args.basis.now c.args.notes.now.moved.items
          c.loop-k.k c.in-Some.column c.in-Some.row c.loop-k.rows c.loop-k.basis c.loop-k.notes.moved.items c.make_step.new.rows
          steps choice made.step));
      bound_is =
          subst (λ (m : ℕ). AreBaseBounds c.in_ok-base.base.bound c.in_ok-base.base.bound c.make_step.new.rows
          c.make_step.new.notes.moved.items m) (sym (ap length made.basis ∙ length-set c.loop-k.basis c.in-Some.row c.in-Some.column))
          (subst (λ (ms : List Bool). AreBaseBounds c.in_ok-base.base.bound c.in_ok-base.base.bound c.make_step.new.rows ms
          (length c.loop-k.basis)) (sym made.moved)
          (bounds_kept c.args.run.now.columns.now c.args.run.now.limit c.loop-k.rows c.loop-k.basis c.loop-k.notes.moved.items
          c.in-Some.column c.in-Some.row c.in_ok-base.base.bound c.in_ok-base.base.bound (length c.loop-k.basis) c.make_step.new.rows
          made.step (omega (arith, choice.row, c.loop-k.invariant.notes.moved_is)) (omega (arith, steps.engine.rows_are)) c.loop-k.invariant.bound_is));
      ranked_are =
          subst (λ (bs : List ℕ). AreRanked c.make_step.new.rows bs c.make_step.new.notes.moved.items
          (length bs) c.in_ok-base.base.ranked.items) (sym made.basis)
          (subst (λ (ms : List Bool). AreRanked c.make_step.new.rows (slice_set c.loop-k.basis c.in-Some.row c.in-Some.column) ms
          (length (slice_set c.loop-k.basis c.in-Some.row c.in-Some.column)) c.in_ok-base.base.ranked.items) (sym made.moved)
          (ranked_kept c.args.run.now.columns.now c.args.run.now.limit c.loop-k.rows c.loop-k.basis c.loop-k.notes.moved.items
          c.in-Some.column c.in-Some.row c.make_step.new.rows c.in_ok-base.base.ranked.items
          made.step (omega (arith, choice.row, c.loop-k.invariant.notes.moved_is)) (omega (arith, steps.engine.rows_are)) c.loop-k.invariant.ranked_are));
      order_is = subst (λ (m : ℕ). AreMovedInOrder c.make_step.new.notes.moved.items m c.make_step.new.notes.order.items)
          (sym (ap length made.basis ∙ length-set c.loop-k.basis c.in-Some.row c.in-Some.column)) made.order;
      entered_are = made.entered;
      notes = subst (λ (m : ℕ). HasRoom m c.make_step.new.notes) (sym
          (ap length made.basis ∙ length-set c.loop-k.basis c.in-Some.row c.in-Some.column)) c.make_step.ensures.notes;
    }

pub returns-clause-steps : goal.returns-clause-steps
returns-clause-steps c =
    let all : c.loop-k.k ≡ c.args.most = omega (arith, c.loop-k-test.false, c.loop-k.auto.k-end) in
    subst (λ (k : ℕ). AreStillSteps c.args.run.now.columns.now c.args.run.now.limit c.args.rows.now c.args.basis.now
    c.args.notes.now.moved.items k c.loop-k.rows c.loop-k.basis c.loop-k.notes.moved.items) all c.loop-k.invariant.steps
