use Rattle.std.proofs.Common.{◌∙◌, ℕ, Some, length, sym, ap, subst, arith}
use Rattle.it_engine.specs.Behind.{ComesBefore, has_moved, IsFirstOf, MayLeave}
use Rattle.it_engine.specs.Choosing.{entry_of, is_above_zero}
use Rattle.it_engine.proofs.RankedRows.{best_is_first, none_is_first, row_is_first}
use Rattle.it_engine.proofs.leaving.first_to_leave.Goals as goal

pub returns-then-comes_before : goal.returns-then-comes_before
returns-then-comes_before c = best_is_first c.args.block.now.rows.now c.args.block.now.basis.now c.args.block.now.moved.now
    c.args.entries.now c.args.combined.now c.args.ranked.now c.first_moved_to_leave-best.result
    c.requires.ranked c.requires.others c.first_moved_to_leave-best.ensures c.loop-k.k c.loop-k-test.true c.loop-k.invariant
    (ap (has_moved c.args.block.now.moved.now) (sym c.row_at-i.ensures) ∙ sym c.moved_at.ensures ∙ c.if-moved_at.false)
    (subst (ComesBefore c.args.block.now.basis.now c.first_moved_to_leave-best.result) c.row_at-i.ensures c.if-comes_before.ensures.yes)

pub returns-then-is_above_at : goal.returns-then-is_above_at
returns-then-is_above_at c = subst (λ (r : ℕ). IsFirstOf c.args.block.now.basis.now
    (MayLeave c.args.block.now.rows.now c.args.block.now.moved.now c.args.entries.now c.args.combined.now
    (length c.args.block.now.basis.now)) (length c.args.block.now.basis.now) (Some r))
    (sym c.row_at-i.ensures)
    (row_is_first c.args.block.now.rows.now c.args.block.now.basis.now c.args.block.now.moved.now c.args.entries.now c.args.combined.now
    c.args.ranked.now c.first_moved_to_leave-best.result
    c.requires.ranked c.requires.others c.first_moved_to_leave-best.ensures c.loop-k.k c.loop-k-test.true c.loop-k.invariant
    (ap (has_moved c.args.block.now.moved.now) (sym c.row_at-i.ensures) ∙ sym c.moved_at.ensures ∙ c.if-moved_at.false)
    (subst (λ (i : ℕ). ¬ (ComesBefore c.args.block.now.basis.now c.first_moved_to_leave-best.result i)) c.row_at-i.ensures c.if-comes_before.ensures.no)
    (ap (λ i. is_above_zero (entry_of c.args.combined.now c.args.block.now.rows.now i)) (sym c.row_at-i.ensures) ∙ sym c.is_above_at.ensures
    ∙ c.if-is_above_at.true))

pub returns : goal.returns
returns c = none_is_first c.args.block.now.rows.now c.args.block.now.basis.now c.args.block.now.moved.now c.args.entries.now
    c.args.combined.now c.args.ranked.now c.first_moved_to_leave-best.result
    c.requires.ranked c.requires.others c.first_moved_to_leave-best.ensures (λ j l. c.loop-k.invariant j (omega (arith, l, c.loop-k-test.false)))
