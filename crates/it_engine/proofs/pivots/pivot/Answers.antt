use Rattle.std.proofs.Common.{rules, ap, ℤ, ◌+◌, ◌∙◌, sym, subst, FitsSigned, to_z-of_z, to_z, of_z, w64, length, List, arith}
use Rattle.it_engine.proofs.Pivoting.{IsPivotUnderWay, own_row_is_skipped, next_row_is_updated, own_leaves, own_usable, pivot_ends}
use Rattle.it_whole.specs.WholeRows.{WholeRowView}
use Rattle.it_engine.proofs.pivots.pivot.Goals as goal
use Rattle.it_engine.proofs.pivots.pivot.Goals.{else-i-r-via-then-i-r+else-not-update_row, else-i-r-via-else-i-r}

pub update_row-requires-clause-leaving : goal.update_row-requires-clause-leaving
update_row-requires-clause-leaving c = own_leaves c.args.run.now.limit c.take_divided-own.result (to_z w64 (of_z w64 c.unit-p.result))
    (own_usable c.args.run.now.limit c.args.rows.now c.args.entries.now c.args.r c.take_divided-own.result
    c.requires.row c.requires.rows c.requires.positive c.take_divided-own.ensures.divided)
    (let f : FitsSigned w64 c.unit-p.result = search rules in to_z-of_z f ∙ c.unit-p.ensures) c.requires.limit

pub loop-i-preserved : goal.loop-i-preserved
loop-i-preserved c =
    let p : ℤ = to_z w64 (of_z w64 c.unit-p.result) in
    elim c.else-i-r.branch [
      | else-i-r-via-then-i-r+else-not-update_row w ↦ record {
        room = ap length w.room-is ∙ w.update_row.ensures.room ∙ c.loop-i.invariant.room;
        under_way = subst (λ (l : List WholeRowView). IsPivotUnderWay c.args.run.now.limit c.args.rows.now c.args.entries.now c.args.r
            c.take_divided-own.result p l (c.loop-i.i + 1)) (sym w.rows-is)
            (next_row_is_updated c.args.run.now.limit c.args.rows.now c.args.entries.now c.args.r c.take_divided-own.result p c.loop-i.rows
            w.update_row.new.rows c.loop-i.i
            (c.take_divided-own.ensures.divided.length_is ∙ (c.requires.rows c.args.r c.requires.row).length_is) w.if-i-r.true
            w.update_row.ensures.length w.if-not-update_row.ensures.updated w.update_row.ensures.others
            c.loop-i.invariant.under_way);
      }
      | else-i-r-via-else-i-r w ↦ record {
        room = ap length w.room-is ∙ c.loop-i.invariant.room;
        under_way = subst (λ (l : List WholeRowView). IsPivotUnderWay c.args.run.now.limit c.args.rows.now c.args.entries.now c.args.r
            c.take_divided-own.result p l (c.loop-i.i + 1)) (sym w.rows-is)
            (own_row_is_skipped c.args.run.now.limit c.args.rows.now c.args.entries.now c.args.r c.take_divided-own.result p c.loop-i.rows
            c.loop-i.i (omega (arith, w.if-i-r.false)) c.loop-i.invariant.under_way);
      }
    ]

pub returns-clause-pivoted : goal.returns-clause-pivoted
returns-clause-pivoted c =
    let f : FitsSigned w64 c.unit-p.result = search rules in
    let u = simp to_z-of_z at c.loop-i.invariant.under_way in
    pivot_ends c.args.run.now.limit c.args.rows.now c.args.entries.now c.args.r c.take_divided-own.result c.loop-i.rows c.loop-i.i
    c.requires.row c.requires.rows
    (omega (arith, c.loop-i-test.false, c.take_divided-own.ensures.length)) c.requires.positive
    (c.requires.short c.args.r (omega (arith, c.requires.row, c.requires.entries)))
    (subst (λ (p : ℤ). IsPivotUnderWay c.args.run.now.limit c.args.rows.now c.args.entries.now c.args.r c.take_divided-own.result p c.loop-i.rows
    c.loop-i.i) c.unit-p.ensures u) c.take_divided-own.ensures.divided
