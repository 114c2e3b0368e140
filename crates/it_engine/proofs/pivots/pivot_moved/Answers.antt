use Rattle.std.proofs.Common.{rules, ◌≡◌, ap, ℕ, ℤ, ◌+◌, ◌-◌, ◌∙◌, sym, subst, FitsSigned, to_z-of_z, to_z, of_z, w64, length, slice_index_or, List, arith}
use Rattle.it_engine.specs.Behind.{after_rows}
use Rattle.it_whole.specs.Updates.{IsLeaving}
use Rattle.it_whole.specs.WholeRows.{WholeRowView, IsUsable}
use Rattle.it_engine.proofs.Pivoting.{IsPivotUnderWay, HasFewEntries, own_row_is_skipped, next_row_is_usable, next_row_is_updated, listed_row_is_above, listed_row_is_next, after_one_more, last_row_is_next, own_leaves, own_usable, pivot_ends}
use Rattle.it_engine.proofs.pivots.pivot_moved.Goals as goal
use Rattle.it_engine.proofs.pivots.pivot_moved.Goals.{else-i-r-via-then-i-r+else-not-update_row, else-i-r-via-else-i-r, After-unit-p}

few : (c : After-unit-p) → HasFewEntries c.args.run.now.limit c.args.rows.now c.args.entries.now c.args.r c.args.order.now
few c = record { above = c.requires.row; usable = c.requires.rows; elsewhere = c.requires.elsewhere }

own_usable_here : (c : After-unit-p) → IsUsable (length c.take_divided-own.result.numbers) c.args.run.now.limit c.take_divided-own.result
own_usable_here c = own_usable c.args.run.now.limit c.args.rows.now c.args.entries.now c.args.r c.take_divided-own.result
    (omega (arith, c.requires.row)) c.requires.rows c.requires.positive c.take_divided-own.ensures.divided

own_leaves_here : (c : After-unit-p) → IsLeaving c.args.run.now.limit c.take_divided-own.result (to_z w64 (of_z w64 c.unit-p.result))
own_leaves_here c =
    let f : FitsSigned w64 c.unit-p.result = search rules in
    own_leaves c.args.run.now.limit c.take_divided-own.result (to_z w64 (of_z w64 c.unit-p.result)) (own_usable_here c)
    (to_z-of_z f ∙ c.unit-p.ensures) c.requires.limit

own_width : (c : After-unit-p) → length c.take_divided-own.result.numbers ≡ length c.args.rows.now
own_width c = c.take_divided-own.ensures.divided.length_is ∙ (c.requires.rows c.args.r (omega (arith, c.requires.row))).length_is

pub update_row-requires-clause-i : goal.update_row-requires-clause-i
update_row-requires-clause-i c = omega (
  arith,
  c.loop-k.invariant.under_way.same_length,
  listed_row_is_above c.args.run.now.limit c.args.rows.now
      c.args.entries.now c.args.r c.take_divided-own.result (to_z w64 (of_z w64 c.unit-p.result)) c.args.order.now
      (few (goal.at.update_row-requires-clause-i c).After-unit-p) c.loop-k.k c.loop-k-test.true,
)

pub update_row-requires-clause-entries : goal.update_row-requires-clause-entries
update_row-requires-clause-entries c = omega (
  arith,
  c.requires.entries,
  listed_row_is_above c.args.run.now.limit c.args.rows.now c.args.entries.now
      c.args.r c.take_divided-own.result (to_z w64 (of_z w64 c.unit-p.result)) c.args.order.now
      (few (goal.at.update_row-requires-clause-entries c).After-unit-p) c.loop-k.k c.loop-k-test.true,
)

pub update_row-requires-clause-row : goal.update_row-requires-clause-row
update_row-requires-clause-row c =
    let d = (goal.at.update_row-requires-clause-row c).After-unit-p in
    let p : ℤ = to_z w64 (of_z w64 c.unit-p.result) in
    let above = listed_row_is_above c.args.run.now.limit c.args.rows.now c.args.entries.now c.args.r c.take_divided-own.result p c.args.order.now
    (few d) c.loop-k.k c.loop-k-test.true in
    next_row_is_usable c.args.run.now.limit c.args.rows.now c.args.entries.now c.args.r c.take_divided-own.result p c.loop-k.rows
    (slice_index_or c.args.order.now c.loop-k.k 0) c.requires.rows (own_width d) (omega (arith, above)) c.if-i-r.true
    (listed_row_is_next c.args.run.now.limit c.args.rows.now c.args.entries.now c.args.r c.take_divided-own.result p c.args.order.now
    (few d) c.loop-k.rows c.loop-k.k c.loop-k-test.true c.loop-k.invariant.under_way)

pub update_row-requires-clause-leaving : goal.update_row-requires-clause-leaving
update_row-requires-clause-leaving c = own_leaves_here (goal.at.update_row-requires-clause-leaving c).After-unit-p

pub loop-k-preserved : goal.loop-k-preserved
loop-k-preserved c =
    let d = (goal.at.loop-k-preserved c).After-unit-p in
    let p : ℤ = to_z w64 (of_z w64 c.unit-p.result) in
    let i : ℕ = slice_index_or c.args.order.now c.loop-k.k 0 in
    let next = listed_row_is_next c.args.run.now.limit c.args.rows.now c.args.entries.now c.args.r c.take_divided-own.result p c.args.order.now
    (few d) c.loop-k.rows c.loop-k.k c.loop-k-test.true c.loop-k.invariant.under_way in
    elim c.else-i-r.branch [
      | else-i-r-via-then-i-r+else-not-update_row w ↦ record {
        room = ap length w.room-is ∙ w.update_row.ensures.room ∙ c.loop-k.invariant.room;
        under_way = subst (λ (l : List WholeRowView). IsPivotUnderWay c.args.run.now.limit c.args.rows.now c.args.entries.now c.args.r
            c.take_divided-own.result p l (after_rows c.args.order.now (c.loop-k.k + 1))) (sym w.rows-is)
            (subst (IsPivotUnderWay c.args.run.now.limit c.args.rows.now c.args.entries.now c.args.r c.take_divided-own.result p
            w.update_row.new.rows) (after_one_more c.args.order.now c.loop-k.k)
            (next_row_is_updated c.args.run.now.limit c.args.rows.now c.args.entries.now c.args.r c.take_divided-own.result p c.loop-k.rows
            w.update_row.new.rows i (own_width d) w.if-i-r.true w.update_row.ensures.length w.if-not-update_row.ensures.updated
            w.update_row.ensures.others next));
      }
      | else-i-r-via-else-i-r w ↦ record {
        room = ap length w.room-is ∙ c.loop-k.invariant.room;
        under_way = subst (λ (l : List WholeRowView). IsPivotUnderWay c.args.run.now.limit c.args.rows.now c.args.entries.now c.args.r
            c.take_divided-own.result p l (after_rows c.args.order.now (c.loop-k.k + 1))) (sym w.rows-is)
            (subst (IsPivotUnderWay c.args.run.now.limit c.args.rows.now c.args.entries.now c.args.r c.take_divided-own.result p c.loop-k.rows)
            (after_one_more c.args.order.now c.loop-k.k)
            (own_row_is_skipped c.args.run.now.limit c.args.rows.now c.args.entries.now c.args.r c.take_divided-own.result p c.loop-k.rows i
            (omega (arith, w.if-i-r.false)) next));
      }
    ]

pub update_row-requires-2-clause-leaving : goal.update_row-requires-2-clause-leaving
update_row-requires-2-clause-leaving c = own_leaves_here (goal.at.update_row-requires-2-clause-leaving c).After-unit-p

pub returns-clause-pivoted : goal.returns-clause-pivoted
returns-clause-pivoted c =
    let d = (goal.at.returns-clause-pivoted c).After-unit-p in
    let f : FitsSigned w64 c.unit-p.result = search rules in
    let p : ℤ = to_z w64 (of_z w64 c.unit-p.result) in
    let last : ℕ = length c.loop-k.rows - 1 in
    let same_length = c.loop-k.invariant.under_way.same_length in
    let u : IsPivotUnderWay c.args.run.now.limit c.args.rows.now c.args.entries.now c.args.r c.take_divided-own.result p c.update_row-2.new.rows
    (length c.loop-k.rows - 1 + 1) = next_row_is_updated c.args.run.now.limit c.args.rows.now c.args.entries.now c.args.r
    c.take_divided-own.result p c.loop-k.rows c.update_row-2.new.rows last (own_width d)
    (λ e. omega (arith, e, same_length, c.requires.row)) c.update_row-2.ensures.length c.if-not-update_row-2.ensures.updated c.update_row-2.ensures.others
    (last_row_is_next c.args.run.now.limit c.args.rows.now c.args.entries.now c.args.r c.take_divided-own.result p c.args.order.now
    (few d) c.loop-k.rows c.loop-k.k (omega (arith, c.loop-k-test.false, c.loop-k.auto.k-end)) c.loop-k.invariant.under_way) in
    pivot_ends c.args.run.now.limit c.args.rows.now c.args.entries.now c.args.r c.take_divided-own.result c.update_row-2.new.rows
    (length c.loop-k.rows - 1 + 1) (omega (arith, c.requires.row)) c.requires.rows
    (omega (arith, same_length)) c.requires.positive (c.requires.short c.args.r (omega (arith, c.requires.row, c.requires.entries)))
    (subst (λ (p : ℤ). IsPivotUnderWay c.args.run.now.limit c.args.rows.now c.args.entries.now c.args.r c.take_divided-own.result p
    c.update_row-2.new.rows (length c.loop-k.rows - 1 + 1)) c.unit-p.ensures (simp to_z-of_z at u)) c.take_divided-own.ensures.divided
