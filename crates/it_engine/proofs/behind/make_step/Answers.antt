use Rattle.std.proofs.Common.{rules, Bool, length, List, slice_set, true, sym, subst, ◌≡◌, ◌∙◌, [], slice_index_or, FitsSigned, to_z-of_z, w64, ap}
use Rattle.std.proofs.lemmas.List.{get_or_default, length-set, with_items_is}
use Rattle.std.specs.Vec.{with_items}
use Rattle.it_space.specs.Rows.{Terms}
use Rattle.it_engine.specs.Behind.{AreMovedInOrder, HaveEntered}
use Rattle.it_engine.specs.Choosing.{entry_of}
use Rattle.it_engine.proofs.BehindMoves.{AreReady, ready, entries_short, null_elsewhere, step_behind}
use Rattle.it_engine.proofs.MovedOrder.{still_entered}
use Rattle.it_engine.proofs.behind.make_step.Goals as goal
use Rattle.it_engine.proofs.behind.make_step.Goals.{After-entry_at}

rows_ready : (c : After-entry_at) → AreReady c.args.run.now.columns.now c.args.run.now.limit c.args.rows.now c.args.basis.now
    c.args.notes.now.moved.items c.args.row c.bring_if_behind.new.rows
rows_ready c = subst (λ (moved : List Bool). AreReady c.args.run.now.columns.now c.args.run.now.limit c.args.rows.now c.args.basis.now moved
    c.args.row c.bring_if_behind.new.rows) c.as_slice-moved.ensures.value
    (ready c.args.run.now.columns.now c.args.run.now.limit c.args.rows.now c.args.basis.now c.as_slice-moved.result.now c.args.row
    c.requires.row c.requires.engine c.bring_if_behind.new.rows c.if-not-bring_if_behind.ensures.brought
    c.if-not-bring_if_behind.ensures.kept)

own_entry : (c : After-entry_at) → c.entry_at.result ≡ entry_of (slice_index_or c.args.run.now.columns.now c.args.column [])
    c.bring_if_behind.new.rows c.args.row
own_entry c = c.entry_at.ensures ∙ ap (λ (ts : Terms). entry_of ts c.bring_if_behind.new.rows c.args.row)
    (get_or_default c.args.run.now.columns.now c.args.column c.index-run-column.result [] c.requires.column)

-- there is a note for each row
even : (c : After-entry_at) → length c.args.notes.now.moved.items ≡ length c.args.rows.now
even c = c.requires.notes.moved_is ∙ sym c.requires.engine.rows_are

-- which rows moved by now
moved_is : (c : After-entry_at) → c.note_moved.new.moved ≡ slice_set c.args.notes.now.moved.items c.args.row true
moved_is c = c.in_ok-note_moved.ensures.moved ∙ ap (λ (moved : List Bool). slice_set moved c.args.row true) c.as_mut_slice.ensures.value

-- that list as it is written back
moved_is_written : (c : After-entry_at) → (with_items c.args.notes.now.moved c.note_moved.new.moved).items ≡ c.note_moved.new.moved
moved_is_written c = with_items_is c.args.notes.now.moved c.note_moved.new.moved
    (ap length (moved_is c) ∙ length-set c.args.notes.now.moved.items c.args.row true ∙ sym c.args.notes.now.moved.ok.0)

order_is : (c : After-entry_at) → AreMovedInOrder c.note_moved.new.moved (length c.args.basis.now) c.note_moved.new.order.items
order_is c = c.in_ok-note_moved.ensures.order (length c.args.basis.now) c.requires.row
    (subst (λ (moved : List Bool). AreMovedInOrder moved (length c.args.basis.now) c.args.notes.now.order.items)
    (sym c.as_mut_slice.ensures.value) c.requires.order)

pub pivot_moved-requires-clause-short : goal.pivot_moved-requires-clause-short
pivot_moved-requires-clause-short c =
    let d = (goal.at.pivot_moved-requires-clause-short c).After-entry_at in
    let f : FitsSigned w64 c.entry_at.result = search rules in
    rw (c.as_slice-3.ensures.value, to_z-of_z f) (entries_short c.args.run.now.columns.now c.args.run.now.limit c.args.rows.now
    c.args.basis.now c.args.notes.now.moved.items c.args.row c.requires.row c.requires.engine c.args.column c.requires.column (even d)
    c.bring_if_behind.new.rows (rows_ready d) c.args.notes.now.entries.items c.requires.entries c.entry_at.result (own_entry d))

pub pivot_moved-requires-clause-elsewhere : goal.pivot_moved-requires-clause-elsewhere
pivot_moved-requires-clause-elsewhere c =
    let d = (goal.at.pivot_moved-requires-clause-elsewhere c).After-entry_at in
    let f : FitsSigned w64 c.entry_at.result = search rules in
    rw (c.as_slice-3.ensures.value, to_z-of_z f) (null_elsewhere c.args.run.now.columns.now c.args.run.now.limit c.args.rows.now
    c.args.basis.now c.args.notes.now.moved.items c.args.row c.requires.row c.requires.engine c.args.column c.requires.column (even d)
    c.bring_if_behind.new.rows (rows_ready d) c.args.notes.now.entries.items c.requires.entries c.entry_at.result
    (own_entry d) c.note_moved.new.moved c.as_slice-2.result.now (moved_is d)
    (subst (AreMovedInOrder c.note_moved.new.moved (length c.args.basis.now)) (sym c.as_slice-2.ensures.value) (order_is d)))

pub returns-clause-order : goal.returns-clause-order
returns-clause-order c = let d = (goal.at.returns-clause-order c).After-entry_at in
    subst (λ (moved : List Bool). AreMovedInOrder moved (length c.args.basis.now) c.note_moved.new.order.items) (sym (moved_is_written d)) (order_is d)

pub returns-clause-entered : goal.returns-clause-entered
returns-clause-entered c = let d = (goal.at.returns-clause-entered c).After-entry_at in
    subst (HaveEntered c.args.run.now.columns.now (slice_set c.args.basis.now c.args.row c.args.column)) (sym (moved_is_written d ∙ moved_is d))
    (still_entered c.args.run.now.columns.now c.args.basis.now c.args.notes.now.moved.items c.args.row c.args.column c.requires.row
    c.requires.column c.requires.entered)

pub returns-clause-step : goal.returns-clause-step
returns-clause-step c =
    let d = (goal.at.returns-clause-step c).After-entry_at in
    let f : FitsSigned w64 c.entry_at.result = search rules in
    let e = simp (c.as_slice-3.ensures.value, to_z-of_z) at c.if-not-pivot_moved.ensures.pivoted in
    step_behind c.args.run.now.columns.now c.args.run.now.limit c.args.rows.now c.args.basis.now c.args.notes.now.moved.items c.args.row
    c.requires.row c.requires.engine c.args.column c.requires.column (even d)
    c.bring_if_behind.new.rows (rows_ready d) c.args.notes.now.entries.items c.requires.entries c.entry_at.result (own_entry d) c.pivot_moved.new.rows e
