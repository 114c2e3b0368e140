use Rattle.std.proofs.Common.{[], slice_index_or, subst}
use Rattle.std.proofs.lemmas.List.{get_or_default}
use Rattle.it_space.specs.Rows.{Terms}
use Rattle.it_engine.specs.Behind.{AreMovedEntries}
use Rattle.it_engine.proofs.BehindNumbers.{if_some_anyway}
use Rattle.it_engine.proofs.BehindChoices.{leaves_if_some}
use Rattle.it_engine.proofs.BehindWeights.{combined_suits}
use Rattle.it_engine.proofs.behind.still_row.Goals as goal
use Rattle.it_engine.proofs.behind.still_row.Goals.{In-Some}

-- the entries that are noted
entries_are : (c : In-Some) → AreMovedEntries (slice_index_or c.args.run.now.columns.now c.args.column []) c.args.block.now.rows.now
    c.args.block.now.moved.now c.note_moved_entries.new.entries
entries_are c = subst (λ (ts : Terms). AreMovedEntries ts c.args.block.now.rows.now c.args.block.now.moved.now c.note_moved_entries.new.entries)
    (get_or_default c.args.run.now.columns.now c.args.column c.index-run-column.result [] c.requires.column) c.note_moved_entries.ensures

pub first_to_leave-requires-clause-suits : goal.first_to_leave-requires-clause-suits
first_to_leave-requires-clause-suits c = combined_suits c.args.run.now.columns.now c.args.block.now.rows.now c.args.block.now.basis.now
    c.args.block.now.moved.now c.note_moved_entries.new.entries c.in-Some.shares.multiple c.args.column
    c.args.run.now.norm c.requires.norm c.args.run.now.limit c.args.base.now.bound c.args.base.now.bound c.in-Some.shares.bound
    c.requires.column c.requires.engine.usable c.requires.engine.fitting
    (entries_are (goal.at.first_to_leave-requires-clause-suits c).In-Some) c.requires.engine.rows_are c.in-Some.ensures.bounds
    c.if-not-are_short.ensures.numbers c.requires.bound c.combine_columns.new.combined c.in-Ok.ensures

pub returns-in-Ok-clause-leaves : goal.returns-in-Ok-clause-leaves
returns-in-Ok-clause-leaves c = leaves_if_some c.args.run.now.columns.now c.args.block.now.rows.now c.args.block.now.basis.now
    c.args.block.now.moved.now c.note_moved_entries.new.entries c.in-Some.shares.multiple c.args.column
    c.args.run.now.limit c.args.base.now.bound c.args.base.now.bound c.args.run.now.norm c.in-Some.shares.bound c.requires.norm
    c.requires.column (entries_are (goal.at.returns-in-Ok-clause-leaves c).In-Some) c.in-Some.ensures.common
    c.in-Some.ensures.bounds
    c.if-not-are_short.ensures.numbers c.if-not-are_short.ensures.denominators c.requires.bound c.requires.engine.rows_are
    c.combine_columns.new.combined c.in-Ok.ensures c.first_to_leave.result c.first_to_leave.ensures

pub returns-in-Ok-clause-noted : goal.returns-in-Ok-clause-noted
returns-in-Ok-clause-noted c = if_some_anyway c.first_to_leave.result (entries_are (goal.at.returns-in-Ok-clause-noted c).In-Some)
