use Rattle.std.proofs.Common.{◌<◌, ◌^◌, ◌∙◌, sym, subst, ℤ, length, unsigned_abs, arith}
use Rattle.it_space.specs.Sums.{number_at}
use Rattle.it_engine.specs.Choosing.{basic_column_at, entry_of, right_side_of}
use Rattle.it_engine.specs.Tables.{whole_row_at}
use Rattle.it_engine.proofs.Choices.{best_by_entries}
use Rattle.it_engine.proofs.Pivoting.{pivoted_by_entries}
use Rattle.it_engine.proofs.Steps.{above_one, best_above}
use Rattle.it_engine.proofs.Fitting.{fitting_short, fitting_suits}
use Rattle.it_engine.proofs.pivots.enter.Goals as goal

pub note_entries-requires-clause-suits : goal.note_entries-requires-clause-suits
note_entries-requires-clause-suits c = λ i l. fitting_suits (length c.args.rows.now) c.args.run.now.limit c.args.column.now
    (whole_row_at c.args.rows.now i) c.requires.column (c.requires.rows i l)

pub pivot-requires-clause-row : goal.pivot-requires-clause-row
pivot-requires-clause-row c = omega (arith, c.in_ok-row.ensures.within, c.requires.height)

pub pivot-requires-clause-short : goal.pivot-requires-clause-short
pivot-requires-clause-short c = λ k l. let h : k < length c.args.rows.now = omega (arith, l, c.note_entries.ensures.length_is) in
    subst (λ (z : ℤ). unsigned_abs z < 2 ^ 63) (sym (c.note_entries.ensures.each k h))
    (fitting_short (length c.args.rows.now) c.args.run.now.limit c.args.column.now (whole_row_at c.args.rows.now k) c.requires.column (c.requires.rows k h))

pub pivot-requires-clause-positive : goal.pivot-requires-clause-positive
pivot-requires-clause-positive c = let entries = c.note_entries.new.entries in
    above_one (number_at entries c.in_ok-row.row)
    (best_above (number_at entries) (right_side_of (length c.args.basis.now) c.args.rows.now) (basic_column_at c.args.basis.now)
    (length c.args.basis.now) c.in_ok-row.row (sym c.leaving_row.ensures.value ∙ c.in_ok-row.was))

pub returns-then-pivot-clause-leaves : goal.returns-then-pivot-clause-leaves
returns-then-pivot-clause-leaves c = let entries = c.note_entries.new.entries in
    sym (best_by_entries (number_at entries) (entry_of c.args.column.now c.args.rows.now)
    (right_side_of (length c.args.basis.now) c.args.rows.now) (basic_column_at c.args.basis.now) (length c.args.basis.now)
    (λ k l. c.note_entries.ensures.each k (omega (arith, l, c.requires.height)))) ∙ sym c.leaving_row.ensures.value ∙ c.in_ok-row.was

pub returns-then-pivot-clause-pivoted : goal.returns-then-pivot-clause-pivoted
returns-then-pivot-clause-pivoted c = let entries = c.note_entries.new.entries in
    pivoted_by_entries (length c.args.rows.now) c.args.run.now.limit c.args.rows.now (number_at entries)
    (entry_of c.args.column.now c.args.rows.now) c.in_ok-row.row c.pivot.new.rows
    (omega (arith, c.in_ok-row.ensures.within, c.requires.height)) c.note_entries.ensures.each c.if-pivot.ensures.pivoted
