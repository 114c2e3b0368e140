use Rattle.std.proofs.Common.{rules, ◌∙◌, ◌<◌, ◌^◌, length, pos, sym, subst, ℤ, unsigned_abs, FitsSigned, to_z-of_z, w64}
use Rattle.it_space.specs.Rows.{value}
use Rattle.it_space.specs.Sums.{number_at}
use Rattle.it_whole.proofs.Usable.{kept_updated}
use Rattle.it_engine.specs.Tables.{whole_row_at}
use Rattle.it_engine.proofs.Fitting.{fitting_short}
use Rattle.it_engine.proofs.bringing.take_off.Goals as goal

pub returns-then-is_zero-clause-updated : goal.returns-then-is_zero-clause-updated
returns-then-is_zero-clause-updated c =
    let f : FitsSigned w64 c.price-entry.result = search rules in
    kept_updated (length (whole_row_at c.args.rows.now c.args.q).numbers) c.args.limit c.args.row.now
    (whole_row_at c.args.rows.now c.args.q) (value c.args.column.now (number_at c.args.row.now.numbers))
    (pos (whole_row_at c.args.rows.now c.args.q).denominator)
    c.requires.row (sym c.price-entry.ensures ∙ (simp to_z-of_z at c.if-is_zero.ensures.yes))

pub update-requires-clause-entry : goal.update-requires-clause-entry
update-requires-clause-entry c =
    let f : FitsSigned w64 c.price-entry.result = search rules in
    simp to_z-of_z (subst (λ (z : ℤ). unsigned_abs z < 2 ^ 63) (sym c.price-entry.ensures)
    (fitting_short (length (whole_row_at c.args.rows.now c.args.q).numbers) c.args.limit c.args.column.now c.args.row.now c.requires.column c.requires.row))
