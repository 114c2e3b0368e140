use Rattle.std.proofs.Common.{◌<◌, sym, subst, length, [], slice_index_or, arith}
use Rattle.std.proofs.lemmas.List.{get_or_default}
use Rattle.it_whole.specs.ColumnTerms.{Suits}
use Rattle.it_engine.specs.Tables.{whole_row_at}
use Rattle.it_whole.specs.WholeRows.{WholeRowView}
use Rattle.it_engine.proofs.Fitting.{fitting_suits}
use Rattle.it_engine.proofs.behind.still_choice.Goals as goal

pub entering_column-requires : goal.entering_column-requires
entering_column-requires c = λ j l.
    let last : length c.args.block.now.basis.now < length c.args.block.now.rows.now = omega (arith, c.requires.engine.rows_are) in
    subst (λ (r : WholeRowView). Suits (slice_index_or c.args.run.now.columns.now j []) r.numbers)
    (sym (get_or_default c.args.block.now.rows.now (length c.args.block.now.basis.now) c.index-block-last.result
    record { numbers = []; denominator = 1 } last))
    (fitting_suits (length c.args.block.now.rows.now) c.args.run.now.limit (slice_index_or c.args.run.now.columns.now j [])
    (whole_row_at c.args.block.now.rows.now (length c.args.block.now.basis.now)) (c.requires.engine.fitting j l)
    (c.requires.engine.usable (length c.args.block.now.basis.now) last))
