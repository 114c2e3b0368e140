use Rattle.std.proofs.Common.{◌≡◌, ◌<◌, sym, subst, length, [], slice_index_or, arith}
use Rattle.std.specs.Option.{IfSome}
use Rattle.it_engine.specs.Choosing.{first_negative_cost}
use Rattle.it_whole.specs.ColumnTerms.{Suits}
use Rattle.it_engine.specs.Tables.{whole_row_at}
use Rattle.it_whole.specs.WholeRows.{WholeRowView}
use Rattle.it_engine.proofs.Fitting.{fitting_suits}
use Rattle.it_engine.proofs.engine.Engine.next_column.Goals as goal

pub returns-clause-some : goal.returns-clause-some
returns-clause-some c = subst (λ (r : WholeRowView). IfSome c.entering_column.result
    (λ k. first_negative_cost c.args.columns.now r.numbers ≡ k)) c.cost_row.ensures c.entering_column.ensures.some

pub entering_column-requires : goal.entering_column-requires
entering_column-requires c = λ j l.
    let last : length c.args.self.now.basis < length c.args.self.now.rows = omega (arith, c.requires.1.rows_are) in
    subst (λ (r : WholeRowView). Suits (slice_index_or c.args.columns.now j []) r.numbers) (sym c.cost_row.ensures)
    (fitting_suits (length c.args.self.now.rows) c.requires.0 (slice_index_or c.args.columns.now j [])
    (whole_row_at c.args.self.now.rows (length c.args.self.now.basis)) (c.requires.1.fitting j l)
    (c.requires.1.usable (length c.args.self.now.basis) last))
