use Rattle.std.proofs.Common.{◌-◌, List, length, sym, subst}
use Rattle.it_rational.specs.Rational.{Rational}
use Rattle.it_tableau.specs.Entries.{entry_at}
use Rattle.it_tableau.specs.Rows.{dense_row}
use Rattle.it_tableau.specs.SparseRows.{ListsEntries}
use Rattle.it_tableau.proofs.DenseRows.{row_lists}
use Rattle.it_tableau.proofs.sparse_rows.SparseRow.terms.Goals as goal

pub returns : goal.returns
returns c =
    let row : List Rational = dense_row c.self.inside.width c.self.inside.terms.items c.self.inside.right in
    subst (λ (r : List Rational). ListsEntries (entry_at r) (length r - 1) c.as_slice.result.now) c.self.view_is
    (subst (ListsEntries (entry_at row) (length row - 1)) (sym c.as_slice.ensures.value)
    (row_lists c.self.inside.width c.self.inside.terms.items c.self.inside.right c.self.invariant))
