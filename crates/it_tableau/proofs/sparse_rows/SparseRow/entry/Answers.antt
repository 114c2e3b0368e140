use Rattle.std.proofs.Common.{◌<◌, List, length, sym, ap, ◌∙◌, arith}
use Rattle.it_rational.specs.Rational.{Rational}
use Rattle.it_tableau.specs.Entries.{entry_at}
use Rattle.it_tableau.specs.SparseRows.{RowTerms, entry_in}
use Rattle.it_tableau.proofs.DenseRows.{row_end, row_entry, row_length}
use Rattle.it_tableau.proofs.sparse_rows.SparseRow.entry.Goals as goal

pub returns-then-column-self : goal.returns-then-column-self
returns-then-column-self c =
    sym (row_end c.self.inside.width c.self.inside.terms.items c.self.inside.right c.args.column c.if-column-self.true)
    ∙ ap (λ (r : List Rational). entry_at r c.args.column) c.self.view_is

pub returns : goal.returns
returns c =
    let within : c.args.column < c.self.inside.width =
    (let n = row_length c.self.inside.width c.self.inside.terms.items c.self.inside.right
    in let e = ap (λ (r : List Rational). length r) c.self.view_is in omega (arith, n, e, c.requires, c.if-column-self.false)) in
    c.number_in.ensures ∙ ap (λ (ts : RowTerms). entry_in ts c.args.column) c.as_slice.ensures.value
    ∙ sym (row_entry c.self.inside.width c.self.inside.terms.items c.self.inside.right c.args.column within)
    ∙ ap (λ (r : List Rational). entry_at r c.args.column) c.self.view_is
