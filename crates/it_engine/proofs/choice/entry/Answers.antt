use Rattle.std.proofs.Common.{subst, sym, []}
use Rattle.it_whole.specs.ColumnTerms.{Suits}
use Rattle.it_whole.specs.WholeRows.{WholeRowView}
use Rattle.it_vectors.proofs.Items.{item_by_default}
use Rattle.it_engine.proofs.choice.entry.Goals as goal

pub price-requires : goal.price-requires
price-requires c = record {
  suits = subst (λ (r : WholeRowView). Suits c.args.column.now r.numbers)
      (sym (item_by_default c.args.rows.now c.args.i c.index-rows-i.result
      record { numbers = []; denominator = 1 } c.requires.row c.index-rows-i.is)) (c.requires.suits c.args.i c.requires.row);
}
