use Rattle.std.proofs.Common.{◌≡◌, [], subst, IfOk}
use Rattle.std.specs.Option.{IfSome}
use Rattle.it_vectors.specs.Sizes.{AreAtMost}
use Rattle.it_whole.specs.WholeRows.{WholeRowView}
use Rattle.it_engine.specs.Tables.{whole_row_at}
use Rattle.it_vectors.proofs.Items.{item_by_default}
use Rattle.it_engine.proofs.engine.narrowed_row.Goals as goal
use Rattle.it_engine.proofs.engine.narrowed_row.Goals.{After-index-rows-k}

row_is : (c : After-index-rows-k) → c.index-rows-k.result ≡ whole_row_at c.args.rows.now c.args.k
row_is c = item_by_default c.args.rows.now c.args.k c.index-rows-k.result record { numbers = []; denominator = 1 } c.requires.row c.index-rows-k.is

pub returns-clause-row : goal.returns-clause-row
returns-clause-row c = subst (λ (r : WholeRowView). IfOk c.narrowed.result (λ o. IfSome o (λ row. row ≡ r)))
    (row_is (goal.at.returns-clause-row c).After-index-rows-k) c.narrowed.ensures.row

pub returns-clause-small : goal.returns-clause-small
returns-clause-small c = subst (λ (r : WholeRowView). IfOk c.narrowed.result (λ o. IfSome o (λ row. AreAtMost r.numbers c.args.limit)))
    (row_is (goal.at.returns-clause-small c).After-index-rows-k) c.narrowed.ensures.small
