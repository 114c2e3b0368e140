use Rattle.std.proofs.Common.{◌≡◌, ◌+◌, ℕ, List, length, sym, subst, arith}
use Rattle.it_engine.specs.Loading.{AreReadRows, IsReadRow}
use Rattle.it_whole.specs.WholeRows.{WholeRowView}
use Rattle.it_engine.proofs.Answers.{of_some}
use Rattle.it_engine.proofs.LoadLemmas.{rows_more}
use Rattle.it_engine.proofs.loading.rows.Goals as goal

pub loop-k-preserved : goal.loop-k-preserved
loop-k-preserved c =
    let cs = c.args.coordinates.now in
    let target = c.args.target.now in
    subst (λ (rows : List WholeRowView). AreReadRows cs target c.args.limit (c.loop-k.k + 1) rows) (sym c.in_ok-push.ensures.items)
    (rows_more cs target c.args.limit c.loop-k.k c.loop-k.rows.items c.in-Some-2.row
    (of_some c.in_ok-row.field-0 c.in-Some-2.row (IsReadRow cs target c.args.limit c.loop-k.k) c.in-Some-2.is c.in_ok-row.ensures) c.loop-k.invariant)

pub returns-clause-rows : goal.returns-clause-rows
returns-clause-rows c =
    let cs = c.args.coordinates.now in
    let target = c.args.target.now in
    let all : c.loop-k.k ≡ length cs = omega (arith, c.loop-k-test.false, c.loop-k.auto.k-end) in
    subst (λ (rows : List WholeRowView). AreReadRows cs target c.args.limit (length cs + 1) rows) (sym c.in_ok-push-2.ensures.items)
    (rows_more cs target c.args.limit (length cs) c.loop-k.rows.items c.in_ok-cost_row.field-0 c.in_ok-cost_row.ensures
    (subst (λ (k : ℕ). AreReadRows cs target c.args.limit k c.loop-k.rows.items) all c.loop-k.invariant))
