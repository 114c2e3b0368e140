use Rattle.std.proofs.Common.{◌+◌, List, [], length, slice_index_or, sym, subst}
use Rattle.it_space.specs.Rows.{Terms}
use Rattle.it_engine.specs.Loading.{signed_coefficient, IsReadColumn}
use Rattle.it_engine.proofs.Answers.{of_some}
use Rattle.it_engine.proofs.LoadLemmas.{columns_more, AreReadUpTo}
use Rattle.it_engine.proofs.loading.columns.Goals as goal

pub loop-j-preserved : goal.loop-j-preserved
loop-j-preserved c =
    let cs = c.args.coordinates.now in
    let target = c.args.target.now in
    let generators = c.args.generators.now in
    let j = c.loop-j.j in
    subst (λ (columns : List Terms). AreReadUpTo cs generators target (j + 1) columns) (sym c.in_ok-push.ensures.items)
    (columns_more cs generators target j c.loop-j.columns.items c.in-Some.column
    (of_some c.in_ok-column.field-0 c.in-Some.column (IsReadColumn (length cs)
    (signed_coefficient cs target (slice_index_or generators j []))) c.in-Some.is c.in_ok-column.ensures)
    c.loop-j.invariant)
