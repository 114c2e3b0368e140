use Rattle.it_best.proofs.WalkLemmas.{columns_more, columns_end}
use Rattle.it_columns.specs.Columns.{columns}
use Rattle.it_best.specs.Phases.{unknown_views}
use Rattle.std.proofs.Common.{refl}
use Rattle.it_best.proofs.unknowns.columns.Goals as goal

pub loop-unknown-preserved : goal.loop-unknown-preserved
loop-unknown-preserved c = columns_more c.args.unknowns.now c.loop-unknown.unknown-index c.unknown-item.result c.unknown-item.result.kind
    c.in_ok-row.row c.loop-unknown.columns.items c.push_row.new.columns.items (columns (unknown_views c.args.unknowns.now))
    c.loop-unknown-test.true c.unknown-item.is refl c.in_ok-row.ensures c.in_ok-push_row.ensures c.loop-unknown.invariant

pub returns : goal.returns
returns c = columns_end c.args.unknowns.now c.loop-unknown.unknown-index c.loop-unknown.columns.items
    (columns (unknown_views c.args.unknowns.now)) c.loop-unknown-test.false c.loop-unknown.invariant
