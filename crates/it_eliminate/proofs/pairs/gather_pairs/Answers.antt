use Rattle.std.proofs.Common.{◌+◌, drop}
use Rattle.it_space.proofs.ListLemmas.{drop_item}
use Rattle.it_eliminate.proofs.KeptLemmas.{leads_more, rests_more}
use Rattle.it_eliminate.proofs.pairs.gather_pairs.Goals as goal
use Rattle.it_eliminate.specs.Gathering.{pair_of, DownFits, rows_of}

pub loop-down-preserved : goal.loop-down-preserved
loop-down-preserved c = (
  leads_more c.args.most (pair_of c.args.at c.args.up.now) (drop c.loop-down.down-index c.args.rows.now) c.args.rows.now c.down-item.result
      (drop (c.loop-down.down-index + 1) c.args.rows.now) (rows_of c.args.list.now.keys) (rows_of c.loop-down.list.keys)
      (rows_of c.gather_pair.new.list.keys) (drop_item c.args.rows.now c.loop-down.down-index c.down-item.result c.loop-down-test.true c.down-item.is)
      c.in_ok-gather_pair.ensures.list c.loop-down.invariant.0,
  rests_more (DownFits c.args.at c.args.up.now) c.args.rows.now c.loop-down.down-index c.down-item.result c.loop-down-test.true
      c.down-item.is c.in_ok-gather_pair.ensures.fits c.loop-down.invariant.1,
)
