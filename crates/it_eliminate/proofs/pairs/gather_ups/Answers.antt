use Rattle.std.proofs.Common.{◌+◌, drop}
use Rattle.it_space.proofs.ListLemmas.{drop_item}
use Rattle.it_eliminate.proofs.KeptLemmas.{leads_more, rests_more}
use Rattle.it_eliminate.proofs.pairs.gather_ups.Goals as goal
use Rattle.it_eliminate.specs.Gathering.{up_pairs, UpFits, rows_of}

pub loop-up-preserved : goal.loop-up-preserved
loop-up-preserved c = (
  leads_more c.args.most (up_pairs c.args.at c.args.rows.now) (drop c.loop-up.up-index c.args.rows.now) c.args.rows.now c.up-item.result
      (drop (c.loop-up.up-index + 1) c.args.rows.now) (rows_of c.args.list.now.keys) (rows_of c.loop-up.list.keys)
      (rows_of c.gather_up.new.list.keys) (drop_item c.args.rows.now c.loop-up.up-index c.up-item.result c.loop-up-test.true c.up-item.is)
      c.in_ok-gather_up.ensures.list c.loop-up.invariant.0,
  rests_more (UpFits c.args.at c.args.rows.now) c.args.rows.now c.loop-up.up-index c.up-item.result c.loop-up-test.true c.up-item.is
      c.in_ok-gather_up.ensures.fits c.loop-up.invariant.1,
)
