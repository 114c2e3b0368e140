use Rattle.std.proofs.Common.{refl, ap, length, arith}
use Rattle.it_demand.proofs.ZipLemmas.{matched-end}
use Rattle.it_region.specs.Obligations.{IsPulledRow}
use Rattle.it_region.specs.Pairs.{pair_coordinate}
use Rattle.it_region.proofs.RowLemmas.{obligations_from}
use Rattle.it_region.proofs.pulled_rows.rows_of.Goals as goal

pub returns : goal.returns
returns c = matched-end (IsPulledRow c.args.pair.now.first.space) (obligations_from (pair_coordinate c.args.pair.now c.args.sets.now))
    c.args.pair.now.own.items c.loop-constraint.constraint-index c.loop-constraint.rows.items
    (omega (arith, c.loop-constraint-test.false, ap length c.as_slice-constraint-items.ensures.value)) refl c.loop-constraint.invariant
