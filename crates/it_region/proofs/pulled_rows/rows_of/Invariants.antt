use Rattle.std.proofs.Common.{}
use Rattle.it_demand.proofs.ZipLemmas.{AreMatched}
use Rattle.it_region.specs.Obligations.{IsPulledRow}
use Rattle.it_region.specs.Pairs.{pair_coordinate}
use Rattle.it_region.proofs.RowLemmas.{obligations_from}
use Rattle.it_region.proofs.pulled_rows.rows_of.Given as goal

abbrev pub invariant-loop-constraint : goal.invariant-loop-constraint
invariant-loop-constraint l = AreMatched (IsPulledRow l.pair.first.space)
    (obligations_from (pair_coordinate l.pair l.sets)) l.pair.own.items l.constraint-index l.rows.items
