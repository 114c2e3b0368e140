use Rattle.std.proofs.Common.{drop}
use Rattle.it_eliminate.proofs.KeptLemmas.{Leads, Rests}
use Rattle.it_eliminate.proofs.pairs.gather_pairs.Given as goal
use Rattle.it_eliminate.specs.Gathering.{pair_of, DownFits, rows_of}

abbrev pub invariant-loop-down : goal.invariant-loop-down
invariant-loop-down l = Leads l.most (pair_of l.at l.up) (drop l.down-index l.rows) l.rows (rows_of l.initial.list.keys) (rows_of l.list.keys)
    × Rests (DownFits l.at l.up) l.rows l.down-index
