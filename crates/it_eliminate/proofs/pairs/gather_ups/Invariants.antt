use Rattle.std.proofs.Common.{drop}
use Rattle.it_eliminate.proofs.KeptLemmas.{Leads, Rests}
use Rattle.it_eliminate.proofs.pairs.gather_ups.Given as goal
use Rattle.it_eliminate.specs.Gathering.{up_pairs, UpFits, rows_of}

abbrev pub invariant-loop-up : goal.invariant-loop-up
invariant-loop-up l = Leads l.most (up_pairs l.at l.rows) (drop l.up-index l.rows) l.rows (rows_of l.initial.list.keys) (rows_of l.list.keys)
    × Rests (UpFits l.at l.rows) l.rows l.up-index
