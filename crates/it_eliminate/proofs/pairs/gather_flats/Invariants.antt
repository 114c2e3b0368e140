use Rattle.std.proofs.Common.{◌≡◌, ◌++◌}
use Rattle.it_eliminate.proofs.KeptLemmas.{Leads}
use Rattle.it_eliminate.proofs.pairs.gather_flats.Given as goal
use Rattle.it_eliminate.specs.Gathering.{flat_of, rows_of, rows_with}

abbrev pub invariant-loop-row : goal.invariant-loop-row
invariant-loop-row l = Leads l.most (flat_of l.at) l.row-iterator.rest.items l.fn.rows.items (rows_of l.initial.list.keys) (rows_of l.list.keys)
    × (l.others.items ++ rows_with l.at l.row-iterator.rest.items ≡ rows_with l.at l.fn.rows.items)
