use Rattle.std.proofs.Common.{}
use Rattle.it_space.specs.Spaces.{size_of}
use Rattle.it_region.specs.Pairs.{pair_coordinate}
use Rattle.it_region.proofs.RowLemmas.{IsUnderWay}
use Rattle.it_region.proofs.pulled_rows.pulled_row.Given as goal

abbrev pub invariant-loop-term : goal.invariant-loop-term
invariant-loop-term l = IsUnderWay (pair_coordinate l.pair l.sets) l.negated l.row (size_of l.pair.first.space) l.sums l.term-index
