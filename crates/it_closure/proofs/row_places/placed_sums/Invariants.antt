use Rattle.std.proofs.Common.{◌+◌}
use Rattle.it_space.specs.Spaces.{size_of}
use Rattle.it_closure.proofs.Placing.{IsPlacing}
use Rattle.it_closure.proofs.row_places.placed_sums.Given as goal

abbrev pub invariant-loop-coordinate : goal.invariant-loop-coordinate
invariant-loop-coordinate l = IsPlacing l.dependences.space.variables l.dependences.list l.row (size_of l.dependences.space + 1) l.sums l.coordinate-index
