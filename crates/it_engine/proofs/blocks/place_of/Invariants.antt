use Rattle.std.proofs.Common.{ℕ, ◌<◌, slice_index_or}
use Rattle.it_engine.proofs.blocks.place_of.Given as goal

abbrev pub invariant-loop-k : goal.invariant-loop-k
invariant-loop-k l = record {
  before : (j : ℕ) → j < l.k → slice_index_or l.order j 0 < l.r;
}
