use Rattle.std.proofs.Common.{◌≡◌, ℕ, ◌<◌, length, pos}
use Rattle.it_space.specs.Sums.{number_at}
use Rattle.it_engine.proofs.blocks.clear_entries.Given as goal

abbrev pub invariant-loop-i : goal.invariant-loop-i
invariant-loop-i l = record {
  same_length : length l.entries ≡ length l.initial.entries;
  done : (k : ℕ) → k < l.i → number_at l.entries k ≡ pos 0;
}
