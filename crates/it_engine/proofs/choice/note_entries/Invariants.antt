use Rattle.std.proofs.Common.{◌≡◌, ℕ, ◌<◌, length}
use Rattle.it_engine.specs.Choosing.{entry_of}
use Rattle.it_space.specs.Sums.{number_at}
use Rattle.it_engine.proofs.choice.note_entries.Given as goal

abbrev pub invariant-loop-i : goal.invariant-loop-i
invariant-loop-i l = record {
  same_length : length l.entries ≡ length l.rows;
  done : (k : ℕ) → k < l.i → number_at l.entries k ≡ entry_of l.column l.rows k;
}
