use Rattle.std.proofs.Common.{◌≡◌, ◌<◌, ◌≤◌, ◌*◌, ◌^◌, ◌-◌, ℕ}
use Rattle.it_codes.proofs.entropies.exponent.Given as goal

abbrev pub decreases-loop-reached : goal.decreases-loop-reached
decreases-loop-reached l = l.total - l.reached

abbrev pub invariant-loop-reached : goal.invariant-loop-reached
invariant-loop-reached l = (l.reached ≡ l.count * l.size ^ l.h) × (l.h < l.reached) × ((j : ℕ) → j < l.h → l.count * l.size ^ j < l.total) × (l.h ≤ 4096)
