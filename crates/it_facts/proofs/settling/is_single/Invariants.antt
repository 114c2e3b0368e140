use Rattle.std.proofs.Common.{◌≢◌, ℕ, ◌^◌, ◌<◌}
use Rattle.it_facts.proofs.settling.is_single.Given as goal

abbrev pub invariant-loop-variable : goal.invariant-loop-variable
invariant-loop-variable l = (i : ℕ) → i < l.variable → l.set ≢ 2 ^ i
