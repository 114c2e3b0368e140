use Rattle.std.proofs.Common.{ℕ, ◌<◌}
use Rattle.it_facts.specs.Settling.{TellRate}
use Rattle.it_facts.proofs.settling.tell_rates.Given as goal

abbrev pub invariant-loop-rate : goal.invariant-loop-rate
invariant-loop-rate l = (r : ℕ) → r < l.rate → TellRate l.facts r
