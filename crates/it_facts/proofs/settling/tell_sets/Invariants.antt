use Rattle.std.proofs.Common.{ℕ, ◌<◌}
use Rattle.it_space.specs.Rows.{point_of}
use Rattle.it_facts.specs.Settling.{Follows}
use Rattle.it_facts.proofs.settling.tell_sets.Given as goal

abbrev pub invariant-loop-number : goal.invariant-loop-number
invariant-loop-number l = (s : ℕ) → s < l.number → Follows l.space.variables (point_of l.point) l.facts s
