use Rattle.std.proofs.Common.{All, take}
use Rattle.it_space.specs.Rows.{point_of}
use Rattle.it_facts.specs.Settling.{IsFactOf}
use Rattle.it_facts.proofs.settling.are_facts_of.Given as goal

abbrev pub invariant-loop-fact : goal.invariant-loop-fact
invariant-loop-fact l = All (IsFactOf l.space.variables l.space.rates (point_of l.point)) (take l.fact-index l.facts)
