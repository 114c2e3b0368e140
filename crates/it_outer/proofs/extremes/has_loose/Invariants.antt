use Rattle.std.proofs.Common.{◌≡◌, drop, not}
use Rattle.std.specs.List.{list_any}
use Rattle.it_outer.proofs.extremes.has_loose.Given as goal

abbrev pub invariant-loop-is_tight : goal.invariant-loop-is_tight
invariant-loop-is_tight l = list_any not (drop l.is_tight-index l.list) ≡ list_any not l.list
