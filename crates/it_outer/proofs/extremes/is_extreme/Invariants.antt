use Rattle.std.proofs.Common.{◌≡◌, drop}
use Rattle.std.specs.List.{list_any}
use Rattle.it_outer.specs.Extremes.{is_outdone}
use Rattle.it_outer.proofs.extremes.is_extreme.Given as goal

abbrev pub invariant-loop-other : goal.invariant-loop-other
invariant-loop-other l = list_any (λ v. is_outdone l.list v.items) (drop l.other-index l.lists) ≡ list_any (λ v. is_outdone l.list v.items) l.lists
