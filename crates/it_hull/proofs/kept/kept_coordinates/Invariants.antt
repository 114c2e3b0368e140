use Rattle.std.proofs.Common.{◌≡◌, ◌+◌, ◌-◌, ◌^◌, ◌++◌, map}
use Rattle.it_hull.specs.KeptRates.{kept_coordinates, rates_left}
use Rattle.it_hull.proofs.kept.kept_coordinates.Given as goal

abbrev pub invariant-loop-rate : goal.invariant-loop-rate
invariant-loop-rate l = l.kept.items ++ map (λ r. 2 ^ l.space.variables + r) (rates_left l.gone l.rate (l.space.rates - l.rate))
    ≡ kept_coordinates l.space l.gone
