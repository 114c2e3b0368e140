-- No public clause cites this module: the excesses and moves of a lift, for a problem's own rows and dependences.
use Rattle.std.specs.Prelude.{ℕ, ◌-◌, ◌^◌, ℤ, List, flat_map, Result, OkIff}
use Rattle.it_fraction.specs.declared.fraction.Wide.{Wide}
use Rattle.it_space.specs.declared.answers.Certificate.{Certificate}
use Rattle.it_problems.specs.declared.problems.Problem.{Problem}
use Rattle.it_space.specs.Answers.{certificate_view}
use Rattle.it_space.specs.Rows.{Terms, value, one_at}
use Rattle.it_space.specs.Sums.{number_at}
use Rattle.it_polymatroid.specs.Elementals.{span}
use Rattle.it_elemental.specs.Generators.{generators_of}
use Rattle.it_closure.specs.DependencesViews.{DependencesView}
use Rattle.it_lift.specs.Fits.{EmptyFits, ExcessFits, WeightSumsFit}
use Rattle.it_lift.specs.Lifts.{excess, moves, moves_of}

-- the generators' coefficients at a set
abbrev pub coefficients_at : Problem → ℕ → ℕ → ℤ
coefficients_at q s i = (generators_of q).form i (one_at s)

-- the excess at a set
abbrev pub excess_at : Problem → Terms → Certificate → ℕ → ℤ
excess_at q target w s = excess (certificate_view w) (value target) (generators_of q) s

-- the excess at a set, or `Wide` exactly where a number that it is formed from passes the limit
abbrev pub IsExcessOrWide : Problem → Terms → Certificate → ℕ → Result ℤ Wide → Type 0
IsExcessOrWide q target w s result = OkIff result (ExcessFits (certificate_view w) (value target) (generators_of q) s) (excess_at q target w s)

-- the numbers that are formed before any weight changes are within the limit
abbrev pub ExcessesFit : Problem → DependencesView → Terms → Certificate → Type 0
ExcessesFit q d target w = EmptyFits d.space.variables d.list (value target) (generators_of q) (certificate_view w)

-- all amounts that are added to the weights
abbrev pub all_moves : Problem → DependencesView → Terms → Certificate → List (ℕ × ℤ)
all_moves q d target w = moves d.space.variables d.list (excess_at q target w)

-- the amounts that are added to the weights for the nonempty sets
abbrev pub nonempty_moves : Problem → DependencesView → Terms → Certificate → List (ℕ × ℤ)
nonempty_moves q d target w = flat_map (moves_of d.space.variables d.list (excess_at q target w)) (span 1 (2 ^ d.space.variables - 1))

-- these numbers are within the limit, and so is each weight as the amounts are added to those in old
abbrev pub MovesFit : Problem → DependencesView → Terms → Certificate → List ℤ → Type 0
MovesFit q d target w old = ExcessesFit q d target w × WeightSumsFit (number_at old) (all_moves q d target w)
