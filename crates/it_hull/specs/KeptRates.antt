-- The coordinates of the rates that stay, where others go.
use Rattle.std.specs.Prelude.{ℕ, zero, suc, ◌+◌, ◌^◌, List, [], ◌∷◌, map, nat_eq, if◌then◌else◌}
use Rattle.std.specs.List.{list_any}
use Rattle.it_space.specs.declared.spaces.Space.{Space}

-- the count rates from rate on, without those in gone
abbrev pub rates_left : List ℕ → ℕ → ℕ → List ℕ
rates_left gone rate zero = []
rates_left gone rate (suc count) = if list_any (λ r. nat_eq r rate) gone then rates_left gone (rate + 1) count else rate ∷ rates_left gone (rate + 1) count

-- the coordinates of the rates that aren't in gone
abbrev pub kept_coordinates : Space → List ℕ → List ℕ
kept_coordinates s gone = map (λ r. 2 ^ s.variables + r) (rates_left gone 0 s.rates)
