-- The number of an elemental inequality in the list, as a formula.
use Rattle.std.specs.Prelude.{◌≡◌, ℕ, zero, suc, ◌+◌, ◌-◌, ◌*◌, ◌/◌, ◌%◌, ◌^◌, ◌<◌, length}
use Rattle.it_polymatroid.specs.Elementals.{Elemental, Conditional, Mutual, elementals, elemental_at}
use Rattle.it_elemental.specs.Views.{IsElemental}

-- the number of pairs whose first variable is before i
abbrev pub pairs_before : ℕ → ℕ → ℕ
pairs_before n zero = 0
pairs_before n (suc i) = pairs_before n i + (n - (i + 1))

-- the number whose binary digits are those of k without the one at place j
abbrev pub without_digit : ℕ → ℕ → ℕ
without_digit j k = (k / 2 ^ suc j) * 2 ^ j + k % 2 ^ j

-- the number of H(Xi | all others), or of I(Xi;Xj | K): after the first kind, that of the pair times the number of sets, plus that of K
-- without the digits of i and j
unfoldable pub elemental_index : ℕ → Elemental → ℕ
elemental_index n (Conditional i) = i
elemental_index n (Mutual i j k) = n + (pairs_before n i + (j - i - 1)) * (2 ^ n / 4) + without_digit i (without_digit j k)

-- elemental_index is the one place at which the list has the inequality
abbrev pub IndexesAreTold : Type 0
IndexesAreTold = (n : ℕ) → ((e : Elemental) → IsElemental n e → (elemental_index n e < length (elementals n)) × (elemental_at n (elemental_index n e) ≡ e))
    × ((i : ℕ) → i < length (elementals n) → elemental_index n (elemental_at n i) ≡ i)

-- no inequality is in the list twice
abbrev pub InequalitiesAreListedOnce : Type 0
InequalitiesAreListedOnce = (n i j : ℕ) → i < length (elementals n) → j < length (elementals n) → elemental_at n i ≡ elemental_at n j → i ≡ j
