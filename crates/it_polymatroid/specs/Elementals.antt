-- The elemental inequalities of n variables, in order (Yeung 1997): each variable given all others, then each two variables given each set of others.
use Rattle.std.specs.Prelude.{◌≡◌, ℕ, zero, suc, ◌+◌, ◌-◌, ◌^◌, ℤ, pos, ◌+ℤ◌, ◌-ℤ◌, ◌≤ℤ◌, List, [], ◌∷◌, ◌++◌, slice_index_or, map, filter, flat_map, Bool, not, ◌&&◌, All}
use Rattle.it_space.specs.Sets.{has_member}
use Rattle.it_polymatroid.specs.Polymatroid.{IsPolymatroid}

-- `H(Xi | all others)`, and `I(Xi; Xj | K)` for i < j and K without both
pub data Elemental : Type 0 where
  Conditional : (i : ℕ) → Elemental
  Mutual : (i j k : ℕ) → Elemental

-- the value at h that the inequality says is at least 0
abbrev pub elemental_value : ℕ → (ℕ → ℤ) → Elemental → ℤ
elemental_value n h (Conditional i) = h (2 ^ n - 1) -ℤ h (2 ^ n - 1 - 2 ^ i)
elemental_value n h (Mutual i j k) = (h (k + 2 ^ i) +ℤ h (k + 2 ^ j)) -ℤ (h (k + 2 ^ i + 2 ^ j) +ℤ h k)

-- the count numbers from, from + 1 and so on
abbrev pub span : ℕ → ℕ → List ℕ
span from zero = []
span from (suc count) = from ∷ span (from + 1) count

-- whether variable i isn't a member of k
abbrev pub lacks : ℕ → ℕ → Bool
lacks k i = not (has_member k i)

-- `I(Xi; Xj | K)` for all K, by their numbers
abbrev pub mutuals_of : ℕ → ℕ → ℕ → List Elemental
mutuals_of n i j = map (Mutual i j) (filter (λ k. lacks k i && lacks k j) (span 0 (2 ^ n)))

-- the list: by variable, then by pair in lexicographic order and by set
abbrev pub elementals : ℕ → List Elemental
elementals n = map Conditional (span 0 n)
    ++ flat_map (λ i. flat_map (mutuals_of n i) (span (i + 1) (n - (i + 1)))) (span 0 n)

-- inequality i of the list, counted from 0
abbrev pub elemental_at : ℕ → ℕ → Elemental
elemental_at n i = slice_index_or (elementals n) i (Conditional 0)

-- h meets all of them
abbrev pub MeetsElementals : ℕ → (ℕ → ℤ) → Type 0
MeetsElementals n h = All (λ e. pos 0 ≤ℤ elemental_value n h e) (elementals n)

-- They generate the axioms: a function that is 0 at the empty set is a polymatroid exactly where it meets them.
abbrev pub ElementalsGenerate : Type 0
ElementalsGenerate = (n : ℕ) (h : ℕ → ℤ) → h 0 ≡ pos 0 → (MeetsElementals n h → IsPolymatroid n h) × (IsPolymatroid n h → MeetsElementals n h)
