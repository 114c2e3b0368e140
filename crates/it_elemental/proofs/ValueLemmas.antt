-- The values of elemental inequalities at a point, as the code sums them.
use Rattle.std.proofs.Common.{◌≡◌, ℕ, ◌+◌, ◌-◌, ◌^◌, ◌<◌, ◌≤◌, ℤ, pos, ◌+ℤ◌, ◌-ℤ◌, List, length, get_or, All, ◌⊎◌, inl, inr, Result, OkIff, zero, suc, refl, sym, subst₂, ◌∙◌, arith, lit<}
use Rattle.std.proofs.lemmas.Int.{ints}
use Rattle.std.proofs.lemmas.Bool.{cases_lt}
use Rattle.std.proofs.lemmas.List.{get_or_past}
use Rattle.it_fraction.specs.declared.fraction.Wide.{Wide}
use Rattle.it_number.specs.Limit.{IsWithin}
use Rattle.it_space.specs.Rows.{ValueFits, point_of, value}
use Rattle.it_polymatroid.specs.Elementals.{Conditional, Mutual, elemental_value}
use Rattle.it_elemental.specs.Broken.{AlternatingFits}
use Rattle.it_elemental.specs.Rows.{elemental_row}
use Rattle.it_elemental.proofs.FitLemmas.{conditional_fits, mutual_fits, ok_iff-same}
use Rattle.it_elemental.proofs.RowLemmas.{value-row}

-- all values of a point are within the limit
pub point_within : (values : List ℤ) → All IsWithin values → (s : ℕ) → IsWithin (point_of values s)
point_within values a zero = lit< tt
point_within values a (suc s) = by_cases (cases_lt s (length values))
  where
    by_cases : (s < length values) ⊎ (length values ≤ s) → IsWithin (get_or values s (pos 0))
    by_cases (inl h) = a s (pos 0) h
    by_cases (inr h) = rw (get_or_past values s (pos 0) h) (lit< tt)

pub conditional_value : (values : List ℤ) (n i : ℕ) (r : Result ℤ Wide) (a b : ℤ) → All IsWithin values → a ≡ point_of values (2 ^ n - 1)
    → b ≡ point_of values (2 ^ n - 1 - 2 ^ i)
    → OkIff r (IsWithin (a -ℤ b)) (a -ℤ b) → OkIff r (ValueFits (elemental_row n (Conditional i)) (point_of values))
    (value (elemental_row n (Conditional i)) (point_of values))
conditional_value values n i r a b w p q o =
    ok_iff-same r (ValueFits (elemental_row n (Conditional i)) (point_of values))
    (IsWithin (point_of values (2 ^ n - 1) -ℤ point_of values (2 ^ n - 1 - 2 ^ i))) _ _
    (conditional_fits n i (point_of values) refl (point_within values w)) (sym (value-row n (Conditional i) (point_of values) refl))
    (subst₂ (λ (x y : ℤ). OkIff r (IsWithin (x -ℤ y)) (x -ℤ y)) p q o)

pub mutual_value : (values : List ℤ) (n i j k : ℕ) (r : Result ℤ Wide) (a b c d : ℤ) → All IsWithin values → a ≡ point_of values k
    → b ≡ point_of values (k + 2 ^ i) → c ≡ point_of values (k + 2 ^ j) → d ≡ point_of values (k + 2 ^ i + 2 ^ j)
    → OkIff r (AlternatingFits a b c d) (((b -ℤ a) +ℤ c) -ℤ d) → OkIff r (ValueFits (elemental_row n (Mutual i j k)) (point_of values))
    (value (elemental_row n (Mutual i j k)) (point_of values))
mutual_value values n i j k r a b c d w p q s u o =
    ok_iff-same r (ValueFits (elemental_row n (Mutual i j k)) (point_of values)) (AlternatingFits a b c d) _ _
    (rw (p, q, s, u) (mutual_fits n i j k (point_of values) refl (point_within values w)))
    (sym (value-row n (Mutual i j k) (point_of values) refl ∙ alternating_value a b c d p q s u)) o
  where
    alternating_value : (a b c d : ℤ) → a ≡ point_of values k → b ≡ point_of values (k + 2 ^ i) → c ≡ point_of values (k + 2 ^ j)
        → d ≡ point_of values (k + 2 ^ i + 2 ^ j)
        → elemental_value n (point_of values) (Mutual i j k) ≡ ((b -ℤ a) +ℤ c) -ℤ d
    alternating_value a b c d p q s u = omega (arith, ints, p, q, s, u)
