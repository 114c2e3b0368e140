-- A point has exactly one first set whose value isn't the given multiple of its entropy by a code, or it has none.
use Rattle.std.proofs.Common.{◌≡◌, ◌⊎◌, inl, inr, ◌-◌, ◌*◌, ◌^◌, ◌<◌, ◌≤◌, ◌∙◌, ℕ, zero, suc, ℤ, pos, negsuc, List, Option, Some, None, refl, ap, sym, subst, arith}
use Rattle.std.proofs.Math.Nat.{mul-le-mul_left, mul_comm, one-le-pow, pow-suc, zero-mul}
use Rattle.std.proofs.lemmas.Bool.{cases_order}
use Rattle.std.proofs.lemmas.Nat.{pow_pos}
use Rattle.it_space.specs.Rows.{point_of}
use Rattle.it_codes.specs.Codes.{AreEntropies, CodeView, FirstOtherIs, HasEntropy, IsEntropy, IsFirstOther, kernel_size, size, variables_of}
use Rattle.it_codes.proofs.EntropyLemmas.{one_more_set, other_value, some_message, two_elements}

-- ---- numbers

equal_or_not : (a b : ℕ) → (a ≡ b) ⊎ ¬ (a ≡ b)
equal_or_not a b = by_order (cases_order a b)
  where
    by_order : (a ≡ b) ⊎ ((a < b) ⊎ (b < a)) → (a ≡ b) ⊎ ¬ (a ≡ b)
    by_order (inl e) = inl e
    by_order (inr (inl less)) = inr (λ e. omega (arith, less, e))
    by_order (inr (inr more)) = inr (λ e. omega (arith, more, e))

pos_same : (m n : ℕ) → pos m ≡ pos n → m ≡ n
pos_same m n e = cc

negative : (m n : ℕ) → negsuc m ≡ pos n → ⊥
negative m n e = cc

value_or_not : (z : ℤ) (n : ℕ) → (z ≡ pos n) ⊎ ¬ (z ≡ pos n)
value_or_not (pos m) n = by_test (equal_or_not m n)
  where
    by_test : (m ≡ n) ⊎ ¬ (m ≡ n) → (pos m ≡ pos n) ⊎ ¬ (pos m ≡ pos n)
    by_test (inl e) = inl (ap pos e)
    by_test (inr differs) = inr (λ e. differs (pos_same m n e))
value_or_not (negsuc m) n = inr (negative m n)

-- ---- powers

above_exponent : (q h : ℕ) → 2 ≤ q → h < q ^ h
above_exponent q zero some = one-le-pow 0 q (omega (arith, some))
above_exponent q (suc h) some =
    let before : h < q ^ h = above_exponent q h some in
    let next : q ^ suc h ≡ q ^ h * q = pow-suc q h in
    let twice : q ^ h * 2 ≤ q ^ h * q = mul-le-mul_left (q ^ h) some in
    omega (arith, before, next, twice)

-- an exponent is below the total
exponent_below : (count q total h : ℕ) → 2 ≤ q → 1 ≤ total → count * q ^ h ≡ total → h < total
exponent_below count q total h some positive e = by_test (equal_or_not count 0)
  where
    by_test : (count ≡ 0) ⊎ ¬ (count ≡ 0) → h < total
    by_test (inl none) = let zeros : count * q ^ h ≡ 0 = ap (λ n. n * q ^ h) none ∙ zero-mul (q ^ h) in absurd (omega (arith, zeros, e, positive))
    by_test (inr other) =
        let one : 1 ≤ count = by_order (cases_order count 0) in
        let grown : q ^ h * 1 ≤ q ^ h * count = mul-le-mul_left (q ^ h) one in
        let turned : q ^ h * count ≡ count * q ^ h = mul_comm (q ^ h) count in
        let above : h < q ^ h = above_exponent q h some in
        omega (arith, grown, turned, above, e)
      where
        by_order : (count ≡ 0) ⊎ ((count < 0) ⊎ (0 < count)) → 1 ≤ count
        by_order (inl none) = absurd (other none)
        by_order (inr (inl less)) = absurd (omega (arith, less))
        by_order (inr (inr more)) = omega (arith, more)

-- one of the powers below one gives a total, or none does
abbrev PowerOrNone : ℕ → ℕ → ℕ → ℕ → Type 0
PowerOrNone count q total k = ((h : ℕ) × (count * q ^ h ≡ total)) ⊎ ((h : ℕ) → h < k → ¬ (count * q ^ h ≡ total))

one_more_power : (count q total k : ℕ) → PowerOrNone count q total k → (count * q ^ k ≡ total) ⊎ ¬ (count * q ^ k ≡ total) → PowerOrNone count q total (suc k)
one_more_power count q total k (inl found) here = inl found
one_more_power count q total k (inr none) (inl e) = inl (k, e)
one_more_power count q total k (inr none) (inr other) = inr (λ h lt. by_order h lt (cases_order h k))
  where
    by_order : (h : ℕ) → h < suc k → (h ≡ k) ⊎ ((h < k) ⊎ (k < h)) → ¬ (count * q ^ h ≡ total)
    by_order h lt (inl e) = subst (λ j. ¬ (count * q ^ j ≡ total)) (sym e) other
    by_order h lt (inr (inl less)) = none h less
    by_order h lt (inr (inr more)) = absurd (omega (arith, lt, more))

power_or_none : (count q total k : ℕ) → PowerOrNone count q total k
power_or_none count q total zero = inr (λ h lt. absurd (omega (arith, lt)))
power_or_none count q total (suc k) = one_more_power count q total k (power_or_none count q total k) (equal_or_not (count * q ^ k) total)

-- ---- sets

module _ (code : CodeView) (times : ℕ) (values : List ℤ) where
  has_or_not : (s : ℕ) → HasEntropy code times values s ⊎ ¬ HasEntropy code times values s
  has_or_not s = by_power (power_or_none (kernel_size code s) (size code.field) (size code.field ^ code.symbols) (size code.field ^ code.symbols))
    where
      by_value : (h : ℕ) → IsEntropy code s h → (point_of values s ≡ pos (times * h)) ⊎ ¬ (point_of values s ≡ pos (times * h))
          → HasEntropy code times values s ⊎ ¬ HasEntropy code times values s
      by_value h is (inl e) = inl (h, e, is)
      by_value h is (inr differs) = inr (other_value code times values s h (point_of values s) refl is differs)

      by_power : PowerOrNone (kernel_size code s) (size code.field) (size code.field ^ code.symbols) (size code.field ^ code.symbols)
          → HasEntropy code times values s ⊎ ¬ HasEntropy code times values s
      by_power (inl found) = by_value found.0 found.1 (value_or_not (point_of values s) (times * found.0))
      by_power (inr none) = inr (λ has. none has.0
          (exponent_below (kernel_size code s) (size code.field) (size code.field ^ code.symbols) has.0 (two_elements code.field)
          (some_message code.field code.symbols) has.2) has.2)

  -- a first set up to one, or none
  abbrev FoundUpTo : ℕ → Type 0
  FoundUpTo m = (s : ℕ) × (1 ≤ s) × (s < suc m) × ((t : ℕ) → 1 ≤ t → t < s → HasEntropy code times values t) × ¬ HasEntropy code times values s

  abbrev AllUpTo : ℕ → Type 0
  AllUpTo m = (s : ℕ) → 1 ≤ s → s < suc m → HasEntropy code times values s

  one_set_more : (m : ℕ) → FoundUpTo m ⊎ AllUpTo m → HasEntropy code times values (suc m) ⊎ ¬ HasEntropy code times values (suc m)
      → FoundUpTo (suc m) ⊎ AllUpTo (suc m)
  one_set_more m (inl found) here = inl (found.0, found.1, (let lt = found.2 in omega (arith, lt)), found.3, found.4)
  one_set_more m (inr all) (inl has) = inr (λ s from below. one_more_set (HasEntropy code times values) (suc m) all has s from (omega (arith, below)))
  one_set_more m (inr all) (inr other) = inl (suc m, omega arith, omega arith, all, other)

  first_up_to : (m : ℕ) → FoundUpTo m ⊎ AllUpTo m
  first_up_to zero = inr (λ s from below. absurd (omega (arith, from, below)))
  first_up_to (suc m) = one_set_more m (first_up_to m) (has_or_not (suc m))

  pub first_other_there : (o : Option ℕ) × FirstOtherIs code times values o
  first_other_there = by_cases (first_up_to (2 ^ variables_of code - 1))
    where
      last : suc (2 ^ variables_of code - 1) ≡ 2 ^ variables_of code
      last = let positive : 0 < 2 ^ variables_of code = pow_pos (variables_of code) in omega (arith, positive)

      by_cases : FoundUpTo (2 ^ variables_of code - 1) ⊎ AllUpTo (2 ^ variables_of code - 1) → (o : Option ℕ) × FirstOtherIs code times values o
      by_cases (inl found) = (Some found.0, record { from_one = found.1; within = subst (λ n. found.0 < n) last found.2; before = found.3; other = found.4 })
      by_cases (inr all) = (None, λ s from below. all s from (subst (λ n. s < n) (sym last) below))

  -- the first set is one
  pub one_first_other : (s t : ℕ) → IsFirstOther code times values s → IsFirstOther code times values t → s ≡ t
  one_first_other s t h k = by_order (cases_order s t)
    where
      by_order : (s ≡ t) ⊎ ((s < t) ⊎ (t < s)) → s ≡ t
      by_order (inl e) = e
      by_order (inr (inl less)) = absurd (h.other (k.before s h.from_one less))
      by_order (inr (inr more)) = absurd (k.other (h.before t k.from_one more))

  -- and there is none where all values are entropies
  pub no_first_other : (s : ℕ) → AreEntropies code times values → IsFirstOther code times values s → ⊥
  no_first_other s all h = h.other (all s h.from_one h.within)
