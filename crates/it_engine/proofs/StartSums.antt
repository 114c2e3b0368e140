-- The start that the engine is loaded with isn't wide: the partial sums of its cost row are short.
use Rattle.std.proofs.Common.{◌≡◌, ◌⊎◌, inl, inr, ℕ, zero, suc, ◌+◌, ◌-◌, ◌<◌, ◌≤◌, ◌^◌, Bool, true, false, cond, ltb, ℤ, pos, unsigned_abs, List, [], length, slice_index_or, refl, sym, ap, ap₂, subst, ◌∙◌, arith, lit<}
use Rattle.std.proofs.lemmas.Bool.{cases_eq, cases_lt, lt-ltb, le-ltb}
use Rattle.it_number.specs.Rings.{Ring}
use Rattle.it_number.specs.Limit.{IsWithin}
use Rattle.it_number.proofs.Ring.{mul-null}
use Rattle.it_rational.specs.Rational.{Rational, integer, IsRatio}
use Rattle.it_rational.proofs.Names.{whole_names}
use Rattle.it_rational.proofs.RationalLaws.{ring_ℚ}
use Rattle.it_fraction.specs.Fits.{IsNarrow}
use Rattle.it_fraction.proofs.ZeroLemmas.{whole-narrow}
use Rattle.it_space.specs.Rows.{Terms, value}
use Rattle.it_tableau.specs.Operations.{rationals}
use Rattle.it_tableau.specs.FieldOperations.{sum_to}
use Rattle.it_tableau.specs.Fits.{StartFits}
use Rattle.it_tableau.specs.Problems.{feasibility_problem}
use Rattle.it_tableau.specs.SimplexTables.{start_row}
use Rattle.it_tableau.proofs.Sums.{sum_same}
use Rattle.it_engine.specs.Loading.{right_size, right_sum}
use Rattle.it_engine.specs.Tables.{AreStartColumns, IsStartColumn}
use Rattle.it_engine.proofs.Generators.{value_bounded, value_named}
use Rattle.it_engine.proofs.Narrowness.{narrow_by}
use Rattle.it_engine.proofs.NoWide.{short_within}
use Rattle.it_engine.proofs.StartNumbers.{sum_of_rights, sum_of_units}

module _ {A : Type 0} (R : Ring A) where
  -- the first terms of a sum
  sum_of_first : (n k : ℕ) (f : ℕ → A) → k ≤ n → sum_to R n (λ i. R.mul (cond (ltb i k) R.unit R.null) (f i)) ≡ sum_to R k f
  sum_of_first n zero f h = nulls n
    where
      nulls : (n : ℕ) → sum_to R n (λ i. R.mul (cond (ltb i 0) R.unit R.null) (f i)) ≡ R.null
      nulls zero = refl
      nulls (suc n) = ap₂ R.add (ap (λ b. R.mul (cond b R.unit R.null) (f n)) (le-ltb n 0 (omega arith)) ∙ R.mul_comm R.null (f n)
          ∙ mul-null R (f n)) (nulls n) ∙ R.null-add R.null
  sum_of_first zero (suc k) f h = absurd (omega arith)
  sum_of_first (suc n) (suc k) f h = by_cases (cases_lt n (suc k)) (λ l. sum_of_first n (suc k) f l)
    where
      by_cases : (n < suc k) ⊎ (suc k ≤ n) → (suc k ≤ n → sum_to R n (λ i. R.mul (cond (ltb i (suc k)) R.unit R.null) (f i)) ≡ sum_to R (suc k) f)
          → sum_to R (suc n) (λ i. R.mul (cond (ltb i (suc k)) R.unit R.null) (f i)) ≡ sum_to R (suc k) f
      by_cases (inl l) rest =
          sum_same R (suc n) (λ i. R.mul (cond (ltb i (suc k)) R.unit R.null) (f i)) f
          (λ i m. ap (λ b. R.mul (cond b R.unit R.null) (f i)) (lt-ltb i (suc k) (omega (arith, m, l))) ∙ R.unit-mul (f i))
          ∙ ap (λ j. sum_to R (suc j) f) (same_number n k l h)
        where
          same_number : (n k : ℕ) → n < suc k → suc k ≤ suc n → n ≡ k
          same_number n k l h = omega (arith, l, h)
      by_cases (inr l) rest =
          ap (λ b. R.add (R.mul (cond b R.unit R.null) (f n)) (sum_to R n (λ i. R.mul (cond (ltb i (suc k)) R.unit R.null) (f i)))) (le-ltb n (suc k) l)
          ∙ ap₂ R.add (R.mul_comm R.null (f n) ∙ mul-null R (f n)) (rest l) ∙ R.null-add (sum_to R (suc k) f)

narrow_integer : (z : ℤ) → unsigned_abs z < 2 ^ 63 → IsNarrow (integer z)
narrow_integer z h = (whole-narrow z).0 (short_within z h)

one_is_within : IsWithin (pos 1)
one_is_within = lit< tt

rights_ascend : (cs : List ℕ) (target : Terms) (k m : ℕ) → k ≤ m → right_sum cs target k ≤ right_sum cs target m
rights_ascend cs target k zero h = subst (λ (j : ℕ). right_sum cs target j ≤ 0) (sym (none k h)) (omega arith)
  where
    none : (k : ℕ) → k ≤ 0 → k ≡ 0
    none k h = omega (arith, h)
rights_ascend cs target k (suc m) h = by_cases (cases_eq k (suc m)) (λ l. rights_ascend cs target k m l)
  where
    by_cases : (k ≡ suc m) ⊎ (k ≡ suc m → ⊥) → (k ≤ m → right_sum cs target k ≤ right_sum cs target m)
        → right_sum cs target k ≤ right_size cs target m + right_sum cs target m
    by_cases (inl e) below = subst (λ (j : ℕ). right_sum cs target j ≤ right_sum cs target (suc m)) (sym e) (omega arith)
    by_cases (inr d) below = let b = below (omega (arith, d, h)) in omega (arith, b)

module _ (cs : List ℕ) (generators : List Terms) (target : Terms) (columns : List Terms) (norm : ℕ) (short : norm < 2 ^ 63)
    (are : AreStartColumns (length cs) (length generators) norm (feasibility_problem cs generators target) columns)
    (rights : right_sum cs target (length cs) < 2 ^ 63) where
  -- the sum of the first k rows at column j
  abbrev partial_sum : ℕ → ℕ → Rational
  partial_sum k j = sum_to ring_ℚ k (λ i. start_row rationals (length cs) (length generators) (feasibility_problem cs generators target) i j)

  column_narrow : (k j : ℕ) → k ≤ length cs → j < length generators → IsNarrow (partial_sum k j)
  column_narrow k j h l = narrow_by (partial_sum k j) number 1 (omega arith)
      (subst (λ (q : Rational). IsRatio q number 1) (sym (c.value_is weights)
      ∙ sum_of_first ring_ℚ (length cs) k (λ i. start_row rationals (length cs) (length generators)
      (feasibility_problem cs generators target) i j) h)
      (value_named terms (length cs) weights (λ i. cond (ltb i k) (pos 1) (pos 0)) 1 (omega arith) c.within (λ i m. by_test (ltb i k))))
      (short_within number (let b = value_bounded terms (length cs) (λ i. cond (ltb i k) (pos 1) (pos 0)) 1 c.within
      (λ i m. at_most_one (ltb i k)) in omega (arith, b, c.bounded, short)))
      one_is_within
    where
      terms : Terms
      terms = slice_index_or columns j []

      c : IsStartColumn (length cs) norm (λ i. start_row rationals (length cs) (length generators) (feasibility_problem cs generators target) i j) terms
      c = are.column j l

      weights : ℕ → Rational
      weights i = cond (ltb i k) (integer (pos 1)) (integer (pos 0))

      number : ℤ
      number = value terms (λ i. cond (ltb i k) (pos 1) (pos 0))

      by_test : (b : Bool) → IsRatio (cond b (integer (pos 1)) (integer (pos 0))) (cond b (pos 1) (pos 0)) 1
      by_test true = whole_names (pos 1)
      by_test false = whole_names (pos 0)

      at_most_one : (b : Bool) → unsigned_abs (cond b (pos 1) (pos 0)) ≤ 1
      at_most_one true = omega arith
      at_most_one false = omega arith

  unit_narrow : (k i : ℕ) → i < length cs → IsNarrow (partial_sum k (length generators + i))
  unit_narrow k i l = subst IsNarrow (sym (sum_of_units cs generators target k i l)) (by_test (ltb i k))
    where
      by_test : (b : Bool) → IsNarrow (integer (cond b (pos 1) (pos 0)))
      by_test true = narrow_integer (pos 1) (omega arith)
      by_test false = narrow_integer (pos 0) (omega arith)

  right_narrow : (k : ℕ) → k ≤ length cs → IsNarrow (partial_sum k (length generators + length cs))
  right_narrow k h = subst IsNarrow (sym (sum_of_rights cs generators target k))
      (narrow_integer (pos (right_sum cs target k)) (let a = rights_ascend cs target k (length cs) h in omega (arith, a, rights)))

  pub start_fits : StartFits (length cs) (length generators) (feasibility_problem cs generators target)
  start_fits k j h l = by_column (cases_lt j (length generators))
    where
      kept_narrow : (i : ℕ) → i ≤ length cs → (i ≡ length cs) ⊎ (i ≡ length cs → ⊥) → IsNarrow (partial_sum k (length generators + i))
      kept_narrow i b (inl e) = subst (λ (x : ℕ). IsNarrow (partial_sum k (length generators + x))) (sym e) (right_narrow k h)
      kept_narrow i b (inr d) = unit_narrow k i (omega (arith, b, d))

      by_column : (j < length generators) ⊎ (length generators ≤ j) → IsNarrow (partial_sum k j)
      by_column (inl b) = column_narrow k j h b
      by_column (inr b) = subst (λ (x : ℕ). IsNarrow (partial_sum k x)) (place_back j (length generators) b)
          (kept_narrow (j - length generators) (offset_within j (length generators) (length cs) b l) (cases_eq (j - length generators) (length cs)))
        where
          place_back : (j n : ℕ) → n ≤ j → n + (j - n) ≡ j
          place_back j n b = omega (arith, b)

          offset_within : (j n m : ℕ) → n ≤ j → j < n + m + 1 → j - n ≤ m
          offset_within j n m b l = omega (arith, b, l)
