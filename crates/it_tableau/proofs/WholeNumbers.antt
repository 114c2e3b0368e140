-- Sums of whole numbers: an addition fits exactly where its result does.
use Rattle.std.proofs.Common.{◌≡◌, Bool, true, false, cond, ℕ, zero, suc, ◌<◌, ◌≤◌, ℤ, pos, ◌+ℤ◌, ◌*ℤ◌, neg_ℤ, unsigned_abs, sym, ap, subst, ◌∙◌, arith, lit<}
use Rattle.it_number.specs.Limit.{IsWithin}
use Rattle.it_number.proofs.Quotients.{one_pos}
use Rattle.it_number.proofs.SignLemmas.{size_negated}
use Rattle.it_rational.specs.Rational.{Rational, integer, minus, times}
use Rattle.it_rational.proofs.Names.{own_parts}
use Rattle.it_rational.proofs.RationalLaws.{ring_ℚ}
use Rattle.it_fraction.specs.Fits.{IsNarrow, SumFits}
use Rattle.it_fraction.proofs.ZeroLemmas.{zero_narrow, zero_parts, minus-narrow, whole-narrow, whole-product, whole-sum, whole-sum-fits}
use Rattle.it_tableau.specs.FieldOperations.{sum_to}
use Rattle.it_tableau.specs.Rows.{IsWholeNumber}
use native.Mathlib.Nat.{one-dvd}

whole_parts : (z : ℤ) → ((integer z).num ≡ z) × ((integer z).den ≡ 1)
whole_parts z = own_parts z 1 one_pos (one-dvd (unsigned_abs z), one-dvd 1, λ d p q. q)

pub whole_number : (z : ℤ) → IsWithin z → IsWholeNumber (integer z)
whole_number z h = record { whole_is = (whole_parts z).1; narrow = (whole-narrow z).0 h }

pub minus_number : (q : Rational) → IsWholeNumber q → IsWholeNumber (minus q)
minus_number q w = record {
  whole_is = (own_parts (neg_ℤ q.num) q.den q.positive (rw (size_negated q.num) q.lowest)).1
      ∙ w.whole_is;
  narrow = minus-narrow q w.narrow;
}

pub zero_number : IsWholeNumber (integer (pos 0))
zero_number = whole_number (pos 0) (lit< tt)

pub one_number : IsWholeNumber (integer (pos 1))
one_number = whole_number (pos 1) (lit< tt)

-- the sum of f k for k below a number, where these are whole numbers within the limit
module _ (m : ℕ) (f : ℕ → Rational) (wholes : (k : ℕ) → k < m → IsWholeNumber (f k)) where
  sum_den : (k : ℕ) → k ≤ m → (sum_to ring_ℚ k f).den ≡ 1
  sum_den zero h = zero_parts.1
  sum_den (suc k) h = ap (λ (q : Rational). q.den) (sym
      (whole-sum (f k) (sum_to ring_ℚ k f) (wholes k (omega arith)).whole_is (sum_den k (omega arith))))
      ∙ (whole_parts ((f k).num +ℤ (sum_to ring_ℚ k f).num)).1

  -- where all additions fit, all partial sums do
  pub sums_narrow : ((k : ℕ) → k < m → SumFits (f k) (sum_to ring_ℚ k f)) → (k : ℕ) → k ≤ m → IsNarrow (sum_to ring_ℚ k f)
  sums_narrow fits zero h = zero_narrow
  sums_narrow fits (suc k) h =
      let w = wholes k (omega arith) in
      let d = sum_den k (omega arith) in
      subst IsNarrow (whole-sum (f k) (sum_to ring_ℚ k f) w.whole_is d)
      ((whole-narrow ((f k).num +ℤ (sum_to ring_ℚ k f).num)).0
      ((whole-sum-fits (f k) (sum_to ring_ℚ k f) w.whole_is d w.narrow (sums_narrow fits k (omega arith))).1 (fits k (omega arith))))

  -- and the other way round
  pub sums_fit : ((k : ℕ) → k ≤ m → IsNarrow (sum_to ring_ℚ k f)) → (k : ℕ) → k < m → SumFits (f k) (sum_to ring_ℚ k f)
  sums_fit narrow k h =
      let w = wholes k h in
      let d = sum_den k (omega arith) in
      (whole-sum-fits (f k) (sum_to ring_ℚ k f) w.whole_is d w.narrow (narrow k (omega arith))).0
      ((whole-narrow ((f k).num +ℤ (sum_to ring_ℚ k f).num)).1 (subst IsNarrow (sym (whole-sum (f k) (sum_to ring_ℚ k f) w.whole_is d))
      (narrow (suc k) (omega arith))))

-- a whole number with a sign is whole
pub signed_den : (kept : Bool) (z : ℤ) → (times (cond kept (integer (pos 1)) (minus (integer (pos 1)))) (integer z)).den ≡ 1
signed_den kept z = product_den (cond kept (integer (pos 1)) (minus (integer (pos 1)))) (integer z) (sign_den kept) (whole_parts z).1
  where
    product_den : (x y : Rational) → x.den ≡ 1 → y.den ≡ 1 → (times x y).den ≡ 1
    product_den x y d e = ap (λ (q : Rational). q.den) (sym (whole-product x y d e)) ∙ (whole_parts (x.num *ℤ y.num)).1

    sign_den : (b : Bool) → (cond b (integer (pos 1)) (minus (integer (pos 1)))).den ≡ 1
    sign_den true = one_number.whole_is
    sign_den false = (minus_number (integer (pos 1)) one_number).whole_is
