-- Each elemental inequality is an instance of the axioms.
use Rattle.std.proofs.Common.{◌≡◌, ℕ, ◌+◌, ◌-◌, ◌*◌, ◌^◌, ◌<◌, ℤ, ◌+ℤ◌, ◌≤ℤ◌, bit_and, bit_or, sym, ap, subst, ◌∙◌, arith, min, max}
use Rattle.std.proofs.lemmas.Nat.{or_disjoint, pow_pos, pow_below, pow_apart, or_lt, and_mask}
use native.Mathlib.Nat.{mod-eq_of_lt}
use Rattle.std.proofs.lemmas.Nat.Bits.{and_pow, bit_at_and, bit_at_or, same_from_bits, bit_at-pow_other, bit_at-zero}
use Rattle.std.specs.Int.{bit_at}
use Rattle.it_polymatroid.specs.Polymatroid.{IsPolymatroid}
use Rattle.it_polymatroid.proofs.Halves.{ElementalsHold}

-- a set with one variable more
pub with_pow : (k i : ℕ) → bit_at k i ≡ 0 → bit_or k (2 ^ i) ≡ k + 2 ^ i
with_pow k i z = or_disjoint k (2 ^ i) (and_pow k i ∙ ap (λ n. n * 2 ^ i) z ∙ omega arith)

pub with_lt : (n k i : ℕ) → i < n → k < 2 ^ n → bit_at k i ≡ 0 → k + 2 ^ i < 2 ^ n
with_lt n k i hi hk z = rw (← with_pow k i z) (or_lt n k (2 ^ i) hk (pow_below i n hi))

pub still_lacks : (k i j : ℕ) → i < j → bit_at k i ≡ 0 → bit_at k j ≡ 0 → bit_at (k + 2 ^ i) j ≡ 0
still_lacks k i j h zi zj = let other : bit_at (2 ^ i) j ≡ 0 = bit_at-pow_other i j (λ e. omega arith) in
    rw (← with_pow k i zi) (bit_at_or k (2 ^ i) j ∙ omega arith)

or_both : (k i j : ℕ) → i < j → bit_at k i ≡ 0 → bit_at k j ≡ 0 → bit_or (k + 2 ^ i) (k + 2 ^ j) ≡ k + 2 ^ i + 2 ^ j
or_both k i j h zi zj = rw (← with_pow k j zj) (same_from_bits (bit_or (k + 2 ^ i) (bit_or k (2 ^ j))) (bit_or (k + 2 ^ i) (2 ^ j)) (λ m.
    let a = bit_at_or (k + 2 ^ i) (bit_or k (2 ^ j)) m in let b = bit_at_or k (2 ^ j) m in let d = bit_at_or (k + 2 ^ i) (2 ^ j) m in
    let e : bit_at (k + 2 ^ i) m ≡ max (bit_at k m) (bit_at (2 ^ i) m) = rw (← with_pow k i zi) (bit_at_or k (2 ^ i) m) in omega arith)
    ∙ with_pow (k + 2 ^ i) j (still_lacks k i j h zi zj))

and_both : (k i j : ℕ) → i < j → bit_at k i ≡ 0 → bit_at k j ≡ 0 → bit_and (k + 2 ^ i) (k + 2 ^ j) ≡ k
and_both k i j h zi zj = rw (← with_pow k i zi, ← with_pow k j zj) (same_from_bits (bit_and (bit_or k (2 ^ i)) (bit_or k (2 ^ j))) k (λ m.
    let a = bit_at_and (bit_or k (2 ^ i)) (bit_or k (2 ^ j)) m in let b = bit_at_or k (2 ^ i) m in let d = bit_at_or k (2 ^ j) m in
    let e : min (bit_at (2 ^ i) m) (bit_at (2 ^ j) m) ≡ 0 = sym (bit_at_and (2 ^ i) (2 ^ j) m)
    ∙ ap (λ x. bit_at x m) (pow_apart i j (λ q. omega arith)) ∙ bit_at-zero m in omega arith))

-- a polymatroid meets the elemental inequalities
pub elementals_of : (n : ℕ) (h : ℕ → ℤ) → IsPolymatroid n h → ElementalsHold n h
elementals_of n h p = record {
  conditional = λ i hi. p.rises (2 ^ n - 1 - 2 ^ i) (2 ^ n - 1) (omega (arith, pow_pos n))
      (and_mask (2 ^ n - 1 - 2 ^ i) n ∙ mod-eq_of_lt (omega (arith, pow_pos n)));
  mutual_of = λ i j k hi hj hk zi zj. rw (← or_both k i j hi zi zj) (subst
      (λ (m : ℕ). (h (bit_or (k + 2 ^ i) (k + 2 ^ j)) +ℤ h m) ≤ℤ (h (k + 2 ^ i) +ℤ h (k + 2 ^ j))) (and_both k i j hi zi zj)
      (p.submodular (k + 2 ^ i) (k + 2 ^ j) (with_lt n k i (omega arith) hk zi) (with_lt n k j hj hk zj)));
}
