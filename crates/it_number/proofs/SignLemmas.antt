-- Integers by their signs: sums with 0, sums and products of numbers of at least 0, multiples by positive factors, the size of a
-- negation.
use Rattle.std.proofs.Common.{◌≡◌, ℕ, zero, suc, ◌<◌, ℤ, pos, negsuc, neg_ℤ, unsigned_abs, ◌+ℤ◌, ◌*ℤ◌, ◌≤ℤ◌, ◌<ℤ◌, refl, arith}
use Rattle.std.proofs.lemmas.Int.{ints}

pub plus_none : (x y : ℤ) → y ≡ pos 0 → x +ℤ y ≡ x
plus_none x y e = omega (arith, ints, e)

pub none_plus : (x y : ℤ) → x ≡ pos 0 → x +ℤ y ≡ y
none_plus x y e = omega (arith, ints, e)

pub sum_least : (x y : ℤ) → pos 0 ≤ℤ x → pos 0 ≤ℤ y → pos 0 ≤ℤ (x +ℤ y)
sum_least x y h k = omega (arith, ints)

pub product_least : (x y : ℤ) → pos 0 ≤ℤ x → pos 0 ≤ℤ y → pos 0 ≤ℤ (x *ℤ y)
product_least x y h k = grind (arith, ints)

-- where a positive multiple is at least 0, so is the number
pub least_by_multiple : (k x : ℤ) → pos 0 <ℤ k → pos 0 ≤ℤ (k *ℤ x) → pos 0 ≤ℤ x
least_by_multiple (pos k) (pos x) h g = omega (arith, ints)
least_by_multiple (pos zero) (negsuc x) h g = absurd (omega (arith, ints))
least_by_multiple (pos (suc k)) (negsuc x) h g = absurd (omega (arith, ints))
least_by_multiple (negsuc k) x h g = absurd (omega (arith, ints))

pub size_negated : (z : ℤ) → unsigned_abs (neg_ℤ z) ≡ unsigned_abs z
size_negated z = omega (arith, ints)

-- a number above 0 has no multiple that is 0 but that of 0
pub zero_by_multiple : (k : ℕ) (z : ℤ) → 0 < k → pos k *ℤ z ≡ pos 0 → z ≡ pos 0
zero_by_multiple zero z h e = absurd (omega arith)
zero_by_multiple (suc k) (pos zero) h e = refl
zero_by_multiple (suc k) (pos (suc n)) h e = absurd (omega (arith, ints))
zero_by_multiple (suc k) (negsuc n) h e = absurd (omega (arith, ints))

-- where a product with a positive factor is positive, so is the other factor
pub factor_above : (g n : ℕ) (z : ℤ) → pos g *ℤ pos n ≡ z → pos 0 <ℤ z → 0 < n
factor_above g zero z e h = absurd (no_product g z e h)
  where
    no_product : (g : ℕ) (z : ℤ) → pos g *ℤ pos 0 ≡ z → pos 0 <ℤ z → ⊥
    no_product g z e h = omega (arith, ints)
factor_above g (suc n) z e h = omega arith
