-- Numbers that are bounded before they are formed.
use Rattle.std.proofs.Common.{◌≡◌, ℕ, ◌+◌, ◌*◌, ◌<◌, ◌≤◌, ◌^◌, ℤ, ◌+ℤ◌, ◌*ℤ◌, neg_ℤ, unsigned_abs, List, length, sym, subst, arith}
use Rattle.std.proofs.lemmas.Int.{ints, unsigned_abs-mul}
use Rattle.std.proofs.lemmas.Nat.{mul-le, mul-lt}
use Rattle.it_space.specs.Sums.{number_at}
use Rattle.it_vectors.specs.Sizes.{AreAtMost, IsShort}

-- what short numbers form
pub half_product : (a b : ℤ) → IsShort a → IsShort b → unsigned_abs (a *ℤ b) < 2 ^ 126
half_product a b h k = subst (λ n. n < 2 ^ 126) (sym (unsigned_abs-mul a b)) (product_below_limit (unsigned_abs a) (unsigned_abs b) h k)
  where
    product_below_limit : (x y : ℕ) → x < 2 ^ 63 → y < 2 ^ 63 → x * y < 2 ^ 126
    product_below_limit x y h k = mul-lt x y (2 ^ 63) (2 ^ 63) h k

module _ (row by : List ℤ) (a b : ℤ) (x y limit : ℕ) (hx : AreAtMost row x) (hy : AreAtMost by y) (even : length row ≡ length by)
    (h : x * unsigned_abs a + y * unsigned_abs b ≤ limit) where
  pub sizes : (k : ℕ) → k < length by → unsigned_abs (number_at row k *ℤ a) + unsigned_abs (number_at by k *ℤ b) ≤ limit
  sizes k l = sum_at_most (unsigned_abs (number_at row k *ℤ a)) (unsigned_abs (number_at by k *ℤ b)) (x * unsigned_abs a) (y * unsigned_abs b)
      (product_at_most (number_at row k) a x (hx k (omega (arith, l, even)))) (product_at_most (number_at by k) b y (hy k l)) h
    where
      product_at_most : (z c : ℤ) (m : ℕ) → unsigned_abs z ≤ m → unsigned_abs (z *ℤ c) ≤ m * unsigned_abs c
      product_at_most z c m l = subst (λ k. k ≤ m * unsigned_abs c) (sym (unsigned_abs-mul z c))
          (mul-le (unsigned_abs z) (unsigned_abs c) m (unsigned_abs c) l (omega arith))

      sum_at_most : (p q s t : ℕ) → p ≤ s → q ≤ t → s + t ≤ limit → p + q ≤ limit
      sum_at_most p q s t u v w = omega (arith, u, v, w)

  pub numbers_at_most : (k : ℕ) → k < length by → unsigned_abs (number_at row k *ℤ a +ℤ neg_ℤ (number_at by k *ℤ b)) ≤ limit
  numbers_at_most k l = difference_at_most (number_at row k *ℤ a) (number_at by k *ℤ b) (sizes k l)
    where
      difference_at_most : (p q : ℤ) → unsigned_abs p + unsigned_abs q ≤ limit → unsigned_abs (p +ℤ neg_ℤ q) ≤ limit
      difference_at_most p q u = omega (arith, ints, u)
