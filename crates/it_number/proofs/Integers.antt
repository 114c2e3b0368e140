-- The ring laws of ℤ, and two rulesets for omega over ℤ: zlin for linear goals, zring multiplies products out (degree 2 and 3).
use Rattle.std.proofs.Common.{◌≡◌, ◌+◌, ◌*◌, ℤ, pos, ◌+ℤ◌, ◌*ℤ◌, neg_ℤ, arith, ap, sym, ◌∙◌}
use Rattle.std.proofs.lemmas.Int.{ints}
use borrow.Author.Differences.{up, down, product_is, sum_is_lem, neg_is, same_out, same_in, Apart-out, lt_out, le_out, below_in, at_most_in, fits_out, fits_in, lt-true, lt-false, le-true, le-false, true-lt, false-lt, true-le, false-le, lt_T, le_T, lt_not, le_not}

pub mul-add : (a b c : ℤ) → a *ℤ (b +ℤ c) ≡ a *ℤ b +ℤ a *ℤ c
mul-add a b c = omega (arith, ints, ap (λ n. up a * n) (sum_is_lem b c), ap (λ n. down a * n) (sum_is_lem b c))

pub mul_comm : (a b : ℤ) → a *ℤ b ≡ b *ℤ a
mul_comm a b = omega (arith, ints)

pub mul_assoc : (a b c : ℤ) → (a *ℤ b) *ℤ c ≡ a *ℤ (b *ℤ c)
mul_assoc a b c = omega (
  arith,
  ints,
  ap (λ n. n * up c) (product_is a b).0,
  ap (λ n. n * down c) (product_is a b).0,
  ap (λ n. n * up c) (product_is a b).1,
  ap (λ n. n * down c) (product_is a b).1,
  ap (λ n. up a * n) (product_is b c).0,
  ap (λ n. down a * n) (product_is b c).0,
  ap (λ n. up a * n) (product_is b c).1,
  ap (λ n. down a * n) (product_is b c).1,
)

pub times_one : (a : ℤ) → a *ℤ pos 1 ≡ a
times_one a = omega (arith, ints)

pub add-mul : (a b c : ℤ) → (a +ℤ b) *ℤ c ≡ a *ℤ c +ℤ b *ℤ c
add-mul a b c = omega (arith, ints, ap (λ n. n * up c) (sum_is_lem a b), ap (λ n. n * down c) (sum_is_lem a b))

-- the same laws in the form in which zring cites them
pub mul-add_is : (a b c : ℤ) → up (a *ℤ (b +ℤ c)) + down (a *ℤ b) + down (a *ℤ c) ≡ down (a *ℤ (b +ℤ c)) + up (a *ℤ b) + up (a *ℤ c)
mul-add_is a b c = omega (arith, ints, mul-add a b c)

pub add-mul_is : (a b c : ℤ) → up ((a +ℤ b) *ℤ c) + down (a *ℤ c) + down (b *ℤ c) ≡ down ((a +ℤ b) *ℤ c) + up (a *ℤ c) + up (b *ℤ c)
add-mul_is a b c = omega (arith, ints, add-mul a b c)

pub mul-neg_is : (a b : ℤ) → (up (a *ℤ neg_ℤ b) ≡ down (a *ℤ b)) × (down (a *ℤ neg_ℤ b) ≡ up (a *ℤ b))
mul-neg_is a b = omega (
  arith,
  ints,
  ap (λ n. up a * n) (neg_is b).0,
  ap (λ n. down a * n) (neg_is b).0,
  ap (λ n. up a * n) (neg_is b).1,
  ap
      (λ n. down a * n) (neg_is b).1,
)

pub neg-mul_is : (a b : ℤ) → (up (neg_ℤ a *ℤ b) ≡ down (a *ℤ b)) × (down (neg_ℤ a *ℤ b) ≡ up (a *ℤ b))
neg-mul_is a b = omega (
  arith,
  ints,
  ap (λ n. n * up b) (neg_is a).0,
  ap (λ n. n * down b) (neg_is a).0,
  ap (λ n. n * up b) (neg_is a).1,
  ap
      (λ n. n * down b) (neg_is a).1,
)

pub assoc_is : (a b c : ℤ) → (up ((a *ℤ b) *ℤ c) ≡ up (a *ℤ (b *ℤ c))) × (down ((a *ℤ b) *ℤ c) ≡ down (a *ℤ (b *ℤ c)))
assoc_is a b c = same_out _ _ (mul_assoc a b c)

pub comm_is : (a b : ℤ) → (up (a *ℤ b) ≡ up (b *ℤ a)) × (down (a *ℤ b) ≡ down (b *ℤ a))
comm_is a b = same_out _ _ (mul_comm a b)

pub left_comm_is : (a b c : ℤ) → (up (a *ℤ (b *ℤ c)) ≡ up (b *ℤ (a *ℤ c))) × (down (a *ℤ (b *ℤ c)) ≡ down (b *ℤ (a *ℤ c)))
left_comm_is a b c = same_out _ _ (sym (mul_assoc a b c) ∙ ap (λ n. n *ℤ c) (mul_comm a b) ∙ mul_assoc b a c)

pub ruleset zlin = (
  fits_out,
  same_out,
  Apart-out,
  lt_out,
  le_out,
  lt_T,
  le_T,
  lt_not,
  le_not,
  lt-true,
  lt-false,
  le-true,
  le-false,
  true-lt,
  false-lt,
  true-le,
  false-le,
  fits_in,
  same_in,
  below_in,
  at_most_in,
  sum_is_lem,
  neg_is,
)

pub ruleset zring = (zlin, mul-add_is, add-mul_is, mul-neg_is, neg-mul_is, assoc_is, comm_is, left_comm_is)

-- where two numbers are multiples of two others, so is their sum, the first ones taken a times
pub sum_of_multiples : (k a x y v w : ℤ) → y ≡ k *ℤ x → w ≡ k *ℤ v → a *ℤ y +ℤ w ≡ k *ℤ (a *ℤ x +ℤ v)
sum_of_multiples k a x y v w e f = ap (λ z. a *ℤ z +ℤ w) e ∙ ap (λ z. a *ℤ (k *ℤ x) +ℤ z) f ∙ omega (arith, zring)
