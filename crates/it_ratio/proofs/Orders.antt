-- Factors at one place: e and f are the values of the left and of the right side there.
use Rattle.std.proofs.Common.{◌≡◌, ◌*◌, ◌<◌, ℤ, pos, negsuc, neg_ℤ, ◌-ℤ◌, ◌*ℤ◌, ◌≤ℤ◌, ◌<ℤ◌, sym, ap, ap₂, subst, ◌∙◌, arith, mul-pos}
use Rattle.std.proofs.lemmas.Int.{ints}
use Rattle.it_number.proofs.Integers.{mul_assoc, mul_comm, zring}
use Rattle.it_number.proofs.SignLemmas.{product_least, least_by_multiple}

-- a product of numbers above 0
pub product_above : (x y : ℤ) → pos 0 <ℤ x → pos 0 <ℤ y → pos 0 <ℤ (x *ℤ y)
product_above (pos m) (pos n) h k = let some : 0 < m * n = mul-pos (omega (arith, ints)) (omega (arith, ints)) in omega (arith, ints)
product_above (pos m) (negsuc n) h k = absurd (omega (arith, ints))
product_above (negsuc m) y h k = absurd (omega (arith, ints))

-- den f = num e, with e and den above 0: a factor a / b that holds there is at least num / den
pub no_smaller : (num den a b e f : ℤ) → pos 1 ≤ℤ e → pos 1 ≤ℤ den → den *ℤ f ≡ num *ℤ e → pos 0 ≤ℤ (a *ℤ e -ℤ b *ℤ f) → (num *ℤ b) ≤ℤ (a *ℤ den)
no_smaller num den a b e f some one equal holds = ordered num den a b (least_by_multiple e (a *ℤ den -ℤ num *ℤ b) (omega (arith, ints, some))
    (negated num den a b e f (product_least den (a *ℤ e -ℤ b *ℤ f) (omega (arith, ints, one)) holds) (ap (λ y. b *ℤ y) equal)))
  where
    negated : (num den a b e f : ℤ) → pos 0 ≤ℤ (den *ℤ (a *ℤ e -ℤ b *ℤ f)) → b *ℤ (den *ℤ f) ≡ b *ℤ (num *ℤ e) → pos 0 ≤ℤ (e *ℤ (a *ℤ den -ℤ num *ℤ b))
    negated num den a b e f h q = omega (arith, zring, h, q)

    ordered : (num den a b : ℤ) → pos 0 ≤ℤ (a *ℤ den -ℤ num *ℤ b) → (num *ℤ b) ≤ℤ (a *ℤ den)
    ordered num den a b h = omega (arith, ints, h)

-- e = 0, and f and b above 0: a factor a / b doesn't hold there
pub none_at_zero : (a b e f : ℤ) → e ≡ pos 0 → pos 1 ≤ℤ f → pos 1 ≤ℤ b → pos 0 ≤ℤ (a *ℤ e -ℤ b *ℤ f) → ⊥
none_at_zero a b e f z one some h = no_sum (a *ℤ e) (b *ℤ f) (ap (λ y. a *ℤ y) z ∙ nothing a) (above b f some one) h
  where
    nothing : (a : ℤ) → a *ℤ pos 0 ≡ pos 0
    nothing a = omega (arith, ints)

    above : (x y : ℤ) → pos 1 ≤ℤ x → pos 1 ≤ℤ y → pos 1 ≤ℤ (x *ℤ y)
    above x y h k = omega (arith, ints, product_above x y (omega (arith, ints, h)) (omega (arith, ints, k)))

    no_sum : (s t : ℤ) → s ≡ pos 0 → pos 1 ≤ℤ t → pos 0 ≤ℤ (s -ℤ t) → ⊥
    no_sum s t e h k = omega (arith, ints, e, h, k)

gap : (x y : ℤ) → x ≤ℤ y → pos 0 ≤ℤ (y -ℤ x)
gap x y h = omega (arith, ints, h)

smaller_sum : (num den a b e f : ℤ) → pos 0 ≤ℤ (b *ℤ (num *ℤ e -ℤ den *ℤ f)) → pos 0 ≤ℤ ((num *ℤ b -ℤ a *ℤ den) *ℤ neg_ℤ e)
    → pos 0 ≤ℤ (den *ℤ (a *ℤ e -ℤ b *ℤ f))
smaller_sum num den a b e f h k = subst (λ (x : ℤ). pos 0 ≤ℤ x) (sym
    (times_difference den (a *ℤ e) (b *ℤ f) ∙ ap₂ (λ x y. x -ℤ y) (first_out den a e) (first_out den b f)))
    (both_at_least (a *ℤ (den *ℤ e)) (num *ℤ (b *ℤ e)) (b *ℤ (den *ℤ f))
    (subst (λ (x : ℤ). pos 0 ≤ℤ x) (times_difference b (num *ℤ e) (den *ℤ f) ∙ ap (λ x. x -ℤ b *ℤ (den *ℤ f)) (first_out b num e)) h)
    (subst (λ (x : ℤ). pos 0 ≤ℤ x) (difference_times (num *ℤ b) (a *ℤ den) e ∙ ap₂ (λ x y. x -ℤ y) (mul_assoc a den e) (mul_assoc num b e)) k))
  where
    times_difference : (x y z : ℤ) → x *ℤ (y -ℤ z) ≡ x *ℤ y -ℤ x *ℤ z
    times_difference x y z = omega (arith, zring)

    difference_times : (x y z : ℤ) → (x -ℤ y) *ℤ neg_ℤ z ≡ y *ℤ z -ℤ x *ℤ z
    difference_times x y z = omega (arith, zring)

    first_out : (x y z : ℤ) → x *ℤ (y *ℤ z) ≡ y *ℤ (x *ℤ z)
    first_out x y z = sym (mul_assoc x y z) ∙ ap (λ w. w *ℤ z) (mul_comm x y) ∙ mul_assoc y x z

    both_at_least : (x y z : ℤ) → pos 0 ≤ℤ (y -ℤ z) → pos 0 ≤ℤ (x -ℤ y) → pos 0 ≤ℤ (x -ℤ z)
    both_at_least x y z h k = omega (arith, ints, h, k)

-- num e - den f and -e at least 0: each smaller factor a / b holds there
pub all_smaller : (num den a b e f : ℤ) → pos 1 ≤ℤ den → pos 1 ≤ℤ b → (a *ℤ den) ≤ℤ (num *ℤ b) → pos 0 ≤ℤ (num *ℤ e -ℤ den *ℤ f)
    → pos 0 ≤ℤ neg_ℤ e → pos 0 ≤ℤ (a *ℤ e -ℤ b *ℤ f)
all_smaller num den a b e f from_one one smaller holds most =
    least_by_multiple den (a *ℤ e -ℤ b *ℤ f) (above den from_one)
    (smaller_sum num den a b e f (product_least b (num *ℤ e -ℤ den *ℤ f) (least b one) holds)
    (product_least (num *ℤ b -ℤ a *ℤ den) (neg_ℤ e) (gap (a *ℤ den) (num *ℤ b) smaller) most))
  where
    above : (x : ℤ) → pos 1 ≤ℤ x → pos 0 <ℤ x
    above x h = omega (arith, ints, h)

    least : (x : ℤ) → pos 1 ≤ℤ x → pos 0 ≤ℤ x
    least x h = omega (arith, ints, h)
