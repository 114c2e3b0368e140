-- Sets inside each other, digit by digit.
use Rattle.std.proofs.Common.{◌≡◌, ◌⊎◌, inl, inr, ℕ, ◌-◌, ◌^◌, ◌<◌, ◌≤◌, bit_and, bit_or, ap, subst, ◌∙◌, arith}
use Rattle.std.proofs.lemmas.Bool.{cases_lt}
use Rattle.std.proofs.lemmas.Nat.{and_le_r, le_or_l, and_mask}
use Rattle.std.proofs.lemmas.Nat.Bits.{bit_at_and, bit_at_or, same_from_bits}
use Rattle.std.specs.Int.{bit_at}
use native.Mathlib.Nat.{mod-eq_of_lt}
use Rattle.it_space.specs.Sets.{IsInside}

pub at_most_at : (s t : ℕ) → IsInside s t → (i : ℕ) → bit_at s i ≤ bit_at t i
at_most_at s t h i = let p = bit_at_and s t i in let e = ap (λ n. bit_at n i) h in omega arith

pub inside_by : (s t : ℕ) → ((i : ℕ) → bit_at s i ≤ bit_at t i) → IsInside s t
inside_by s t f = same_from_bits (bit_and s t) s (λ i. let p = bit_at_and s t i in let q = f i in omega arith)

pub inside-refl : (s : ℕ) → IsInside s s
inside-refl s = inside_by s s (λ i. omega arith)

pub inside-trans : (r s t : ℕ) → IsInside r s → IsInside s t → IsInside r t
inside-trans r s t h k = inside_by r t (λ i. omega (arith, at_most_at r s h i, at_most_at s t k i))

pub inside-antisym : (s t : ℕ) → IsInside s t → IsInside t s → s ≡ t
inside-antisym s t h k = same_from_bits s t (λ i. omega (arith, at_most_at s t h i, at_most_at t s k i))

pub inside_left : (s t : ℕ) → IsInside s (bit_or s t)
inside_left s t = inside_by s (bit_or s t) (λ i. omega (arith, bit_at_or s t i))

pub inside_right : (s t : ℕ) → IsInside t (bit_or s t)
inside_right s t = inside_by t (bit_or s t) (λ i. omega (arith, bit_at_or s t i))

pub or_inside : (s t u : ℕ) → IsInside s u → IsInside t u → IsInside (bit_or s t) u
or_inside s t u h k = inside_by (bit_or s t) u (λ i. omega (arith, bit_at_or s t i, at_most_at s u h i, at_most_at t u k i))

-- a set of the n variables is inside the set of all of them
pub inside_all : (n s : ℕ) → s < 2 ^ n → IsInside s (2 ^ n - 1)
inside_all n s h = and_mask s n ∙ mod-eq_of_lt h

-- what is inside is no greater number
pub inside_le : (s t : ℕ) → IsInside s t → s ≤ t
inside_le s t h = omega (arith, and_le_r s t, h)

-- a union with more is a greater number
pub grows : (a t : ℕ) → ¬ (IsInside t a) → a < bit_or a t
grows a t n = by_cases (cases_lt a (bit_or a t))
  where
    by_cases : (a < bit_or a t) ⊎ (bit_or a t ≤ a) → a < bit_or a t
    by_cases (inl h) = h
    by_cases (inr h) = let e : bit_or a t ≡ a = omega (arith, le_or_l a t) in absurd (n (subst (IsInside t) e (inside_right a t)))
