-- The places where a row isn't 0.
use Rattle.std.proofs.Common.{◌≡◌, ◌⊎◌, inl, inr, ℕ, ◌+◌, ◌<◌, ◌≤◌, ℤ, pos, ◌+ℤ◌, ◌*ℤ◌, neg_ℤ, List, [], ◌∷◌, length, refl, sym, ap, subst, ◌∙◌, arith}
use Rattle.std.proofs.lemmas.Bool.{cases_eq, cases_lt}
use Rattle.it_number.proofs.Ring.{ring, v, plus, times, minus, nil}
use Rattle.it_number.proofs.IntegerRing.{ring_ℤ}
use Rattle.it_vectors.specs.Places.{IsNextPlace}
use Rattle.it_space.specs.Sums.{number_at}

pub next_here : (row : List ℤ) (k : ℕ) → k ≤ length row → IsNextPlace row k k
next_here row k h = record { after = omega arith; within = h; nulls = λ j l m. absurd (omega (arith, l, m)) }

pub next_null : (row : List ℤ) (k to : ℕ) → IsNextPlace row (k + 1) to → number_at row k ≡ pos 0 → IsNextPlace row k to
next_null row k to n e = record { after = omega (arith, n.after); within = n.within; nulls = λ j l m. by_cases j l m (cases_eq j k) }
  where
    by_cases : (j : ℕ) → k ≤ j → j < to → (j ≡ k) ⊎ (j ≡ k → ⊥) → number_at row j ≡ pos 0
    by_cases j l m (inl q) = subst (λ (i : ℕ). number_at row i ≡ pos 0) (sym q) e
    by_cases j l m (inr d) = n.nulls j (omega (arith, l, d)) m

-- a row less another times b is done up to the next place, where all between are 0 in the other
pub nulls_are_passed : (now old by : List ℤ) (b : ℤ) (from to : ℕ) → IsNextPlace by from to
    → ((k : ℕ) → k < from → number_at now k ≡ number_at old k +ℤ neg_ℤ (number_at by k *ℤ b))
    → ((k : ℕ) → from ≤ k → number_at now k ≡ number_at old k)
    → (k : ℕ) → k < to → number_at now k ≡ number_at old k +ℤ neg_ℤ (number_at by k *ℤ b)
nulls_are_passed now old by b from to n done rest k l = by_cases (cases_lt k from)
  where
    number_stays : (x y : ℤ) → y ≡ pos 0 → x ≡ x +ℤ neg_ℤ (y *ℤ b)
    number_stays x y e = minus_zero x ∙ ap (λ y. x +ℤ neg_ℤ (y *ℤ b)) (sym e)
      where
        minus_zero : (x : ℤ) → x ≡ x +ℤ neg_ℤ (pos 0 *ℤ b)
        minus_zero x = ring ring_ℤ (x ∷ b ∷ []) (v 0) (plus (v 0) (minus (times nil (v 1)))) refl

    by_cases : (k < from) ⊎ (from ≤ k) → number_at now k ≡ number_at old k +ℤ neg_ℤ (number_at by k *ℤ b)
    by_cases (inl h) = done k h
    by_cases (inr h) = rest k h ∙ number_stays (number_at old k) (number_at by k) (n.nulls k h l)
