-- The least common multiple of denominators, and the numbers times it.
use Rattle.std.proofs.Common.{◌≡◌, ℕ, ◌<◌, ◌≤◌, List, [], ◌∷◌, map, refl, subst, arith}
use Prim.Native.Nat.{◌∣◌}
use Rattle.std.proofs.lemmas.Nat.Gcd.{dvd_trans, le_of_dvd}
use Rattle.it_number.specs.Gcd.{lcm}
use Rattle.it_number.proofs.Divisors.{lcm_is, lcm-pos, start_divides}
use Rattle.it_rational.specs.Rational.{Rational}
use Rattle.std.specs.List.{fold, AllByRecursion as Every}
use Rattle.it_columns.specs.Scaling.{scale_of}

-- the least common multiple of k and of the denominators
unfoldable pub scale_from : ℕ → List Rational → ℕ
scale_from k qs = fold lcm k (map (λ q. q.den) qs)

-- from 1 on it is the scale
pub scale_from_one : (qs : List Rational) → scale_from 1 qs ≡ scale_of qs
unfolding scale_from scale_of
scale_from_one qs = refl

some_from : (k : ℕ) (qs : List Rational) → 0 < k → 0 < scale_from k qs
unfolding scale_from
some_from k [] h = h
some_from k (q ∷ qs) h = some_from (lcm k q.den) qs (lcm-pos k q.den h q.positive)

pub scale_pos : (qs : List Rational) → 0 < scale_of qs
scale_pos qs = subst (λ (l : ℕ). 0 < l) (scale_from_one qs) (some_from 1 qs (omega arith))

scale_divides : (k : ℕ) (qs : List Rational) → k ∣ scale_from k qs
unfolding scale_from
scale_divides k qs = start_divides k (map (λ (q : Rational). q.den) qs)

denominators_divide_from : (k : ℕ) (qs : List Rational) → Every (λ q. q.den ∣ scale_from k qs) qs
unfolding scale_from
denominators_divide_from k [] = tt
denominators_divide_from k (q ∷ qs) = (
  dvd_trans q.den {b = lcm k q.den} {c = scale_from (lcm k q.den) qs} (lcm_is k q.den).1
      (scale_divides (lcm k q.den) qs),
  denominators_divide_from (lcm k q.den) qs,
)

-- each denominator divides the scale
pub denominators_divide : (qs : List Rational) → Every (λ q. q.den ∣ scale_of qs) qs
denominators_divide qs = subst (λ (l : ℕ). Every (λ q. q.den ∣ l) qs) (scale_from_one qs) (denominators_divide_from 1 qs)

pub scale_least : (k : ℕ) (qs : List Rational) → 0 < k → k ≤ scale_from k qs
scale_least k qs h = le_of_dvd (some_from k qs h) (scale_divides k qs)
