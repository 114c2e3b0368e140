-- The numbers of unknowns by the weights of their columns, multiples of them, and certificates by them.
use Rattle.std.specs.Prelude.{ℕ, ◌+◌, ℤ, pos, List, [], ◌∷◌, map, cond, nat_eq}
use Rattle.std.specs.List.{AllByRecursion as Every}
use Rattle.it_rational.specs.Rational.{Rational, integer, plus, times, minus}
use Rattle.it_fraction.specs.Fits.{IsNarrow, DifferenceFits}
use Rattle.it_problems.specs.declared.problems.Kind.{Kind}
use Rattle.it_problems.specs.declared.problems.Kind.TheVariants.{Inequality, Equation}
use Rattle.it_space.specs.Answers.{CertificateView}
use Rattle.it_space.specs.Sums.{terms_from}
use Rattle.it_elemental.specs.Generators.{Generator}
use Rattle.it_closure.specs.Sizes.{column_count}
use Rattle.it_columns.specs.Columns.{numbers_from}
use Rattle.it_columns.specs.Scaling.{NumbersFit, scale_of, scaled_point}

-- the weight of column j: the sum of the weights with its number, 0 if there are none
abbrev pub column_weight : List (ℕ × Rational) → ℕ → Rational
column_weight [] j = integer (pos 0)
column_weight (w ∷ ws) j = plus (cond (nat_eq w.0 j) w.1 (integer (pos 0))) (column_weight ws j)

-- the numbers of unknowns, by the weights of columns
abbrev pub numbers : List Generator → List (ℕ × Rational) → List Rational
numbers us ws = numbers_from (λ a b. plus a (minus b)) 0 us (column_weight ws)

-- the difference of the weights of an unknown's two columns is formed within the limit; an unknown with one column has none
abbrev pub NumberFits : Kind → (ℕ → Rational) → ℕ → Type 0
NumberFits Inequality f j = Unit {0}
NumberFits Equation f j = DifferenceFits (f j) (f (j + 1))

-- the differences of unknowns, the first of which begins with column j, are formed within the limit
unfoldable pub DifferencesFit : ℕ → List Generator → (ℕ → Rational) → Type 0
DifferencesFit j [] f = Unit {0}
DifferencesFit j (u ∷ us) f = NumberFits u.kind f j × DifferencesFit (j + column_count u.kind) us f

-- each number k times
abbrev pub multiples : ℤ → List Rational → List Rational
multiples k qs = map (λ q. times q (integer k)) qs

-- the certificate with k times each weight, over the least common multiple of the denominators
abbrev pub weights_certificate : ℤ → List Rational → CertificateView
weights_certificate k qs = record {
  scale = pos (scale_of (multiples k qs));
  weights = terms_from 0 (scaled_point (multiples k qs));
}

-- the numbers of that certificate are within the limit
pub record WeightsFit (k : ℤ) (qs : List Rational) : Type 0 where
  pub each : Every IsNarrow (multiples k qs)
  pub scaled : NumbersFit (multiples k qs)
