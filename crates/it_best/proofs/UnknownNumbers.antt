-- The numbers of unknowns, by the weights of their columns.
use Rattle.std.proofs.Common.{ℕ, List}
use Rattle.it_rational.specs.Rational.{Rational, plus, minus}
use Rattle.it_problems.specs.declared.problems.Kind.{Kind}
use Rattle.it_elemental.specs.Generators.{Generator}
use Rattle.it_columns.specs.Columns.{number_by, numbers_from}

-- the number of an unknown whose first column is column j
abbrev pub unknown_number : Kind → (ℕ → Rational) → ℕ → Rational
unknown_number k f j = number_by (λ a b. plus a (minus b)) k f j

-- those of unknowns, the first of which has column j
abbrev pub unknown_numbers : ℕ → List Generator → (ℕ → Rational) → List Rational
unknown_numbers j us f = numbers_from (λ a b. plus a (minus b)) j us f
