-- The weights of generators from one on, by the weights of their columns.
use Rattle.std.proofs.Common.{ℕ, ℤ, ◌-ℤ◌, List}
use Rattle.it_problems.specs.declared.problems.Kind.{Kind}
use Rattle.it_space.specs.Rows.{Terms}
use Rattle.it_space.specs.Sums.{terms_from}
use Rattle.it_elemental.specs.Generators.{Generator}
use Rattle.it_columns.specs.Columns.{number_by, numbers_from}

-- the weight of a generator whose first column is column j
abbrev pub weight_by : Kind → (ℕ → ℤ) → ℕ → ℤ
weight_by k f j = number_by (λ a b. a -ℤ b) k f j

-- those of generators from number i on, the first of which has column j
abbrev pub weights_from : ℕ → ℕ → List Generator → (ℕ → ℤ) → Terms
weights_from i j gs f = terms_from i (numbers_from (λ a b. a -ℤ b) j gs f)
