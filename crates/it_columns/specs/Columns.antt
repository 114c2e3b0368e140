-- The columns of generators in a run: an inequality has one, its row, and an equation two, its row and the negated row. And numbers
-- given for generators by numbers given for their columns.
use Rattle.std.specs.Prelude.{ℕ, ◌+◌, List, [], ◌∷◌}
use Rattle.std.specs.List.{flat_map}
use Rattle.it_problems.specs.declared.problems.Kind.{Kind}
use Rattle.it_problems.specs.declared.problems.Kind.TheVariants.{Inequality, Equation}
use Rattle.it_space.specs.Rows.{Terms, negated_terms}
use Rattle.it_elemental.specs.Generators.{Generator}
use Rattle.it_closure.specs.Sizes.{column_count}

-- the columns of one generator
abbrev pub columns_by : Kind → Terms → List Terms
columns_by Inequality row = row ∷ []
columns_by Equation row = row ∷ negated_terms row ∷ []

-- the columns of generators, in order
unfoldable pub columns : List Generator → List Terms
columns gs = flat_map (λ g. columns_by g.kind g.row) gs

module _ {A : Type 0} (subtract : A → A → A) where
  -- the number of a generator whose first column is column j, where f has the number of each column: that of the second is subtracted
  abbrev pub number_by : Kind → (ℕ → A) → ℕ → A
  number_by Inequality f j = f j
  number_by Equation f j = subtract (f j) (f (j + 1))

  -- the numbers of generators, the first of which begins with column j
  unfoldable pub numbers_from : ℕ → List Generator → (ℕ → A) → List A
  numbers_from j [] f = []
  numbers_from j (g ∷ gs) f = number_by g.kind f j ∷ numbers_from (j + column_count g.kind) gs f
