-- Rows as constraints of `row` lines, appended to a problem.
use Rattle.std.specs.Prelude.{ℕ, ◌+◌, List, [], ◌∷◌, ◌++◌}
use Rattle.it_problems.specs.declared.problems.Constraint.{Constraint}
use Rattle.it_problems.specs.declared.problems.Kind.TheVariants.{Inequality}
use Rattle.it_problems.specs.declared.problems.Origin.TheVariants.{Rate}
use Rattle.it_problems.specs.Problems.{ProblemView}
use Rattle.it_space.specs.Rows.{Terms}

-- rows as the constraints of `row` lines, from line number `line` on
abbrev pub row_constraints : ℕ → List Terms → List Constraint
row_constraints line [] = []
row_constraints line (row ∷ rows) = record { row = row; kind = Inequality; origin = Rate line } ∷ row_constraints (line + 1) rows

-- the problem givens with rows appended
abbrev pub with_rows : ProblemView → List Terms → ProblemView
with_rows givens rows = record { space = givens.space; constraints = givens.constraints ++ row_constraints 1 rows }
