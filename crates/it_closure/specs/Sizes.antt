-- The size of the table with which the run about a problem begins, and the sizes of problems whose runs are in reach.
use Rattle.std.specs.Prelude.{ℕ, ◌+◌, ◌*◌, List, [], ◌∷◌, length}
use Rattle.it_problems.specs.declared.problems.Kind.{Kind}
use Rattle.it_problems.specs.declared.problems.Kind.TheVariants.{Inequality, Equation}
use Rattle.it_problems.specs.declared.problems.Constraint.{Constraint}
use Rattle.it_problems.specs.Problems.{ProblemView}
use Rattle.it_polymatroid.specs.Elementals.{elementals}
use Rattle.it_closure.specs.Coordinates.{closed_coordinates}
use Rattle.it_closure.specs.Reading.{dependences_of}

-- the number of columns of a constraint of this kind: an equation has two, one for each sign of its weight
abbrev pub column_count : Kind → ℕ
column_count Inequality = 1
column_count Equation = 2

-- the number of columns of constraints
abbrev pub constraint_columns : List Constraint → ℕ
constraint_columns [] = 0
constraint_columns (c ∷ cs) = column_count c.kind + constraint_columns cs

-- the number of rows: one for each closed set but the closure of the empty set, and one for each rate
abbrev pub table_rows : ProblemView → ℕ
table_rows q = length (closed_coordinates q.space.variables q.space.rates (dependences_of q))

-- the number of columns: one for each elemental inequality, those of the constraints, and an artificial one for each row
abbrev pub table_columns : ProblemView → ℕ
table_columns q = length (elementals q.space.variables) + constraint_columns q.constraints + table_rows q

-- the number of entries of the table: rows times columns
unfoldable pub table_size : ProblemView → ℕ
table_size q = table_rows q * table_columns q

-- the most variables of a problem about which the defined run is in reach
abbrev pub most_variables_in_reach : ℕ
most_variables_in_reach = 10

-- the most entries of a table that is in reach
abbrev pub most_entries : ℕ
most_entries = 4000000
