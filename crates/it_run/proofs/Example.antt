-- A worked run: on the coordinates h(X), h(Y), h(X,Y) with the columns H(X|Y), H(Y|X), I(X;Y) and the target h(X) - h(X,Y),
-- columns 2 and 0 enter by rows 1 and 0, and the run ends by the point (0, 1, 1).
use Rattle.std.proofs.Common.{◌≡◌, ℕ, pos, negsuc, [], ◌∷◌, refl, map}
use Rattle.it_number.specs.Gcd.{gcd, gcd_within}
use Rattle.it_rational.specs.Rational.{Rational, quotient}
use Rattle.it_tableau.specs.Operations.{rationals}
use Rattle.it_tableau.specs.SimplexTables.{SimplexTable}
use Rattle.it_tableau.specs.Problems.{feasibility_problem}
use Rattle.it_tableau.proofs.Example.{coordinates, elementals, first_table, target}
use Rattle.it_run.specs.Choice.{entering_column, leaving_row, next}
use Rattle.it_run.specs.Readings.{point}

-- the column that enters and the row that leaves
abbrev choice : SimplexTable Rational → ℕ × ℕ
choice t = (entering_column rationals 3 3 t, leaving_row rationals 3 3 t (entering_column rationals 3 3 t))

-- the table after the step
abbrev next_table : SimplexTable Rational → SimplexTable Rational
next_table = next rationals 3 3

first_choice : choice first_table ≡ (2, 1)
unfolding quotient gcd gcd_within
first_choice = refl

second_choice : choice (next_table first_table) ≡ (0, 0)
unfolding quotient gcd gcd_within
second_choice = refl

last_column : entering_column rationals 3 3 (next_table (next_table first_table)) ≡ 3
unfolding quotient gcd gcd_within
last_column = refl

last_right : ((next_table (next_table first_table)).entry 3 6).num ≡ negsuc 0
unfolding quotient gcd gcd_within
last_right = refl

last_point : map (λ q. q.num) (point rationals 3 3 (feasibility_problem coordinates elementals target)
    (next_table (next_table first_table))) ≡ pos 0 ∷ pos 1 ∷ pos 1 ∷ []
unfolding quotient gcd gcd_within
last_point = refl
