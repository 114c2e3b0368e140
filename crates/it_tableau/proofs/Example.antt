-- A worked table: on the coordinates h(X), h(Y), h(X,Y) the columns H(X|Y), H(Y|X), I(X;Y) and the target h(X) - h(X,Y). Its
-- start, the pivot at row 1 and column 2, and then the pivot at row 0 and column 0.
use Rattle.std.proofs.Common.{◌≡◌, ℕ, ℤ, pos, negsuc, List, [], ◌∷◌, refl}
use Rattle.it_number.specs.Gcd.{gcd, gcd_within}
use Rattle.it_rational.specs.Rational.{Rational, quotient}
use Rattle.it_space.specs.Rows.{Terms}
use Rattle.it_tableau.specs.TableauViews.{start_of}
use Rattle.it_tableau.specs.Operations.{rationals}
use Rattle.it_tableau.specs.SimplexTables.{SimplexTable, pivot}

-- the coordinates, the columns and the target
abbrev pub coordinates : List ℕ
coordinates = 1 ∷ 2 ∷ 3 ∷ []

abbrev pub elementals : List Terms
elementals = ((2, negsuc 0) ∷ (3, pos 1) ∷ []) ∷ ((1, negsuc 0) ∷ (3, pos 1) ∷ []) ∷ ((1, pos 1) ∷ (2, pos 1) ∷ (3, negsuc 0) ∷ []) ∷ []

abbrev pub target : Terms
target = (1, pos 1) ∷ (3, negsuc 0) ∷ []

-- the start, and the tables after one step and after two
abbrev pub first_table : SimplexTable Rational
first_table = start_of coordinates elementals target

abbrev second_table : SimplexTable Rational
second_table = pivot rationals first_table 1 2

abbrev third_table : SimplexTable Rational
third_table = pivot rationals second_table 0 0

-- the numerators of a row at the three columns and the right side
abbrev tops : SimplexTable Rational → ℕ → List ℤ
tops t i = (t.entry i 0).num ∷ (t.entry i 1).num ∷ (t.entry i 2).num ∷ (t.entry i 6).num ∷ []

first_rows : (tops first_table 0 ≡ pos 0 ∷ negsuc 0 ∷ pos 1 ∷ pos 1 ∷ []) × (tops first_table 1 ≡ negsuc 0 ∷ pos 0 ∷ pos 1 ∷ pos 0 ∷ [])
    × (tops first_table 2 ≡ negsuc 0 ∷ negsuc 0 ∷ pos 1 ∷ pos 1 ∷ []) × (tops first_table 3 ≡ pos 2 ∷ pos 2 ∷ negsuc 2 ∷ negsuc 1 ∷ [])
unfolding quotient gcd gcd_within
first_rows = (refl, refl, refl, refl)

second_cost : tops second_table 3 ≡ negsuc 0 ∷ pos 2 ∷ pos 0 ∷ negsuc 1 ∷ []
unfolding quotient gcd gcd_within
second_cost = refl

third_cost : tops third_table 3 ≡ pos 0 ∷ pos 1 ∷ pos 0 ∷ negsuc 0 ∷ []
unfolding quotient gcd gcd_within
third_cost = refl

third_artificials : ((third_table.entry 3 3).num ≡ pos 0) × ((third_table.entry 3 4).num ≡ pos 1) × ((third_table.entry 3 5).num ≡ negsuc 0)
unfolding quotient gcd gcd_within
third_artificials = (refl, refl, refl)
