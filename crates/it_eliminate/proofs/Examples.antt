-- Examples by computing.
use Rattle.std.proofs.Common.{◌≡◌, refl, ℤ, pos, negsuc, List, [], ◌∷◌}
use Rattle.it_space.specs.Rows.{Terms}
use Rattle.it_space.specs.Divisors.{lowest_terms}
use Rattle.it_space.specs.Cancelling.{times_up, times_down, cancelled_row}
use Rattle.it_number.specs.Gcd.{gcd, gcd_within}
use Rattle.it_eliminate.specs.Elimination.{results, next_list, ordered_rows}

-- 2 A - h(X) and h(Y) - 3 A; h(X), h(Y), h(X,Y), A are at 1, 2, 3, 4
cancelled_rows : cancelled_row 4 ((1, negsuc 0) ∷ (4, pos 2) ∷ []) ((2, pos 1) ∷ (4, negsuc 2) ∷ []) ≡ (1, negsuc 2) ∷ (2, pos 2) ∷ []
unfolding cancelled_row times_up times_down gcd gcd_within
cancelled_rows = refl

-- U, X, Y are 1, 2, 4; R, Rc, Rp are at 8, 9, 10
minus_one : ℤ
minus_one = negsuc 0

plus_one : ℤ
plus_one = pos 1

start : List Terms
start = ((9, plus_one) ∷ []) ∷ ((10, plus_one) ∷ []) ∷ ((1, plus_one) ∷ (4, plus_one) ∷ (5, minus_one) ∷ (9, minus_one) ∷ [])
    ∷ ((1, minus_one) ∷ (3, plus_one) ∷ (5, plus_one) ∷ (7, minus_one) ∷ (10, minus_one) ∷ [])
    ∷ ((8, plus_one) ∷ (9, minus_one) ∷ (10, minus_one) ∷ []) ∷ ((8, minus_one) ∷ (9, plus_one) ∷ (10, plus_one) ∷ []) ∷ []

-- I(U;Y), I(X;Y|U), R, I(X;Y|U) + I(U;Y) - R
region : List Terms
region = ((1, plus_one) ∷ (4, plus_one) ∷ (5, minus_one) ∷ []) ∷ ((1, minus_one) ∷ (3, plus_one) ∷ (5, plus_one) ∷ (7, minus_one) ∷ [])
    ∷ ((8, plus_one) ∷ []) ∷ ((3, plus_one) ∷ (4, plus_one) ∷ (7, minus_one) ∷ (8, minus_one) ∷ []) ∷ []

elimination_is : next_list 10 (next_list 9 (ordered_rows start)) ≡ region
unfolding results cancelled_row lowest_terms times_up times_down gcd gcd_within start region minus_one plus_one
elimination_is = refl
