-- The order in which the rows of a region are told: those with fewer rates come first, and those with as many in lexicographic
-- order of their rates.
use Rattle.std.specs.Prelude.{ℕ, ◌^◌, Bool, true, false, not, nat_lt, ◌==◌, ◌&&◌, ◌||◌, List, [], ◌∷◌, map, filter, length, if◌then◌else◌}
use Rattle.std.specs.List.{fold}
use Rattle.it_space.specs.declared.answers.Mark.{Mark}
use Rattle.it_space.specs.Rows.{Terms}

-- the coordinates of a row's rates, where there are `n` variables
abbrev pub rate_coordinates : ℕ → Terms → List ℕ
rate_coordinates n row = filter (λ c. not (nat_lt c (2 ^ n))) (map (λ t. t.0) row)

-- the key by which rows are sorted: the number of a row's rates, and then their coordinates
abbrev pub order_key : ℕ → Terms → List ℕ
order_key n row = length (rate_coordinates n row) ∷ rate_coordinates n row

-- whether the first list comes before the other one in lexicographic order
abbrev pub is_before : List ℕ → List ℕ → Bool
is_before xs [] = false
is_before [] (y ∷ ys) = true
is_before (x ∷ xs) (y ∷ ys) = nat_lt x y || ((x == y) && is_before xs ys)

-- a row inserted before the first one before which it comes, else at the end
abbrev pub put_in_order : ℕ → Mark × Terms → List (Mark × Terms) → List (Mark × Terms)
put_in_order n row [] = row ∷ []
put_in_order n row (other ∷ rows) =
    if is_before (order_key n row.1) (order_key n other.1) then row ∷ other ∷ rows else other ∷ put_in_order n row rows

-- all rows in order; rows with the same rates keep their order
abbrev pub rows_by_rates : ℕ → List (Mark × Terms) → List (Mark × Terms)
rows_by_rates n rows = fold (λ sorted row. put_in_order n row sorted) [] rows
