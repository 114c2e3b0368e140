-- The rays with which the second pass begins: those whose tight rows aren't all tight, together with others, at another ray, in the
-- order of their rates in lowest terms.
use Rattle.std.specs.Prelude.{ℕ, ℤ, pos, List, [], ◌∷◌, map, filter, drop, get_or, Bool, true, false, ◌&&◌, ◌||◌, not, if◌then◌else◌}
use Rattle.std.specs.List.{flat_map, list_any}
use Rattle.std.specs.Ordering.{int_eq}
use Rattle.std.specs.Int.Signed.{lt_z}
use Rattle.it_space.specs.Divisors.{lowest_terms}
use Rattle.it_space.specs.Rows.{Terms, coefficient, point_of, single_term, value}

-- the values of a point at the kept coordinates, in lowest terms, as a row
abbrev pub direction : List ℕ → List ℤ → Terms
direction kept values = lowest_terms (flat_map (λ c. single_term c (point_of values c)) kept)

-- whether xs is greater than ys at the first kept coordinate at which they differ
abbrev pub is_greater : List ℕ → Terms → Terms → Bool
is_greater [] xs ys = false
is_greater (c ∷ cs) xs ys = if int_eq (coefficient xs c) (coefficient ys c) then is_greater cs xs ys else lt_z (coefficient ys c) (coefficient xs c)

-- points in the order of their directions, the greatest first, with p inserted before the first one with a smaller direction
abbrev pub put_in_order : List ℕ → List ℤ → List (List ℤ) → List (List ℤ)
put_in_order kept p [] = p ∷ []
put_in_order kept p (q ∷ qs) = if is_greater kept (direction kept p) (direction kept q) then p ∷ q ∷ qs else q ∷ put_in_order kept p qs

-- done with further points inserted in order, one after the other
abbrev pub ordered_after : List ℕ → List (List ℤ) → List (List ℤ) → List (List ℤ)
ordered_after kept done [] = done
ordered_after kept done (p ∷ ps) = ordered_after kept (put_in_order kept p done) ps

-- for each row whether it is 0 at a point
abbrev pub tight_at : List Terms → List ℤ → List Bool
tight_at rows p = map (λ row. int_eq (value row (point_of p)) (pos 0)) rows

-- whether each row that is tight in ps is tight in qs
abbrev pub is_within : List Bool → List Bool → Bool
is_within [] qs = true
is_within (p ∷ ps) qs = (not p || get_or qs 0 false) && is_within ps (drop 1 qs)

-- whether qs has all tight rows of ps and more, but not all rows
abbrev pub is_outdone : List Bool → List Bool → Bool
is_outdone ps qs = is_within ps qs && (not (is_within qs ps) && list_any not qs)

-- whether no ray outdoes this one
abbrev pub is_extreme : List Terms → List (List ℤ) → List ℤ → Bool
is_extreme rows rays p = not (list_any (λ q. is_outdone (tight_at rows p) (tight_at rows q)) rays)

-- the extreme rays, in order
abbrev pub extreme_rays : List ℕ → List Terms → List (List ℤ) → List (List ℤ)
extreme_rays kept rows rays = ordered_after kept [] (filter (is_extreme rows rays) rays)
