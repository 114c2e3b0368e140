-- The list of results, row by row.
use Rattle.std.proofs.Common.{◌≡◌, ℕ, ℤ, pos, arith, refl, sym, ap, ap₂, ◌∙◌, List, [], ◌∷◌, ◌++◌, map, Bool, true, false, cond, if◌then◌else◌}
use Rattle.std.specs.List.{flat_map}
use Rattle.std.specs.Prelude.{filter, not}
use Rattle.std.specs.Ordering.{int_eq}
use Rattle.std.specs.Int.Signed.{lt_z}
use Rattle.std.proofs.lemmas.Int.{ints}
use Rattle.it_space.specs.Rows.{Terms, coefficient}
use Rattle.it_space.specs.Cancelling.{cancelled_row}
use Rattle.it_eliminate.specs.Elimination.{is_positive_at, is_negative_at, is_zero_at, pairs_of, cancelled_pairs, results}
use Rattle.it_eliminate.specs.Gathering.{flat_of, pair_of, up_pairs, rows_with}

filter_is : (test : Terms → Bool) (rows : List Terms) → filter test rows ≡ flat_map (λ (r : Terms). if test r then r ∷ [] else []) rows
filter_is test [] = refl
filter_is test (r ∷ rows) = by_test (test r) (filter_is test rows)
  where
    by_test : (b : Bool) → filter test rows ≡ flat_map (λ (r : Terms). if test r then r ∷ [] else []) rows
        → cond b (r ∷ filter test rows) (filter test rows) ≡ (if b then r ∷ [] else []) ++ flat_map (λ (r : Terms). if test r then r ∷ [] else []) rows
    by_test true ih = ap (λ rs. r ∷ rs) ih
    by_test false ih = ih

map_filter_is : (f : Terms → Terms) (test : Terms → Bool) (rows : List Terms)
    → map f (filter test rows) ≡ flat_map (λ (r : Terms). if test r then f r ∷ [] else []) rows
map_filter_is f test [] = refl
map_filter_is f test (r ∷ rows) = by_test (test r) (map_filter_is f test rows)
  where
    by_test : (b : Bool) → map f (filter test rows) ≡ flat_map (λ (r : Terms). if test r then f r ∷ [] else []) rows
        → map f (cond b (r ∷ filter test rows) (filter test rows)) ≡ (if b then f r ∷ [] else [])
        ++ flat_map (λ (r : Terms). if test r then f r ∷ [] else []) rows
    by_test true ih = ap (λ rs. f r ∷ rs) ih
    by_test false ih = ih

-- a test after a weaker one
filter_again : (p q : Terms → Bool) (rows : List Terms) → ((r : Terms) → q r ≡ false → p r ≡ false) → filter p (filter q rows) ≡ filter p rows
filter_again p q [] h = refl
filter_again p q (r ∷ rows) h = by_test (q r) refl (filter_again p q rows h)
  where
    by_test : (b : Bool) → q r ≡ b → filter p (filter q rows) ≡ filter p rows
        → filter p (cond b (r ∷ filter q rows) (filter q rows)) ≡ cond (p r) (r ∷ filter p rows) (filter p rows)
    by_test true e ih = ap (λ rs. cond (p r) (r ∷ rs) rs) ih
    by_test false e ih = ih ∙ sym (ap (λ b. cond b (r ∷ filter p rows) (filter p rows)) (h r e))

flat_filter_is : (f g : Terms → List Terms) (test : Terms → Bool) (rows : List Terms) → ((r : Terms) → f r ≡ g r)
    → flat_map f (filter test rows) ≡ flat_map (λ (r : Terms). if test r then g r else []) rows
flat_filter_is f g test [] h = refl
flat_filter_is f g test (r ∷ rows) h = by_test (test r) (flat_filter_is f g test rows h)
  where
    by_test : (b : Bool) → flat_map f (filter test rows) ≡ flat_map (λ (r : Terms). if test r then g r else []) rows
        → flat_map f (cond b (r ∷ filter test rows) (filter test rows)) ≡ (if b then g r else []) ++ flat_map (λ (r : Terms). if test r then g r else []) rows
    by_test true ih = ap₂ (λ xs ys. xs ++ ys) (h r) ih
    by_test false ih = ih

pairs_are : (at : ℕ) (rows : List Terms) → cancelled_pairs at rows ≡ flat_map (up_pairs at rows) rows
pairs_are at rows = flat_filter_is (λ up. pairs_of at up rows) (λ up. flat_map (pair_of at up) rows) (is_positive_at at) rows
    (λ up. map_filter_is (cancelled_row at up) (is_negative_at at) rows)

-- the pairs are between the rows that have the coordinate
pairs_with : (at : ℕ) (rows : List Terms) → cancelled_pairs at (rows_with at rows) ≡ cancelled_pairs at rows
pairs_with at rows = ap₂ (λ (ups downs : List Terms). flat_map (λ up. map (cancelled_row at up) downs) ups)
    (filter_again (is_positive_at at) (λ row. not (is_zero_at at row)) rows (λ row. none_is_positive (coefficient row at)))
    (filter_again (is_negative_at at) (λ row. not (is_zero_at at row)) rows (λ row. none_is_negative (coefficient row at)))
  where
    none_is_positive : (z : ℤ) → not (int_eq z (pos 0)) ≡ false → lt_z (pos 0) z ≡ false
    none_is_positive z e = grind (arith, ints)

    none_is_negative : (z : ℤ) → not (int_eq z (pos 0)) ≡ false → lt_z z (pos 0) ≡ false
    none_is_negative z e = grind (arith, ints)

pub results_are : (at : ℕ) (rows others : List Terms) → others ≡ rows_with at rows
    → results at rows ≡ flat_map (flat_of at) rows ++ flat_map (up_pairs at others) others
unfolding results
results_are at rows others e = ap₂ (λ xs ys. xs ++ ys) (filter_is (is_zero_at at) rows)
    (sym (pairs_with at rows) ∙ ap (cancelled_pairs at) (sym e) ∙ pairs_are at others)
