-- The weights and the point read off the engine are those read off the table that it shows.
use Rattle.std.proofs.Common.{◌≡◌, ◌≢◌, ℕ, zero, suc, Some, subst, ◌+◌, ◌-◌, ◌<◌, ◌≤◌, ◌++◌, ℤ, pos, List, [], ◌∷◌, length, slice_index_or, refl, sym, ap, ◌∙◌, arith}
use Rattle.std.proofs.lemmas.List.{append_assoc, append-nil}
use Rattle.it_rational.specs.Rational.{Rational, quotient, integer, times, IsRatio}
use Rattle.it_rational.proofs.Names.{quotient_names, same_value}
use Rattle.it_rational.proofs.Field.{field_ℚ}
use Rattle.it_space.specs.Rows.{Terms}
use Rattle.it_tableau.specs.Operations.{rationals}
use Rattle.it_tableau.specs.Problems.{feasibility_problem}
use Rattle.it_tableau.specs.SimplexTables.{SimplexTable, FeasibilityProblem, sign}
use Rattle.it_run.specs.Readings.{weight, weights, point}
use Rattle.it_run.proofs.ReadingLists.{weights_from_column, point_from_row}
use Rattle.it_run.proofs.FillingLemmas.{AreWeightsSoFar, weights_skip_null, weights_with_next}
use Rattle.it_run.proofs.Reading.{weight_found, weight_none}
use Rattle.it_engine.specs.Choosing.{right_side_of}
use Rattle.it_engine.specs.Engine.{Represents}
use Rattle.it_engine.specs.Ends.{IsNextBasic, IsWeightOf, IsPointOf}
use Rattle.it_engine.specs.Tables.{whole_row_at}
use Rattle.it_whole.specs.WholeRows.{WholeRowView}

pub quotient_named : (q : Rational) (n : ℤ) (d : ℕ) → 0 < d → IsRatio q n d → quotient n d ≡ q
quotient_named q n d h e = same_value (quotient n d) q n n d d h h (quotient_names n d h) e refl

module _ (p : FeasibilityProblem Rational) (t : SimplexTable Rational) (columns : List Terms) (limit : ℕ) (rows : List WholeRowView)
    (basis : List ℕ) (s : Represents p t columns limit rows basis) where
  weight_is : (j : ℕ) (w : Rational) → IsWeightOf rows basis j w → w ≡ weight rationals (length basis) (length columns) t j
  weight_is j w i = i.value_is
      ∙ (let r = s.shows.row i.row (omega (arith, i.within)) in
      quotient_named (t.entry i.row (length columns + length basis)) (right_side_of (length basis) rows i.row)
      (whole_row_at rows i.row).denominator r.some (r.named (length basis) (omega arith)))
      ∙ sym (weight_found field_ℚ (length basis) (length columns) p t s.holds i.row j i.within (s.shows.basis_is i.row i.within ∙ i.basic))

-- the weights so far, for any table that the engine shows
abbrev pub WeightsSoFar : List Terms → List WholeRowView → List ℕ → List (ℕ × Rational) → ℕ → Type 0
WeightsSoFar columns rows basis out j = (p : FeasibilityProblem Rational) (t : SimplexTable Rational) (limit : ℕ)
    → Represents p t columns limit rows basis → AreWeightsSoFar (length basis) (length columns) t out j

pub weights_more : (columns : List Terms) (rows : List WholeRowView) (basis : List ℕ) (out : List (ℕ × Rational)) (j : ℕ) (w : Rational)
    → j < length columns → IsWeightOf rows basis j w → ¬ (w ≡ integer (pos 0))
    → WeightsSoFar columns rows basis out j → WeightsSoFar columns rows basis (out ++ (j, w) ∷ []) (j + 1)
weights_more columns rows basis out j w l i n h = λ p t limit s. weights_with_next (length basis) (length columns) t out j w l
    (weight_is p t columns limit rows basis s j w i) n (h p t limit s)

pub weights_null : (columns : List Terms) (rows : List WholeRowView) (basis : List ℕ) (out : List (ℕ × Rational)) (j : ℕ) (w : Rational)
    → j < length columns → IsWeightOf rows basis j w → w ≡ integer (pos 0)
    → WeightsSoFar columns rows basis out j → WeightsSoFar columns rows basis out (j + 1)
weights_null columns rows basis out j w l i n h = λ p t limit s. weights_skip_null (length basis) (length columns) t out j l
    (sym (weight_is p t columns limit rows basis s j w i) ∙ n) (h p t limit s)

pub weights_none : (columns : List Terms) (rows : List WholeRowView) (basis : List ℕ) (out : List (ℕ × Rational)) (j : ℕ)
    → j < length columns → ((i : ℕ) → i < length basis → slice_index_or basis i 0 ≢ j)
    → WeightsSoFar columns rows basis out j → WeightsSoFar columns rows basis out (j + 1)
weights_none columns rows basis out j l n h = λ p t limit s. weights_skip_null (length basis) (length columns) t out j l
    (weight_none field_ℚ (length basis) (length columns) t j (λ i k e. n i k (sym (s.shows.basis_is i k) ∙ e))) (h p t limit s)

-- columns that are basic in no row
pub weights_skip : (columns : List Terms) (rows : List WholeRowView) (basis : List ℕ) (out : List (ℕ × Rational)) (j n : ℕ) → j + n ≤ length columns
    → ((i : ℕ) → i < length basis → j ≤ slice_index_or basis i 0 → slice_index_or basis i 0 < j + n → ⊥)
    → WeightsSoFar columns rows basis out j → WeightsSoFar columns rows basis out (j + n)
weights_skip columns rows basis out j zero l none h = subst (λ (k : ℕ). WeightsSoFar columns rows basis out k) same h
  where
    same : j ≡ j + 0
    same = omega arith
weights_skip columns rows basis out j (suc n) l none h = subst (λ (k : ℕ). WeightsSoFar columns rows basis out k) next
    (weights_none columns rows basis out (j + n) (omega (arith, l)) (λ i k e. none i k (omega (arith, e)) (omega (arith, e)))
    (weights_skip columns rows basis out j n (omega (arith, l)) (λ i k a b. none i k a (omega (arith, b))) h))
  where
    next : j + n + 1 ≡ j + suc n
    next = omega arith

pub weights_to : (columns : List Terms) (rows : List WholeRowView) (basis : List ℕ) (out : List (ℕ × Rational)) (j k : ℕ) → j ≤ k → k ≤ length columns
    → ((i : ℕ) → i < length basis → j ≤ slice_index_or basis i 0 → slice_index_or basis i 0 < k → ⊥) → WeightsSoFar columns rows basis out j
    → WeightsSoFar columns rows basis out k
weights_to columns rows basis out j k l m none h = subst (λ (x : ℕ). WeightsSoFar columns rows basis out x) there
    (weights_skip columns rows basis out j (k - j) (omega (arith, l, m)) (λ i w a b. none i w a (omega (arith, b, l))) h)
  where
    there : j + (k - j) ≡ k
    there = omega (arith, l)

-- the next basic column
pub weights_to_next : (columns : List Terms) (rows : List WholeRowView) (basis : List ℕ) (out : List (ℕ × Rational)) (j r : ℕ)
    → IsNextBasic basis j (length columns) (length basis) (Some r)
    → WeightsSoFar columns rows basis out j → WeightsSoFar columns rows basis out (slice_index_or basis r 0)
weights_to_next columns rows basis out j r n h = weights_to columns rows basis out j (slice_index_or basis r 0) n.1 (omega (arith, n.2)) none_before h
  where
    none_before : (i : ℕ) → i < length basis → j ≤ slice_index_or basis i 0 → slice_index_or basis i 0 < slice_index_or basis r 0 → ⊥
    none_before i k a b = let least = n.3 i k a (omega (arith, b, n.2)) in absurd (omega (arith, b, least))

-- the point's values so far
abbrev pub PointSoFar : List ℕ → Terms → List WholeRowView → List ℕ → List Rational → ℕ → Type 0
PointSoFar coordinates target rows basis out k = (generators : List Terms) (t : SimplexTable Rational) (columns : List Terms) (limit : ℕ)
    → Represents (feasibility_problem coordinates generators target) t columns limit rows basis
    → out ++ point_from_row rationals (length basis) (length columns) (feasibility_problem coordinates generators target) t k
    (length basis - k) ≡ point rationals (length basis) (length columns) (feasibility_problem coordinates generators target) t

pub point_more : (coordinates : List ℕ) (target : Terms) (rows : List WholeRowView) (basis : List ℕ) (out : List Rational) (k : ℕ)
    (x : Rational) → k < length basis
    → x ≡ times (sign rationals (feasibility_problem coordinates [] target) k)
    (quotient (right_side_of k rows (length basis)) (whole_row_at rows (length basis)).denominator)
    → PointSoFar coordinates target rows basis out k → PointSoFar coordinates target rows basis (out ++ x ∷ []) (k + 1)
point_more coordinates target rows basis out k x l e h = λ generators t columns limit s.
    let p = feasibility_problem coordinates generators target in
    let r = s.shows.row (length basis) (omega arith) in
    let here : length basis - k ≡ suc (length basis - (k + 1)) = omega (arith, l) in
    append_assoc out (x ∷ []) (point_from_row rationals (length basis) (length columns) p t (k + 1) (length basis - (k + 1)))
    ∙ ap (λ y. out ++ y ∷ point_from_row rationals (length basis) (length columns) p t (k + 1) (length basis - (k + 1)))
    (e ∙ ap (times (sign rationals p k)) (quotient_named (t.entry (length basis) (length columns + k)) (right_side_of k rows (length basis))
    (whole_row_at rows (length basis)).denominator r.some (r.named k (omega (arith, l)))))
    ∙ ap (λ xs. out ++ xs) (sym (ap (point_from_row rationals (length basis) (length columns) p t k) here))
    ∙ h generators t columns limit s

-- all weights, all values
pub weights_all : (columns : List Terms) (rows : List WholeRowView) (basis : List ℕ) (out : List (ℕ × Rational)) (j : ℕ)
    → length columns ≤ j → WeightsSoFar columns rows basis out j
    → (p : FeasibilityProblem Rational) (t : SimplexTable Rational) (limit : ℕ) → Represents p t columns limit rows basis
    → out ≡ weights rationals (length basis) (length columns) t
weights_all columns rows basis out j l h p t limit s = let none : length columns - j ≡ 0 = omega (arith, l) in
    sym (append-nil out) ∙ ap (λ k. out ++ weights_from_column rationals (length basis) (length columns) t j k) (sym none) ∙ h p t limit s

pub point_all : (coordinates : List ℕ) (target : Terms) (rows : List WholeRowView) (basis : List ℕ) (out : List Rational) (k : ℕ)
    → length basis ≤ k → PointSoFar coordinates target rows basis out k
    → IsPointOf coordinates target rows basis out
point_all coordinates target rows basis out k l h = λ generators t columns limit s. let none : length basis - k ≡ 0 = omega (arith, l) in
    sym (append-nil out) ∙ ap (λ i. out ++ point_from_row rationals (length basis) (length columns)
    (feasibility_problem coordinates generators target) t k i) (sym none) ∙ h generators t columns limit s
