-- The weights and the values of the point from a place on, for the loops that list them.
use Rattle.std.proofs.Common.{ℕ, ◌+◌, List, filter, map, not, ◌&&◌}
use Rattle.std.specs.List.{range_with_len}
use Rattle.it_tableau.specs.Operations.{Operations}
use Rattle.it_tableau.specs.SimplexTables.{SimplexTable, FeasibilityProblem, sign}
use Rattle.it_run.specs.Readings.{weight}

module _ {A : Type 0} (K : Operations A) (m n : ℕ) where
  -- the nonzero weights of left columns from column j on
  abbrev pub weights_from_column : SimplexTable A → ℕ → ℕ → List (ℕ × A)
  weights_from_column t j left = filter (λ (w : ℕ × A). not (K.is_least w.1 && K.is_least (K.neg w.1)))
      (map (λ i. (i, weight K m n t i)) (range_with_len j left))

  -- the point at row k
  abbrev pub point_value : FeasibilityProblem A → SimplexTable A → ℕ → A
  point_value p t k = K.mul (sign K p k) (t.entry m (n + k))

  -- the point's values at left rows from row k on
  abbrev pub point_from_row : FeasibilityProblem A → SimplexTable A → ℕ → ℕ → List A
  point_from_row p t k left = map (point_value p t) (range_with_len k left)
