-- The weights and the point of the last table of a run, and the conditions that they have to satisfy.
use Rattle.std.specs.Prelude.{◌≡◌, ℕ, suc, ◌+◌, ◌<◌, ◌≤◌, true, false, cond, eqb, ◌&&◌, not, List, [], ◌∷◌, length, map, filter, slice_index_or}
use Rattle.std.specs.List.{range_with_len}
use Rattle.it_tableau.specs.Operations.{Operations}
use Rattle.it_tableau.specs.Sums.{sum_by}
use Rattle.it_tableau.specs.SimplexTables.{SimplexTable, FeasibilityProblem, sign}

module _ {A : Type 0} (K : Operations A) (m n : ℕ) where
  -- the right side of the row whose basic column is j, as a sum over the rows; 0 where j isn't basic
  abbrev pub weight : SimplexTable A → ℕ → A
  weight t j = sum_by K.null K.add m (λ i. cond (eqb (t.basis i) j) (t.entry i (n + m)) K.null)

  -- the nonzero weights of all columns but the artificial ones, by column
  abbrev pub weights : SimplexTable A → List (ℕ × A)
  weights t = filter (λ (w : ℕ × A). not (K.is_least w.1 && K.is_least (K.neg w.1))) (map (λ j. (j, weight t j)) (range_with_len 0 n))

  -- the point: at row k its sign times the cost of its artificial column
  abbrev pub point : FeasibilityProblem A → SimplexTable A → List A
  point p t = map (λ k. K.mul (sign K p k) (t.entry m (n + k))) (range_with_len 0 m)

module _ {A : Type 0} (K : Operations A) where
  -- the sum over a list of numbered weights of weight times f of the number
  abbrev pub ring_combination : List (ℕ × A) → (ℕ → A) → A
  ring_combination [] f = K.null
  ring_combination (w ∷ ws) f = K.add (K.mul w.1 (f w.0)) (ring_combination ws f)

  -- the weights are above 0, and their columns ascend, from at least `from` on and below n
  abbrev pub AreWeights : ℕ → ℕ → List (ℕ × A) → Type 0
  AreWeights n from [] = Unit {0}
  AreWeights n from (w ∷ ws) = (from ≤ w.0) × (w.0 < n) × (K.is_least (K.neg w.1) ≡ false) × AreWeights n (suc w.0) ws

module _ {A : Type 0} (K : Operations A) (m n : ℕ) where
  -- the weights sum to the target at each row
  pub record SumsUp (p : FeasibilityProblem A) (ws : List (ℕ × A)) : Type 0 where
    pub ordered : AreWeights K n 0 ws
    pub sum_is : (k : ℕ) → k < m → ring_combination K ws (λ j. p.column j k) ≡ p.target k

  -- the value at the point q, a list of m numbers, of the form with coefficient f k at row k
  abbrev pub value_at_point : List A → (ℕ → A) → A
  value_at_point q f = sum_by K.null K.add m (λ k. K.mul (f k) (slice_index_or q k K.null))

  -- at the point q each column is at least 0 and the target is below 0
  pub record Separates (p : FeasibilityProblem A) (q : List A) : Type 0 where
    pub complete : length q ≡ m
    pub columns : (j : ℕ) → j < n → K.is_least (value_at_point q (p.column j)) ≡ true
    pub below : K.is_least (value_at_point q p.target) ≡ false
