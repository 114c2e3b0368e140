-- The invariants of the tables of a run from the start, and the pivots that keep them.
use Rattle.std.specs.Prelude.{◌≡◌, ◌⊎◌, ℕ, ◌+◌, ◌<◌, ◌≤◌, true, false, cond, eqb, ltb}
use Rattle.it_tableau.specs.Operations.{Operations}
use Rattle.it_tableau.specs.Sums.{sum_by}
use Rattle.it_tableau.specs.SimplexTables.{SimplexTable, FeasibilityProblem, start_row, ratio}

module _ {A : Type 0} (K : Operations A) (m n : ℕ) where
  -- the cost of a basic column: -1 if it is artificial, else 0
  abbrev pub cost_of : ℕ → A
  cost_of j = cond (ltb j n) K.null (K.neg K.unit)

  -- each row, the cost row included, is the sum of its entries at the artificial columns times the start rows
  abbrev pub CombinesStart : FeasibilityProblem A → SimplexTable A → Type 0
  CombinesStart p t = (i j : ℕ) → i ≤ m → t.entry i j ≡ sum_by K.null K.add m (λ k. K.mul (t.entry i (n + k)) (start_row K m n p k j))

  -- the invariants of every table of a run from the start of p
  pub record HasInvariants (p : FeasibilityProblem A) (t : SimplexTable A) : Type 0 where
    pub combines : CombinesStart p t
    -- each start row is the sum of its entries at the basic columns times the rows
    pub spans : (k j : ℕ) → k < m → start_row K m n p k j ≡ sum_by K.null K.add m (λ i. K.mul (start_row K m n p k (t.basis i)) (t.entry i j))
    -- right sides are at least 0
    pub rights : (i : ℕ) → i < m → K.is_least (t.entry i (n + m)) ≡ true
    -- the cost row is the negated sum of the rows whose basic column is artificial
    pub costs : (j : ℕ) → t.entry m j ≡ sum_by K.null K.add m (λ i. K.mul (cost_of (t.basis i)) (t.entry i j))
    -- a basic column is a unit column
    pub units : (i k : ℕ) → i < m → k < m → t.entry i (t.basis k) ≡ cond (eqb i k) K.unit K.null
    -- a basic artificial column is the row's own: one that has left doesn't enter again
    pub own : (k : ℕ) → k < m → (t.basis k < n) ⊎ (t.basis k ≡ n + k)

  -- column c may become basic in row r: it isn't artificial, its entry is above 0, and no row with such an entry has a smaller ratio
  pub record MayEnter (t : SimplexTable A) (r c : ℕ) : Type 0 where
    pub column : c < n
    pub row : r < m
    pub above : K.is_least (K.neg (t.entry r c)) ≡ false
    pub least : (i : ℕ) → i < m → K.is_least (K.neg (t.entry i c)) ≡ false → K.is_least (K.add (ratio K m n t c i) (K.neg (ratio K m n t c r))) ≡ true
