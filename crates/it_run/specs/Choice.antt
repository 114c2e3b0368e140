-- The choice of column and row by Bland's rule (Bland 1977, "New finite pivoting rules for the simplex method"), and the step.
use Rattle.std.specs.Prelude.{◌≡◌, ℕ, zero, suc, ◌+◌, ◌<◌, Bool, true, cond, eqb, ltb, ◌&&◌, not}
use Rattle.it_tableau.specs.Operations.{Operations}
use Rattle.it_tableau.specs.SimplexTables.{SimplexTable, pivot, ratio}

-- the least number from k on, below k + left, at which f is false; k + left where there is none
abbrev pub first_false : (ℕ → Bool) → ℕ → ℕ → ℕ
first_false f k zero = k
first_false f k (suc left) = cond (f k) (first_false f (suc k) left) k

module _ {A : Type 0} (K : Operations A) where
  -- whether the entry of row i at column c is above 0
  abbrev pub is_candidate : SimplexTable A → ℕ → ℕ → Bool
  is_candidate t c i = not (K.is_least (K.neg (t.entry i c)))

  module _ (m n : ℕ) where
    -- the entering column: the least-numbered with a cost below 0 that isn't artificial, n where there is none
    abbrev pub entering_column : SimplexTable A → ℕ
    entering_column t = first_false (λ j. K.is_least (t.entry m j)) 0 n

    -- row i comes before row k: its ratio is less, or equal and its basic column is less
    abbrev pub precedes : SimplexTable A → ℕ → ℕ → ℕ → Bool
    precedes t c i k = cond (K.is_least (K.add (ratio K m n t c i) (K.neg (ratio K m n t c k))))
        (K.is_least (K.add (ratio K m n t c k) (K.neg (ratio K m n t c i))) && ltb (t.basis i) (t.basis k)) true

    -- the first in this order of the rows below i that have an entry above 0 at column c, m where there is none
    abbrev pub leaving_row_of : SimplexTable A → ℕ → ℕ → ℕ
    leaving_row_of t c zero = m
    leaving_row_of t c (suc i) = cond (is_candidate t c i) (cond (eqb (leaving_row_of t c i) m) i (cond (precedes t c i (leaving_row_of t c i)) i (leaving_row_of t c i))) (leaving_row_of t c i)

    -- the leaving row
    abbrev pub leaving_row : SimplexTable A → ℕ → ℕ
    leaving_row t c = leaving_row_of t c m

    -- the table after the step
    abbrev pub next : SimplexTable A → SimplexTable A
    next t = pivot K t (leaving_row t (entering_column t)) (entering_column t)

    -- the end by weights: the cost row's right side is 0
    abbrev pub IsDone : SimplexTable A → Type 0
    IsDone t = t.entry m (n + m) ≡ K.null

    -- the end by a point: no column but artificial ones has a cost below 0
    abbrev pub IsStuck : SimplexTable A → Type 0
    IsStuck t = (j : ℕ) → j < n → K.is_least (t.entry m j) ≡ true
