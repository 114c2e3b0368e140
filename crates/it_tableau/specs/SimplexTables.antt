-- Tables of the simplex method for a feasibility problem: the start, with an artificial column for each row, and the pivot
-- (Dantzig 1963, "Linear Programming and Extensions", chapter 5).
use Rattle.std.specs.Prelude.{ℕ, ◌+◌, cond, eqb, ltb}
use Rattle.it_tableau.specs.Operations.{Operations}
use Rattle.it_tableau.specs.Sums.{sum_by}

-- The question: whether the target is a sum of the columns with weights of at least 0.
-- A column's coefficient at each row, and the target's.
pub record FeasibilityProblem (A : Type 0) : Type 0 where
  pub column : ℕ → ℕ → A
  pub target : ℕ → A

-- A table of m rows over n columns: entry i j is in row i and column j, and row i has the basic column basis i.
-- Row m is the cost row. Columns n to n + m - 1 are the artificial ones, and column n + m is the right side. All else is 0.
pub record SimplexTable (A : Type 0) : Type 0 where
  pub entry : ℕ → ℕ → A
  pub basis : ℕ → ℕ

module _ {A : Type 0} (K : Operations A) where
  -- the sign by which a row is multiplied, so that its right side is at least 0
  abbrev pub sign : FeasibilityProblem A → ℕ → A
  sign p k = cond (K.is_least (p.target k)) K.unit (K.neg K.unit)

  -- the table after column c has become basic in row r: row r is divided by its entry at c, and from every other row the multiple of
  -- row r is subtracted that makes its entry at c 0
  abbrev pub pivot : SimplexTable A → ℕ → ℕ → SimplexTable A
  pivot t r c = record {
    entry = λ i j. cond (eqb i r) (K.mul (t.entry r j) (K.inv (t.entry r c)))
        (K.add (t.entry i j) (K.neg (K.mul (t.entry r j) (K.mul (t.entry i c) (K.inv (t.entry r c))))));
    basis = λ i. cond (eqb i r) c (t.basis i);
  }

  module _ (m n : ℕ) where
    -- row k of the start: the columns, the artificial columns as an identity matrix, the right side
    abbrev pub start_row : FeasibilityProblem A → ℕ → ℕ → A
    start_row p k j = cond (ltb j n) (K.mul (sign p k) (p.column j k))
        (cond (eqb j (n + m)) (K.mul (sign p k) (p.target k)) (cond (eqb j (n + k)) K.unit K.null))

    -- the start: the artificial columns are basic, and the cost row is the negated sum of the rows
    abbrev pub start : FeasibilityProblem A → SimplexTable A
    start p = record {
      entry = λ i j. cond (ltb i m) (start_row p i j) (cond (eqb i m) (K.neg (sum_by K.null K.add m (λ k. start_row p k j))) K.null);
      basis = λ i. cond (ltb i m) (n + i) 0;
    }

    -- the right side of a row divided by its entry at c
    abbrev pub ratio : SimplexTable A → ℕ → ℕ → A
    ratio t c i = K.mul (t.entry i (n + m)) (K.inv (t.entry i c))
