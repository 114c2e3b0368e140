-- The tables that a run comes to, and that no two of them have the same basic columns.
use Rattle.std.specs.Prelude.{◌≡◌, ℕ, ◌+◌, ◌^◌, ◌<◌, ◌≤◌}
use Rattle.it_rational.specs.Rational.{Rational}
use Rattle.it_tableau.specs.Operations.{Operations, rationals}
use Rattle.it_tableau.specs.SimplexTables.{SimplexTable, FeasibilityProblem, start}
use Rattle.it_run.specs.Choice.{next, IsStuck}
use Rattle.it_run.specs.Runs.{state_after_steps}

module _ {A : Type 0} (K : Operations A) (m n : ℕ) where
  -- the table after k steps
  abbrev pub table_after : SimplexTable A → ℕ → SimplexTable A
  table_after = state_after_steps (next K m n)

module _ {A : Type 0} (m : ℕ) where
  -- each basic column of t is one of s
  abbrev pub IsBasisWithin : SimplexTable A → SimplexTable A → Type 0
  IsBasisWithin t s = (i : ℕ) → i < m → (k : ℕ) × (k < m) × (t.basis i ≡ s.basis k)

-- while a column can enter, no table of the run has the set of basic columns of an earlier one
abbrev pub MeetsNoBasisTwice : Type 0
MeetsNoBasisTwice = (m n : ℕ) (p : FeasibilityProblem Rational) (a b : ℕ) → a < b
    → ((k : ℕ) → k < b → ¬ (IsStuck rationals m n (table_after rationals m n (start rationals m n p) k)))
    → IsBasisWithin m (table_after rationals m n (start rationals m n p) a) (table_after rationals m n (start rationals m n p) b)
    → IsBasisWithin m (table_after rationals m n (start rationals m n p) b) (table_after rationals m n (start rationals m n p) a) → ⊥

-- a run comes to a table with no column to enter, within as many steps as there are lists of basic columns
abbrev pub RunsEnd : Type 0
RunsEnd = (m n : ℕ) (p : FeasibilityProblem Rational) → (k : ℕ) × (k ≤ (n + m) ^ m) × IsStuck rationals m n (table_after rationals m n (start rationals m n p) k)
