-- Laws of tables: the start has the invariants, a pivot on a smallest ratio keeps them, and after any pivot each row is still a sum
-- of start rows.
use Rattle.std.specs.Prelude.{ℕ, ◌<◌}
use Rattle.it_rational.specs.Rational.{Rational}
use Rattle.it_tableau.specs.Operations.{rationals}
use Rattle.it_tableau.specs.Invariants.{CombinesStart, HasInvariants, MayEnter}
use Rattle.it_tableau.specs.SimplexTables.{FeasibilityProblem, SimplexTable, pivot, start}

-- the start has the invariants
abbrev pub StartHasInvariants : Type 0
StartHasInvariants = (m n : ℕ) (p : FeasibilityProblem Rational) → HasInvariants rationals m n p (start rationals m n p)

-- a pivot on a smallest ratio, in a column that isn't artificial, keeps the invariants
abbrev pub PivotsKeepInvariants : Type 0
PivotsKeepInvariants = (m n : ℕ) (p : FeasibilityProblem Rational) (t : SimplexTable Rational) (r c : ℕ)
    → HasInvariants rationals m n p t → MayEnter rationals m n t r c → HasInvariants rationals m n p (pivot rationals t r c)

-- after any pivot each row is still a sum of start rows
abbrev pub PivotsCombineStart : Type 0
PivotsCombineStart = (m n : ℕ) (p : FeasibilityProblem Rational) (t : SimplexTable Rational) (r c : ℕ)
    → r < m → CombinesStart rationals m n p t → CombinesStart rationals m n p (pivot rationals t r c)
