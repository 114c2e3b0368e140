-- No public clause cites this module: the answer, read off the engine at the end of a run.
use Rattle.std.specs.Prelude.{◌≡◌, ℕ, ◌<◌, ◌≤◌, List, length, slice_index_or, Option, None, Some}
use Rattle.it_rational.specs.Rational.{Rational, quotient}
use Rattle.it_space.specs.Rows.{Terms}
use Rattle.it_tableau.specs.TableauViews.{start_of}
use Rattle.it_tableau.specs.Fits.{StartFits}
use Rattle.it_tableau.specs.Operations.{rationals}
use Rattle.it_tableau.specs.Problems.{feasibility_problem}
use Rattle.it_tableau.specs.SimplexTables.{SimplexTable, FeasibilityProblem}
use Rattle.it_run.specs.Readings.{weights, point}
use Rattle.it_run.specs.Answers.{end_of_answer}
use Rattle.it_run.specs.Solving.{RunsTo}
use Rattle.it_run.specs.declared.answering.Solved.{Solved}
use Rattle.it_engine.specs.Choosing.{right_side_of}
use Rattle.it_engine.specs.Engine.{EngineView, IsSafe, Represents}
use Rattle.it_engine.specs.Tables.{whole_row_at}
use Rattle.it_whole.specs.WholeRows.{WholeRowView}

-- w is the right side of a row whose basic column is j
pub record IsWeightOf (rows : List WholeRowView) (basis : List ℕ) (j : ℕ) (w : Rational) : Type 0 where
  pub row : ℕ
  pub within : row < length basis
  pub basic : slice_index_or basis row 0 ≡ j
  pub value_is : w ≡ quotient (right_side_of (length basis) rows row) (whole_row_at rows row).denominator

-- of the first k rows the one with the least basic column in the range from `from` up to `to`, `to` excluded; None if there is none
abbrev pub IsNextBasic : List ℕ → ℕ → ℕ → ℕ → Option ℕ → Type 0
IsNextBasic basis from to k None = (i : ℕ) → i < k → from ≤ slice_index_or basis i 0 → slice_index_or basis i 0 < to → ⊥
IsNextBasic basis from to k (Some r) = (r < length basis) × (from ≤ slice_index_or basis r 0) × (slice_index_or basis r 0 < to)
    × ((i : ℕ) → i < k → from ≤ slice_index_or basis i 0 → slice_index_or basis i 0 < to → slice_index_or basis r 0 ≤ slice_index_or basis i 0)

-- ws are the weights of any table that the engine shows
abbrev pub AreWeightsOf : List Terms → List WholeRowView → List ℕ → List (ℕ × Rational) → Type 0
AreWeightsOf columns rows basis ws = (p : FeasibilityProblem Rational) (t : SimplexTable Rational) (limit : ℕ) → Represents p t columns limit rows basis → ws ≡ weights rationals (length basis) (length columns) t

-- q is the point of any table that the engine shows, whatever columns it has besides the artificial ones
abbrev pub IsPointOf : List ℕ → Terms → List WholeRowView → List ℕ → List Rational → Type 0
IsPointOf coordinates target rows basis q = (generators : List Terms) (t : SimplexTable Rational) (columns : List Terms) (limit : ℕ)
    → Represents (feasibility_problem coordinates generators target) t columns limit rows basis → q ≡ point rationals (length basis) (length columns) (feasibility_problem coordinates generators target) t

-- answer is the end of the run from any start of a question that the engine shows
abbrev pub AnswersQuestion : List ℕ → Terms → List Terms → ℕ → List WholeRowView → List ℕ → Option ℕ → Solved → Type 0
AnswersQuestion coordinates target columns limit rows basis budget answer = (generators : List Terms) (t : SimplexTable Rational)
    → Represents (feasibility_problem coordinates generators target) t columns limit rows basis
    → RunsTo (length basis) (length columns) (feasibility_problem coordinates generators target) budget t (end_of_answer answer)

-- the answer is the end of the run from any start of a question that this engine shows
abbrev pub AnswersFrom : List ℕ → Terms → List Terms → ℕ → EngineView → Option ℕ → Solved → Type 0
AnswersFrom coordinates target columns limit engine = AnswersQuestion coordinates target columns limit engine.rows engine.basis

-- the engine shows the start of a question, which isn't wide
pub record IsStart (coordinates : List ℕ) (generators : List Terms) (target : Terms) (columns : List Terms) (limit : ℕ) (engine : EngineView) : Type 0 where
  pub height : length engine.basis ≡ length coordinates
  pub count : length columns ≡ length generators
  pub safe : IsSafe columns limit engine.rows engine.basis
  pub stands : Represents (feasibility_problem coordinates generators target) (start_of coordinates generators target) columns limit engine.rows engine.basis
  pub fits : StartFits (length coordinates) (length generators) (feasibility_problem coordinates generators target)
