-- No public clause cites this module: the parts of a table that the engine keeps, and a step on them.
-- The engine represents a table of the run: it keeps no table, and its contracts range over all tables that it may represent.
use Rattle.std.specs.Prelude.{◌≡◌, ℕ, ◌+◌, ◌*◌, ◌<◌, ◌≤◌, Bool, true, false, List, length, Option}
use Rattle.it_rational.specs.Rational.{Rational}
use Rattle.it_space.specs.Rows.{Terms}
use Rattle.it_tableau.specs.Operations.{rationals}
use Rattle.it_tableau.specs.Invariants.{HasInvariants}
use Rattle.it_tableau.specs.SimplexTables.{SimplexTable, FeasibilityProblem}
use Rattle.it_run.specs.Choice.{next, IsStuck}
use Rattle.it_run.specs.Solving.{StepFits}
use Rattle.it_run.specs.Runs.{RunEndView}
use Rattle.it_run.specs.Runs.RunEndView.{Weights, Point, Pivots}
use Rattle.it_run.specs.Steps.{ReachesBy}
use Rattle.it_engine.specs.declared.blocks.Notes.{Notes}
use Rattle.it_engine.specs.declared.blocks.Scratch.{Scratch}
use Rattle.it_engine.specs.declared.engine.EngineEnd.{EngineEnd}
use Rattle.it_engine.specs.declared.engine.EngineEnd.TheVariants as engine_ends
use Rattle.it_engine.specs.PivotedRows.{AreFitting, AreUsable}
use Rattle.it_whole.specs.WholeRows.{WholeRowView}
use Rattle.it_engine.specs.Tables.{AreStartColumns, ShowsTable}
use Rattle.it_number.specs.Limit.{signed_limit}

-- the contracts' view of the engine
pub record EngineView : Type 0 where
  pub rows : List WholeRowView
  pub basis : List ℕ

-- there is room for a pivot's notes on a leaving row of width numbers, and for a row
pub record HasSpace (width : ℕ) (scratch : Scratch) : Type 0 where
  pub next_is : length scratch.next.items ≡ width + 1
  pub room_is : length scratch.room.items ≡ width

-- for height basic columns there is room for a pivot, and for an entry and a mark of each row
pub record HasRoom (height : ℕ) (notes : Notes) : Type 0 where
  pub scratch : HasSpace (height + 1) notes.scratch
  pub entries_are : length notes.entries.items ≡ height + 1
  pub moved_is : length notes.moved.items ≡ height + 1

-- the numbers of rows, columns and basic columns agree, and all numbers that are formed are short
pub record IsSafe (columns : List Terms) (limit : ℕ) (rows : List WholeRowView) (basis : List ℕ) : Type 0 where
  pub rows_are : length rows ≡ length basis + 1
  pub usable : AreUsable (length rows) limit rows
  pub fitting : AreFitting (length rows) limit columns
  pub limit_is : limit < signed_limit

-- the engine shows t, a table of p that has the invariants, and no column weighs more than a norm that keeps all prices short
pub record Represents (p : FeasibilityProblem Rational) (t : SimplexTable Rational) (columns : List Terms) (limit : ℕ) (rows : List WholeRowView) (basis : List ℕ) : Type 0 where
  pub norm : ℕ
  pub some : 1 ≤ norm
  pub fit : norm * limit < signed_limit
  pub holds : HasInvariants rationals (length basis) (length columns) p t
  pub shows : ShowsTable (length basis) (length columns) limit t rows basis
  pub columns_are : AreStartColumns (length basis) (length columns) norm p columns

-- the step of the run from t is made: it isn't stuck or wide, and the new engine shows the next table
pub record IsStepMade (p : FeasibilityProblem Rational) (t : SimplexTable Rational) (columns : List Terms) (limit : ℕ) (basis : List ℕ) (new : List WholeRowView) (new_basis : List ℕ) : Type 0 where
  pub moves : ¬ (IsStuck rationals (length basis) (length columns) t)
  pub fits : StepFits (length basis) (length columns) t
  pub stands : Represents p (next rationals (length basis) (length columns) t) columns limit new new_basis

-- a step was made, for any table that the engine showed
pub record IsEngineStep (columns : List Terms) (limit : ℕ) (old : List WholeRowView) (basis : List ℕ) (new : List WholeRowView) (new_basis : List ℕ) : Type 0 where
  pub engine : IsSafe columns limit new new_basis
  pub height : length new_basis ≡ length basis
  pub made : (p : FeasibilityProblem Rational) (t : SimplexTable Rational) → Represents p t columns limit old basis → IsStepMade p t columns limit basis new new_basis

-- the engine shows some table of some problem
abbrev pub RepresentsSome : List Terms → ℕ → List WholeRowView → List ℕ → Type 0
RepresentsSome columns limit rows basis = (p : FeasibilityProblem Rational) × (t : SimplexTable Rational) × Represents p t columns limit rows basis

-- false: nothing changed, since the run is stuck; true: a step was made
abbrev pub IsEngineStepOrStuck : List Terms → ℕ → List WholeRowView → List ℕ → List WholeRowView → List ℕ → Bool → Type 0
IsEngineStepOrStuck columns limit old basis new new_basis false = (new ≡ old) × (new_basis ≡ basis)
    × ((p : FeasibilityProblem Rational) (t : SimplexTable Rational) → Represents p t columns limit old basis → IsStuck rationals (length basis) (length columns) t)
IsEngineStepOrStuck columns limit old basis new new_basis true = IsEngineStep columns limit old basis new new_basis

-- the end of the run, with t as its last table
abbrev pub engine_end_view : EngineEnd → SimplexTable Rational → RunEndView (SimplexTable Rational) (SimplexTable Rational)
engine_end_view engine_ends.Weights t = Weights t
engine_end_view engine_ends.Point t = Point t
engine_end_view (engine_ends.Pivots k) t = Pivots k

-- for any table that the engine showed, the run from it has the end finish, and the new engine shows the run's last table
pub record IsFinished (columns : List Terms) (limit : ℕ) (old : List WholeRowView) (basis : List ℕ) (budget : Option ℕ) (new : List WholeRowView) (new_basis : List ℕ) (finish : EngineEnd) : Type 0 where
  pub engine : IsSafe columns limit new new_basis
  pub height : length new_basis ≡ length basis
  pub runs : (p : FeasibilityProblem Rational) (t : SimplexTable Rational) → Represents p t columns limit old basis
      → (s : SimplexTable Rational) × Represents p s columns limit new new_basis × ReachesBy (length basis) (length columns) budget t (engine_end_view finish s)
