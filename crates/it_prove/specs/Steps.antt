-- Definitions for the contracts inside the crate; no public clause cites this module.
use Rattle.std.specs.Prelude.{◌≡◌, ℕ, ℤ, pos, ◌≤ℤ◌, List, ◌++◌, length, All}
use Rattle.it_rational.specs.Rational.{Rational}
use Rattle.it_problems.specs.Problems.{ProblemView}
use Rattle.it_space.specs.Rows.{Terms, IsCanonical, coefficient}
use Rattle.it_tableau.specs.Operations.{rationals}
use Rattle.it_tableau.specs.Problems.{feasibility_problem}
use Rattle.it_tableau.specs.SimplexTables.{FeasibilityProblem}
use Rattle.it_run.specs.Readings.{Separates, SumsUp}
use Rattle.it_elemental.specs.Generators.{generators, generator_at}
use Rattle.it_closure.specs.declared.dependences.Dependence.{Dependence}
use Rattle.it_closure.specs.Collapse.{CollapseFits, spread_out}
use Rattle.it_closure.specs.Coordinates.{RiseTo}
use Rattle.it_closure.specs.DependencesViews.{DependencesView}
use Rattle.it_closure.specs.Reading.{dependences_of}
use Rattle.it_columns.specs.Columns.{columns, columns_by}
use Rattle.it_prove.specs.Closed.{closed_generators, closed_places, closed_target, collapsed_row}
use Rattle.it_prove.specs.ClosedProblems.{SameRows}

-- the coordinates of a point over closed sets ascend, and each has a value
pub record AreClosedValues (coordinates : List ℕ) (values : List ℤ) : Type 0 where
  pub rise : (to : ℕ) × RiseTo 1 to coordinates
  pub complete : length values ≡ length coordinates

-- weights of columns ascend by column, and none is below 0
pub record AreColumnWeights (weights : Terms) : Type 0 where
  pub ascend : IsCanonical weights
  pub least : (c : ℕ) → pos 0 ≤ℤ coefficient weights c

-- the value at a coordinate of a point over closed sets, spread out
abbrev pub spread_value : DependencesView → Terms → ℕ → ℤ
spread_value ds point c = spread_out ds.space.variables ds.list (coefficient point) c

-- ---- columns

-- the row of generator i over closed sets
abbrev pub closed_row : ProblemView → List Dependence → ℕ → Terms
closed_row q ds i = collapsed_row q.space.variables ds (generator_at (generators q) i).row

-- the columns of generator i over closed sets
abbrev pub closed_columns : ProblemView → List Dependence → ℕ → List Terms
closed_columns q ds i = columns_by (generator_at (generators q) i).kind (closed_row q ds i)

-- the partial sums of the collapse of generator i are within the limit
abbrev pub GeneratorFits : ProblemView → List Dependence → ℕ → Type 0
GeneratorFits q ds i = CollapseFits q.space.variables ds (generator_at (generators q) i).row

-- the partial sums of the collapse of each generator are within the limit
abbrev pub GeneratorsFit : ProblemView → Type 0
GeneratorsFit q = All (λ g. CollapseFits q.space.variables (dependences_of q) g.row) (generators q)

-- new has more appended to old, up to equal coefficients, with any columns in front
abbrev pub GoOnBy : List Terms → List Terms → List Terms → Type 0
GoOnBy more old new = (front xs : List Terms) → SameRows (front ++ old) xs → SameRows (front ++ new) (xs ++ more)

-- ---- the ends of the run over closed sets

-- the feasibility problem of the run: whether the target is a sum of the columns
abbrev pub closed_question : ProblemView → Terms → FeasibilityProblem Rational
closed_question q target = feasibility_problem (closed_places q) (columns (closed_generators q)) (closed_target q target)

-- the columns sum to the target by the weights ws
abbrev pub ClosedSumsUp : ProblemView → Terms → List (ℕ × Rational) → Type 0
ClosedSumsUp q target ws = SumsUp rationals (length (closed_places q)) (length (columns (closed_generators q))) (closed_question q target) ws

-- the point qs separates the target from the columns
abbrev pub ClosedSeparates : ProblemView → Terms → List Rational → Type 0
ClosedSeparates q target qs = Separates rationals (length (closed_places q)) (length (columns (closed_generators q))) (closed_question q target) qs
