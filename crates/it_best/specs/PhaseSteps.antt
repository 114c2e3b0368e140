-- No public clause cites this module: definitions for the contracts between the phases.
use Rattle.std.specs.Prelude.{◌≡◌, ℕ, ◌+◌, ℤ, pos, neg_ℤ, List, length, map, Option}
use Rattle.it_rational.specs.Rational.{Rational, plus, minus}
use Rattle.it_problems.specs.declared.problems.Kind.{Kind}
use Rattle.it_problems.specs.Problems.{ProblemView, IsProblem}
use Rattle.it_space.specs.Rows.{Terms, IsOver, ValueFits, point_of, negated_terms, value}
use Rattle.it_space.specs.Spaces.{most_coordinates, size_of}
use Rattle.it_polymatroid.specs.Certificates.{IsCertificate}
use Rattle.it_polymatroid.specs.Elementals.{span}
use Rattle.it_elemental.specs.Generators.{Generator, generators, generators_of}
use Rattle.it_elemental.specs.Places.{most_generators}
use Rattle.it_tableau.specs.Operations.{rationals}
use Rattle.it_tableau.specs.Problems.{feasibility_problem}
use Rattle.it_run.specs.Readings.{Separates, SumsUp}
use Rattle.it_run.specs.Runs.{RunEndView}
use Rattle.it_run.specs.Runs.RunEndView.{Point}
use Rattle.it_run.specs.declared.answering.Solved.{Solved}
use Rattle.it_simplex.specs.Answers.{IsRightSolved}
use Rattle.it_columns.specs.Columns.{columns, number_by}
use Rattle.it_columns.specs.Scaling.{scaled_point}
use Rattle.it_ratio.specs.BestViews.{BestView, Never}
use Rattle.it_ratio.specs.BestViews.{best_view}
use Rattle.it_best.specs.declared.finding.Stop.{Stop}
use Rattle.it_best.specs.declared.finding.Stop.TheVariants.{Answer, Memory}
use Rattle.it_best.specs.Ends.{FirstFollows, LeastFits, NeverFits, OrScale, PhaseEnds, SecondFollows, ThirdFollows, UnboundedFits}
use Rattle.it_best.specs.Ends.{first, least_view, third, unbounded_view}
use Rattle.it_best.specs.Factors.{IsFactor, ground_of}
use Rattle.it_best.specs.Numbers.{column_weight, weights_certificate}
use Rattle.it_best.specs.Phases.{coordinate_row, coordinate_unknown, right_equation, slacks, third_target}

-- a problem, and the sides of a relation as rows over its coordinates
pub record AreSides (q : ProblemView) (l r : Terms) : Type 0 where
  pub problem : IsProblem q
  pub left : IsOver (size_of q.space) l
  pub right : IsOver (size_of q.space) r

-- a problem with the sides of a relation, as contracts see them
pub record SidesView : Type 0 where
  pub problem : ProblemView
  pub left : Terms
  pub right : Terms

abbrev pub sides_view : ProblemView → Terms → Terms → SidesView
sides_view q l r = record { problem = q; left = l; right = r }

-- ---- the phases

-- the end of a run: weights of columns, a point, or neither
abbrev pub End : Type 0
End = RunEndView (List (ℕ × Rational)) (List Rational)

-- the end is a point
abbrev pub IsEndPoint : End → Type 0
IsEndPoint e = (qs : List Rational) × (e ≡ Point qs)

-- the weights ws of a phase's columns sum to its target
abbrev pub PhaseSums : ℕ → List Generator → Terms → List (ℕ × Rational) → Type 0
PhaseSums m us target ws = SumsUp rationals (length (span 1 m)) (length (columns us)) (feasibility_problem (span 1 m) (columns us) target) ws

-- the point qs of a phase separates its target from its columns
abbrev pub PhaseSeparates : ℕ → List Generator → Terms → List Rational → Type 0
PhaseSeparates m us target qs = Separates rationals (length (span 1 m)) (length (columns us)) (feasibility_problem (span 1 m) (columns us) target) qs

-- the answer of a phase's run is right
abbrev pub PhaseIsRight : ℕ → List Generator → Terms → Solved → Type 0
PhaseIsRight m us target solved = IsRightSolved (span 1 m) (columns us) target solved

-- ---- the third phase, over given unknowns

-- the last equation of the third phase
abbrev pub last_equation : ProblemView → ℕ
last_equation q = right_equation (size_of q.space) (generators q)

-- the greatest number that it may have
abbrev pub most_equations : ℕ
most_equations = most_coordinates + most_generators + 2

-- the target of the third phase
abbrev pub last_target : SidesView → Terms
last_target s = third_target (size_of s.problem.space) (generators s.problem) s.right

module _ (s : SidesView) where
  -- the unknowns of the first phase
  abbrev pub first_unknowns : List Generator
  first_unknowns = first s.problem s.left s.right

  -- the unknowns of the third phase
  abbrev pub third_unknowns : List Generator
  third_unknowns = third s.problem s.left s.right

  -- the run of the third phase ends with e
  abbrev pub ThirdEnds : List Generator → Option ℕ → End → Type 0
  ThirdEnds us budget e = PhaseEnds (last_equation s.problem) us (last_target s) budget e

  -- the answer of the third phase's run is right
  abbrev pub ThirdIsRight : List Generator → Solved → Type 0
  ThirdIsRight us solved = PhaseIsRight (last_equation s.problem) us (last_target s) solved

  -- no point separates the third phase's target from its columns
  abbrev pub HasNoThirdPoint : Type 0
  HasNoThirdPoint = (qs : List Rational) → PhaseSeparates (last_equation s.problem) third_unknowns (last_target s) qs → ⊥

  -- the run of the second phase ends with e
  abbrev pub SecondEnds : List Generator → Option ℕ → End → Type 0
  SecondEnds us budget e = PhaseEnds (size_of s.problem.space) us (negated_terms s.left) budget e

  -- the answer of the second phase's run is right
  abbrev pub SecondIsRight : List Generator → Solved → Type 0
  SecondIsRight us solved = PhaseIsRight (size_of s.problem.space) us (negated_terms s.left) solved

  -- the run of the first phase ends with e
  abbrev pub FirstEnds : List Generator → Option ℕ → End → Type 0
  FirstEnds us budget e = PhaseEnds (size_of s.problem.space) us s.right budget e

  -- the answer of the first phase's run is right
  abbrev pub FirstIsRight : List Generator → Solved → Type 0
  FirstIsRight us solved = PhaseIsRight (size_of s.problem.space) us s.right solved

  -- the point qs separates the first phase's target from its columns
  abbrev pub FirstSeparates : List Rational → Type 0
  FirstSeparates qs = PhaseSeparates (size_of s.problem.space) first_unknowns s.right qs

-- ---- the phases that end by weights: their unknowns, as the code has them, and weights of these that sum to their targets

-- the unknowns of the first phase, and weights that sum to its target
pub record FirstSums (s : SidesView) (us : List Generator) (ws : List (ℕ × Rational)) : Type 0 where
  pub unknowns : us ≡ first_unknowns s
  pub sums : PhaseSums (size_of s.problem.space) (first_unknowns s) s.right ws

-- the unknowns of the second phase, and weights that sum to its target
pub record SecondSums (s : SidesView) (us : List Generator) (ws : List (ℕ × Rational)) : Type 0 where
  pub unknowns : us ≡ generators s.problem
  pub sums : PhaseSums (size_of s.problem.space) (generators s.problem) (negated_terms s.left) ws

-- the unknowns of the third phase, and weights that sum to its target
pub record ThirdSums (s : SidesView) (us : List Generator) (ws : List (ℕ × Rational)) : Type 0 where
  pub unknowns : us ≡ third_unknowns s
  pub sums : PhaseSums (last_equation s.problem) (third_unknowns s) (last_target s) ws

-- ---- the answers that are left to be found

module _ (s : SidesView) where
  -- the answer by all phases
  abbrev pub FollowsPhases : Option ℕ → BestView → Type 0
  FollowsPhases budget o = (e : End) × FirstEnds s (first_unknowns s) budget e × FirstFollows s.problem s.left s.right budget e o

  -- the answer by the end of the first phase
  abbrev pub FollowsFirst : Option ℕ → End → BestView → Type 0
  FollowsFirst budget e o = FirstFollows s.problem s.left s.right budget e o

  -- the answer by the end of the second phase, after weights of the first
  abbrev pub FollowsSecond : Option ℕ → List (ℕ × Rational) → End → BestView → Type 0
  FollowsSecond budget ws e o = SecondFollows s.problem s.left s.right budget ws e o

  -- the answer by the third phase
  abbrev pub FollowsThird : Option ℕ → BestView → Type 0
  FollowsThird budget o = (e : End) × ThirdEnds s (third_unknowns s) budget e × ThirdFollows s.problem s.left s.right e o

  -- the second phase ends with a point
  abbrev pub HasSecondPoint : Option ℕ → Type 0
  HasSecondPoint budget = (qs : List Rational) × SecondEnds s (generators s.problem) budget (Point qs)

  -- the answer by a point of the first phase
  abbrev pub FollowsPoint : List Rational → BestView → Type 0
  FollowsPoint qs o = OrScale s.problem s.left s.right (NeverFits s.problem s.left s.right qs) (Never (map neg_ℤ (scaled_point qs))) o

  -- the answer by weights of the first phase and of the second
  abbrev pub FollowsWeights : List (ℕ × Rational) → List (ℕ × Rational) → BestView → Type 0
  FollowsWeights ws below o = OrScale s.problem s.left s.right (UnboundedFits s.problem s.left s.right ws below)
      (unbounded_view s.problem s.left s.right ws below) o

-- the numbers of the least factor are within the limit
abbrev pub FitsLeast : SidesView → List (ℕ × Rational) → Type 0
FitsLeast s ws = LeastFits s.problem s.left s.right ws

-- the least factor, by the weights of the third phase
abbrev pub least_by : SidesView → List (ℕ × Rational) → BestView
least_by s ws = least_view s.problem s.left s.right ws

-- the numbers of a factor and of both certificates are within the limit
abbrev pub FitsUnbounded : SidesView → List (ℕ × Rational) → List (ℕ × Rational) → Type 0
FitsUnbounded s ws below = UnboundedFits s.problem s.left s.right ws below

-- the factor and both certificates, by the weights of the first phase and of the second
abbrev pub unbounded_by : SidesView → List (ℕ × Rational) → List (ℕ × Rational) → BestView
unbounded_by s ws below = unbounded_view s.problem s.left s.right ws below

-- what ends the search is an answer of which P is true, where it is one
abbrev pub Settles : (BestView → Type 0) → Stop → Type 0
Settles P Memory = Unit {0}
Settles P (Answer b) = P (best_view b)

-- ---- the unknowns

-- the number of an unknown of this kind whose first column is column j
abbrev pub number_of : List (ℕ × Rational) → Kind → ℕ → Rational
number_of ws kind j = number_by (λ a b. plus a (minus b)) kind (column_weight ws) j

-- the kind of the value at a coordinate, over n variables
abbrev pub IsCoordinateKind : ℕ → ℕ → Kind → Type 0
IsCoordinateKind n c kind = (m size : ℕ) (gs : List Generator) (left right : Terms) → m ≡ n → kind ≡ (coordinate_unknown m size gs left right c).kind

-- the unknowns for the values at all coordinates
abbrev pub all_values : SidesView → List Generator
all_values s = map (coordinate_unknown s.problem.space.variables (size_of s.problem.space) (generators s.problem) s.left s.right)
    (span 1 (size_of s.problem.space))

-- the coefficients of the generators and of the sides at a coordinate
abbrev pub row_at : SidesView → ℕ → Terms
row_at s c = coordinate_row (size_of s.problem.space) (generators s.problem) s.left s.right c

-- the unknowns for the slacks of all inequalities at the point
abbrev pub all_slacks : ProblemView → List Generator
all_slacks q = slacks (size_of q.space + 1) (generators q)

-- ---- the certificates and the points

-- weights of the generators certify a factor
abbrev pub CertifyFactor : ProblemView → Terms → Terms → Rational → List Rational → Type 0
CertifyFactor q left right x ws = IsFactor (ground_of q) (value left) (value right) x.num (pos x.den) (weights_certificate (pos x.den) ws)

-- weights of the generators certify that the left side is at most 0
abbrev pub CertifyBelow : ProblemView → Terms → List Rational → Type 0
CertifyBelow q left ws = IsCertificate (size_of q.space + 1) (generators_of q) (λ p. neg_ℤ (value left p)) (weights_certificate (pos 1) ws)

-- the values of both sides at a point are formed within the limit
abbrev pub SideValuesFit : SidesView → List ℤ → Type 0
SideValuesFit s values = ValueFits s.left (point_of values) × ValueFits s.right (point_of values)

-- the values of both sides at a point
abbrev pub side_values : SidesView → List ℤ → ℤ × ℤ
side_values s values = (value s.left (point_of values), value s.right (point_of values))
