-- The end of the search for the best factor: by the ends of the three phases' runs, each made exactly if the phases before it don't
-- decide the answer, and by the numbers of the scaled answer.
use Rattle.std.specs.Prelude.{◌≡◌, ◌⊎◌, ℕ, ◌+◌, ◌*◌, ◌<◌, ℤ, pos, neg_ℤ, ◌*ℤ◌, List, length, map, take, drop, slice_index_or, All, Option}
use Rattle.it_number.specs.Limit.{IsWithin}
use Rattle.it_rational.specs.Rational.{Rational, integer}
use Rattle.it_problems.specs.Problems.{ProblemView}
use Rattle.it_space.specs.Rows.{Terms, ValueFits, value, point_of, negated_terms}
use Rattle.it_space.specs.Spaces.{size_of}
use Rattle.it_polymatroid.specs.Elementals.{span}
use Rattle.it_run.specs.Runs.{RunEndView}
use Rattle.it_run.specs.Runs.RunEndView.{Weights, Point, Pivots, Width}
use Rattle.it_simplex.specs.Answers.{Solves}
use Rattle.it_elemental.specs.Generators.{Generator, generators}
use Rattle.it_check.specs.Meaning.{CertificateFits}
use Rattle.it_columns.specs.Columns.{columns}
use Rattle.it_columns.specs.Scaling.{NumbersFit, scaled_point}
use Rattle.it_ratio.specs.declared.types.BestCause.TheVariants as causes
use Rattle.it_ratio.specs.declared.types.BestCause.TheVariants.{Scale, Size}
use Rattle.it_ratio.specs.Sides.{SideFits, side_row}
use Rattle.it_ratio.specs.BestViews.{BestView, Least, Never, Unbounded, Undecided}
use Rattle.it_best.specs.Numbers.{DifferencesFit, WeightsFit, column_weight, numbers, weights_certificate}
use Rattle.it_best.specs.Phases.{first_phase, third_phase, third_target, right_equation}

-- ---- the size

-- the number of equations of the third phase
abbrev pub third_rows : ProblemView → ℕ
third_rows q = size_of q.space + length (generators q) + 2

-- the number of columns of the third phase: two of the factor; two of each generator, since an equation's weight has two, and an
-- inequality's weight and its slack one each; one of each set and two of each rate; and the artificial ones
abbrev pub third_columns : ProblemView → ℕ
third_columns q = 2 + 2 * length (generators q) + size_of q.space + q.space.rates + third_rows q

-- the table of the third phase's start has more than 4,000,000 entries
abbrev pub IsLarge : ProblemView → Type 0
IsLarge q = 4000000 < third_rows q * third_columns q

-- ---- the scaled answers

-- the row of a factor's numerator times the left side less its denominator times the right one, over size coordinates
abbrev pub factor_row : ℕ → Terms → Terms → Rational → Terms
factor_row size left right factor = side_row size factor.num (pos factor.den) left right

-- the coefficients of that row are formed within the limit
abbrev pub RowFits : ℕ → Terms → Terms → Rational → Type 0
RowFits size left right factor = SideFits size factor.num (pos factor.den) left right

-- the numbers of a row's certificate by weights times den are within the limit: the scaled weights, and those that the check forms
pub record ProofFits (q : ProblemView) (row : Terms) (den : ℤ) (weights : List Rational) : Type 0 where
  pub scaled : WeightsFit den weights
  pub check : CertificateFits q row (weights_certificate den weights)

-- the numbers of a factor's row and of its certificate are within the limit
pub record FactorFits (q : ProblemView) (left right : Terms) (factor : Rational) (weights : List Rational) : Type 0 where
  pub row : RowFits (size_of q.space) left right factor
  pub proof : ProofFits q (factor_row (size_of q.space) left right factor) (pos factor.den) weights

-- the values of each generator and of both sides at a point are formed within the limit
pub record SidesFit (q : ProblemView) (left right : Terms) (values : List ℤ) : Type 0 where
  pub each : All (λ g. ValueFits g.row (point_of values)) (generators q)
  pub left_value : ValueFits left (point_of values)
  pub right_value : ValueFits right (point_of values)

-- the numbers of the point at which a factor holds with equality are within the limit: the scaled values, those that the check forms,
-- and the products of the sides' values with the numerator and the denominator
pub record LeastPointFits (q : ProblemView) (left right : Terms) (factor : Rational) (qs : List Rational) : Type 0 where
  pub scaled : NumbersFit qs
  pub values : SidesFit q left right (scaled_point qs)
  pub left_times : IsWithin (factor.num *ℤ value left (point_of (scaled_point qs)))
  pub right_times : IsWithin (pos factor.den *ℤ value right (point_of (scaled_point qs)))

-- ---- the phases

-- the run of a phase ends with e: whether the unknowns us can sum to the target, over m equations
abbrev pub PhaseEnds : ℕ → List Generator → Terms → Option ℕ → RunEndView (List (ℕ × Rational)) (List Rational) → Type 0
PhaseEnds m us target budget e = Solves (span 1 m) (columns us) target budget e

module _ (q : ProblemView) (left right : Terms) where
  -- the number of coordinates
  abbrev pub size : ℕ
  size = size_of q.space

  -- the unknowns of the first phase
  abbrev pub first : List Generator
  first = first_phase (generators q) left

  -- the unknowns of the third phase
  abbrev pub third : List Generator
  third = third_phase q.space.variables size (generators q) left right

  -- the factor, which is the first number, by the weights of the first phase or of the third
  abbrev pub factor_by : List Generator → List (ℕ × Rational) → Rational
  factor_by unknowns ws = slice_index_or (numbers unknowns ws) 0 (integer (pos 0))

  -- the weights of the factor's certificate, which come next
  abbrev pub weights_by : List Generator → List (ℕ × Rational) → List Rational
  weights_by unknowns ws = take (length (generators q)) (drop 1 (numbers unknowns ws))

  -- the values of the point, which come after the weights
  abbrev pub third_values : List (ℕ × Rational) → List Rational
  third_values ws = take size (drop (length (generators q)) (drop 1 (numbers third ws)))

  -- the numbers of the least factor are within the limit
  pub record LeastFits (ws : List (ℕ × Rational)) : Type 0 where
    pub differences : DifferencesFit 0 third (column_weight ws)
    pub factor : FactorFits q left right (factor_by third ws) (weights_by third ws)
    pub point : LeastPointFits q left right (factor_by third ws) (third_values ws)

  -- the least factor, its certificate and its point
  abbrev pub least_view : List (ℕ × Rational) → BestView
  least_view ws = Least (factor_by third ws).num (pos (factor_by third ws).den)
      (weights_certificate (pos (factor_by third ws).den) (weights_by third ws)) (scaled_point (third_values ws))

  -- the numbers of a factor and of both certificates are within the limit
  pub record UnboundedFits (ws below : List (ℕ × Rational)) : Type 0 where
    pub differences : DifferencesFit 0 first (column_weight ws)
    pub factor : FactorFits q left right (factor_by first ws) (weights_by first ws)
    pub below_differences : DifferencesFit 0 (generators q) (column_weight below)
    pub below_proof : ProofFits q (negated_terms left) (pos 1) (numbers (generators q) below)

  -- the factor and both certificates, by the weights of the first phase and of the second
  abbrev pub unbounded_view : List (ℕ × Rational) → List (ℕ × Rational) → BestView
  unbounded_view ws below = Unbounded (factor_by first ws).num (pos (factor_by first ws).den) (weights_certificate (pos (factor_by first ws).den) (weights_by first ws)) (weights_certificate (pos 1) (numbers (generators q) below))

  -- the numbers of the point at which no factor holds, the negated scaled values of the first phase's, are within the limit
  pub record NeverFits (qs : List Rational) : Type 0 where
    pub point : NumbersFit qs
    pub values : SidesFit q left right (map neg_ℤ (scaled_point qs))

  -- o is answer if its numbers are within the limit, else `Undecided` with cause `Scale`
  abbrev pub OrScale : Type 0 → BestView → BestView → Type 0
  OrScale Fits answer o = (Fits × (o ≡ answer)) ⊎ (¬ Fits × (o ≡ Undecided Scale))

  -- the answer by the end of the third phase, which is never a point
  abbrev pub ThirdFollows : RunEndView (List (ℕ × Rational)) (List Rational) → BestView → Type 0
  ThirdFollows (Weights ws) o = OrScale (LeastFits ws) (least_view ws) o
  ThirdFollows (Point qs) o = ⊥
  ThirdFollows (Pivots k) o = o ≡ Undecided (causes.Pivots k 3)
  ThirdFollows (Width k) o = o ≡ Undecided (causes.Width k 3)

  -- the answer by the end of the second phase, after the first one ended by weights
  abbrev pub SecondFollows : Option ℕ → List (ℕ × Rational) → RunEndView (List (ℕ × Rational)) (List Rational) → BestView → Type 0
  SecondFollows budget ws (Weights below) o = OrScale (UnboundedFits ws below) (unbounded_view ws below) o
  SecondFollows budget ws (Point qs) o = (e : RunEndView (List (ℕ × Rational)) (List Rational)) × PhaseEnds (right_equation size (generators q)) third (third_target size (generators q) right) budget e × ThirdFollows e o
  SecondFollows budget ws (Pivots k) o = o ≡ Undecided (causes.Pivots k 2)
  SecondFollows budget ws (Width k) o = o ≡ Undecided (causes.Width k 2)

  -- the answer by the end of the first phase
  abbrev pub FirstFollows : Option ℕ → RunEndView (List (ℕ × Rational)) (List Rational) → BestView → Type 0
  FirstFollows budget (Weights ws) o = (e : RunEndView (List (ℕ × Rational)) (List Rational)) × PhaseEnds size (generators q) (negated_terms left) budget e × SecondFollows budget ws e o
  FirstFollows budget (Point qs) o = OrScale (NeverFits qs) (Never (map neg_ℤ (scaled_point qs))) o
  FirstFollows budget (Pivots k) o = o ≡ Undecided (causes.Pivots k 1)
  FirstFollows budget (Width k) o = o ≡ Undecided (causes.Width k 1)

  -- the answer, with a budget of steps for each phase or without one
  abbrev pub EndsWith : Option ℕ → BestView → Type 0
  EndsWith budget o = (IsLarge q × (o ≡ Undecided Size))
      ⊎ (¬ IsLarge q × ((e : RunEndView (List (ℕ × Rational)) (List Rational)) × PhaseEnds size first right budget e × FirstFollows budget e o))
