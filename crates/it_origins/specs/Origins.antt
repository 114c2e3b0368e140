-- Where a row of a problem comes from: the sum of constraints that equals it, up to a positive factor.
use Rattle.std.specs.Prelude.{◌≡◌, ◌≢◌, ◌≤◌, ℕ, ℤ, pos, length, All}
use Rattle.it_space.specs.Answers.{CertificateView}
use Rattle.it_problems.specs.Problems.{ProblemView}
use Rattle.it_space.specs.Rows.{Terms}
use Rattle.it_space.specs.Spaces.{size_of}
use Rattle.it_polymatroid.specs.Elementals.{elementals}
use Rattle.it_elemental.specs.Generators.{generators}
use Rattle.it_check.specs.Verdicts.{yes_verdict}
use Rattle.it_check.specs.declared.verdicts.Verdict.TheVariants.{Valid}

-- a weight, other than 0, of a constraint: the elemental inequalities of n variables come before the constraints
abbrev pub IsOfConstraint : ℕ → ℕ × ℤ → Type 0
IsOfConstraint n w = (length (elementals n) ≤ w.0) × (w.1 ≢ pos 0)

-- a valid certificate of the row that weighs constraints alone, and no elemental inequality
pub record IsOrigin (q : ProblemView) (row : Terms) (w : CertificateView) : Type 0 where
  pub valid : yes_verdict (generators q) (size_of q.space) row w ≡ Valid
  pub own : All (IsOfConstraint q.space.variables) w.weights
