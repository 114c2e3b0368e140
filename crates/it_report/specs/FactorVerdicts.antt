-- The verdict on what is said of factors, by the rows of both sides of the relation under a problem.
use Rattle.std.specs.Prelude.{ℕ, ◌+◌, ℤ, pos, neg_ℤ, List, length, int_lt, Option, Some, None, Result, Ok, Err, if◌then◌else◌}
use Rattle.std.specs.Ordering.{int_eq}
use Rattle.it_space.specs.Answers.{CertificateView}
use Rattle.it_problems.specs.Problems.{ProblemView}
use Rattle.it_space.specs.Rows.{Terms, point_of}
use Rattle.it_space.specs.Spaces.{size_of}
use Rattle.it_polymatroid.specs.Elementals.{elementals}
use Rattle.it_elemental.specs.Generators.{generators}
use Rattle.it_check.specs.Sums.{sum_within}
use Rattle.it_check.specs.Verdicts.{no_verdict}
use Rattle.it_check.specs.declared.verdicts.Verdict.{Verdict}
use Rattle.it_check.specs.declared.verdicts.Verdict.TheVariants.{Valid, Width}
use Rattle.it_ratio.specs.BestViews.{BestView, Least, Never, Unbounded, Undecided}
use Rattle.it_ratio.specs.Sides.{row_unless, side_row, unformed}
use Rattle.it_report.specs.RowVerdicts.{is_valid, proof_verdict}
use Rattle.it_report.specs.declared.factors.FactorVerdict.{FactorVerdict}
use Rattle.it_report.specs.declared.factors.FactorVerdict.TheVariants.{BelowOne, Checked, NotZero}

-- `judge` of the row, if it was formed; else that a number is wide at the coordinate
abbrev pub with_row : Result Terms ℕ → (Terms → FactorVerdict) → FactorVerdict
with_row (Ok row) judge = judge row
with_row (Err c) judge = Checked (Width c)

-- ---- verdicts

-- the verdict on a value that has to be 0: it is wide, 0 or another number
abbrev pub zero_verdict : ℕ → Option ℤ → FactorVerdict
zero_verdict place None = Checked (Width place)
zero_verdict place (Some x) = if int_eq x (pos 0) then Checked Valid else NotZero x

-- `verdict`, or `other` where `verdict` is valid
abbrev pub first_wrong : Verdict → FactorVerdict → FactorVerdict
first_wrong verdict other = if is_valid verdict then other else Checked verdict

-- the verdict on values: the problem is met there with `below` at -1 or less, and then `zero` is 0 there
abbrev pub tight_verdict : ProblemView → Terms → Terms → List ℤ → FactorVerdict
tight_verdict p below zero values =
    first_wrong (no_verdict (length (elementals p.space.variables)) (generators p) below (point_of values))
    (zero_verdict (length (generators p) + 1) (sum_within (pos 0) zero (point_of values)))

-- the verdict on a factor whose denominator has to be at least 1
abbrev pub from_one : ℤ → FactorVerdict → FactorVerdict
from_one den verdict = if int_lt den (pos 1) then BelowOne den else verdict

module _ (p : ProblemView) (left right : Terms) where
  -- num times the left row less den times the right one
  abbrev pub row_of : ℤ → ℤ → Result Terms ℕ
  row_of num den = row_unless (unformed (size_of p.space) num den left right) (side_row (size_of p.space) num den left right)

  -- the least factor: its certificate, and a point at which the left side is at least 1 and the factor just holds
  abbrev pub least_verdict : ℤ → ℤ → CertificateView → List ℤ → FactorVerdict
  least_verdict num den proof values = from_one den (with_row (row_of num den) (λ factor. with_row (row_of (neg_ℤ (pos 1)) (pos 0)) (λ negated.
      first_wrong (proof_verdict p factor proof) (tight_verdict p negated factor values))))

  -- no factor: a point at which the right side is at least 1 and the left one 0
  abbrev pub never_verdict : List ℤ → FactorVerdict
  never_verdict values = with_row (row_of (pos 0) (pos 1)) (λ negated. tight_verdict p negated left values)

  -- no least factor: a factor's certificate, and one that the left side is at most 0
  abbrev pub unbounded_verdict : ℤ → ℤ → CertificateView → CertificateView → FactorVerdict
  unbounded_verdict num den proof below = from_one den (with_row (row_of num den) (λ factor. with_row (row_of (neg_ℤ (pos 1)) (pos 0)) (λ negated.
      first_wrong (proof_verdict p factor proof) (Checked (proof_verdict p negated below)))))

  -- the verdict, where something is claimed
  abbrev pub best_verdict : BestView → Option FactorVerdict
  best_verdict (Least num den proof values) = Some (least_verdict num den proof values)
  best_verdict (Never values) = Some (never_verdict values)
  best_verdict (Unbounded num den proof below) = Some (unbounded_verdict num den proof below)
  best_verdict (Undecided cause) = None
