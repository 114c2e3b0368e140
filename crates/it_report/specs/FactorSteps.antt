-- No public clause cites this module: the verdicts by the rows of both sides.
use Rattle.std.specs.Prelude.{◌≡◌, ℕ, length, Result, Ok, Err}
use Rattle.it_space.specs.Rows.{Terms, IsOver}
use Rattle.it_space.specs.Spaces.{size_of}
use Rattle.it_problems.specs.Problems.{ProblemView, IsProblem}
use Rattle.it_ratio.specs.declared.sides.RowStop.{RowStop}
use Rattle.it_ratio.specs.declared.sides.RowStop.TheVariants as stops
use Rattle.it_ratio.specs.BestViews.{BestView, Least, Never}
use Rattle.it_report.specs.declared.factors.FactorVerdict.{FactorVerdict}
use Rattle.it_report.specs.declared.factors.FactorVerdict.TheVariants.{Checked}
use Rattle.it_check.specs.declared.verdicts.Verdict.TheVariants.{Width}
use Rattle.it_report.specs.Steps.{IsVerdictOver}

-- the verdict of a caller that forms rows is the verdict by the definition; nothing is said where allocation fails
abbrev pub Gives : Result FactorVerdict RowStop → FactorVerdict → Type 0
Gives (Ok v) verdict = v ≡ verdict
Gives (Err stops.Memory) verdict = Unit {0}
Gives (Err (stops.Wide c)) verdict = Checked (Width c) ≡ verdict

-- the rows of both sides are of the problem's space
pub record AreSideRows (p : ProblemView) (left right : Terms) : Type 0 where
  pub problem : IsProblem p
  pub left_over : IsOver (size_of p.space) left
  pub right_over : IsOver (size_of p.space) right

-- the values of what is found are complete
abbrev pub IsComplete : ℕ → BestView → Type 0
IsComplete size (Least num den proof values) = length values ≡ size
IsComplete size (Never values) = length values ≡ size
IsComplete size best = Unit {0}

-- the coordinate of a verdict, where it has one, is below a bound
abbrev pub IsFactorVerdictOver : ℕ → FactorVerdict → Type 0
IsFactorVerdictOver bound (Checked verdict) = IsVerdictOver bound verdict
IsFactorVerdictOver bound verdict = Unit {0}
