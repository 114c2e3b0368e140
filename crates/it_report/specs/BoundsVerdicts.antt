-- The verdict on an outer bound: on the certificates of its rows, on the points of its rays, and on the rows as the hull of the rays.
use Rattle.std.specs.Prelude.{ℕ, Bool, true, false, if◌then◌else◌}
use Rattle.it_problems.specs.Problems.{ProblemView}
use Rattle.it_spans.specs.declared.types.HullVerdict.{HullVerdict}
use Rattle.it_spans.specs.declared.types.HullVerdict.TheVariants as hulls
use Rattle.it_spans.specs.Verdicts.{VerdictIs}
use Rattle.it_check.specs.declared.verdicts.Verdict.{Verdict}
use Rattle.it_question.specs.Questions.{BodyView}
use Rattle.it_canon.specs.QuestionDemands.{problem_of}
use Rattle.it_rates.specs.Asked.{gone_rates, kept_rates, under_all_lines}
use Rattle.it_rates.specs.Frames.{hull_frame}
use Rattle.it_certificate.specs.Bounds.{BoundsView}
use Rattle.it_report.specs.RowVerdicts.{is_valid, proofs_verdict, rays_verdict}

-- the verdict on the certificates in order, and then on the points
abbrev pub parts_verdict : ProblemView → BoundsView → Verdict
parts_verdict p b = if is_valid (proofs_verdict p b.rows b.proofs) then rays_verdict p b.steps else proofs_verdict p b.rows b.proofs

-- the verdict `parts_verdict` by the text: all lines of the question are constraints
abbrev pub bounds_verdict : BodyView → BoundsView → Verdict
bounds_verdict q b = parts_verdict (problem_of (under_all_lines q)) b

-- the most rows that one more ray may leave
abbrev pub most_rows : ℕ
most_rows = 4096

-- the verdict on the rows as the hull of the rays
abbrev pub HullVerdictIs : BodyView → BoundsView → HullVerdict → Type 0
HullVerdictIs q b verdict = VerdictIs (hull_frame most_rows q) (kept_rates q (gone_rates q.verb)) b.steps b.rows verdict

-- nothing is wrong
abbrev pub is_hull : HullVerdict → Bool
is_hull hulls.Valid = true
is_hull verdict = false
