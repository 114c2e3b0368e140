-- The verdict on each line of a report: what its answer says of its question, against the problem that the question poses and the
-- rows of the forms that the answer speaks of.
use Rattle.std.specs.Prelude.{◌≡◌, ℕ, ℤ, List, [], map, Bool, false, Option, Some, None, option_and_then, Result, Ok, Err, IsUtf8}
use Rattle.serde_json.specs.Read.{read}
use Rattle.it_space.specs.Answers.{AnswerView, CertificateView}
use Rattle.it_space.specs.Answers.AnswerView.{Yes, No, Contained}
use Rattle.it_problems.specs.Problems.{ProblemView}
use Rattle.it_space.specs.Rows.{Terms}
use Rattle.it_question.specs.declared.sizes.FileLimits.{FileLimits}
use Rattle.it_question.specs.Questions.{BodyView}
use Rattle.it_question.specs.ProblemLines.{problem_names}
use Rattle.it_syntax.specs.Meaning.{RelationView}
use Rattle.it_canon.specs.QuestionDemands.{problem_of, terms_in}
use Rattle.it_canon.specs.Sides.{left_form, right_form}
use Rattle.it_canon.specs.TrueLines.{variable_count}
use Rattle.it_ratio.specs.BestViews.{BestView}
use Rattle.it_ratio.specs.Truth.{asked_by}
use Rattle.it_region.specs.AnswerForms.{answer_forms}
use Rattle.it_certificate.specs.OriginReading.{rows_of}
use Rattle.it_certificate.specs.declared.keys.ReportFault.{ReportFault}
use Rattle.it_certificate.specs.declared.types.Reported.{Reported}
use Rattle.it_certificate.specs.Reports.{Answered, Coded, Derived, Factored, Bounded, Misfit, ReadsReport, Reading, Reports}
use Rattle.it_certificate.specs.Bounds.{BoundsView}
use Rattle.it_certificate.specs.CodeReading.{ReportedCodeView}
use Rattle.it_codes.specs.Codes.{AreEntropies, IsFirstOther}
use Rattle.it_rates.specs.Asked.{under_all_lines}
use Rattle.it_certificate.specs.Sources.{asked}
use Rattle.it_check.specs.declared.verdicts.Verdict.{Verdict}
use Rattle.it_check.specs.declared.verdicts.Verdict.TheVariants.{Valid}
use Rattle.it_report.specs.BoundsVerdicts.{HullVerdictIs, bounds_verdict}
use Rattle.it_report.specs.RowVerdicts.{is_valid, proofs_verdict, point_verdict}
use Rattle.it_report.specs.declared.factors.FactorVerdict.{FactorVerdict}
use Rattle.it_report.specs.FactorVerdicts.{best_verdict}
use Rattle.it_report.specs.LineVerdicts.{LineVerdict, NotJson, Shape, Skipped, Judged, Weighed, OtherCode, Hulled, IsLineOf}

-- the verdict on an answer, by the problem and the rows of these forms; where it claims something of all polymatroids, or of one
abbrev pub answer_verdict : ProblemView → List Terms → AnswerView → Option Verdict
answer_verdict p ts (Yes ws) = Some (proofs_verdict p ts ws)
answer_verdict p ts (No back values) = Some (point_verdict p ts back values)
answer_verdict p ts (Contained parts proofs) = Some (proofs_verdict p ts proofs)
answer_verdict p ts answer = None

-- the verdict on an answer to the question, by the problem that this poses
abbrev pub verdict_of : BodyView → AnswerView → Option Verdict
verdict_of q answer = answer_verdict (problem_of q) (map (terms_in q) (answer_forms q answer)) answer

-- the line verdict on an answer: it isn't judged, or its verdict with the names of the problem, of a containment those of its
-- first region's problem
abbrev pub IsAnswerVerdict : BodyView → AnswerView → LineVerdict → Type 0
IsAnswerVerdict q answer Skipped = verdict_of q answer ≡ None
IsAnswerVerdict q answer (Judged names v) = (names ≡ problem_names q) × (verdict_of q answer ≡ Some v)
IsAnswerVerdict q answer verdict = ⊥

-- ---- of factors

-- the verdict on what is found of a relation's factors, by the rows of its sides under the problem that the question poses
abbrev pub factor_verdict_of : BodyView → RelationView → BestView → Option FactorVerdict
factor_verdict_of q r best = best_verdict (problem_of q) (terms_in q (left_form (variable_count q) r)) (terms_in q (right_form (variable_count q) r)) best

-- the line verdict by a verdict on factors, with the names of the problem; `Skipped` where there is none
abbrev pub weighed_by : BodyView → Option FactorVerdict → LineVerdict
weighed_by q None = Skipped
weighed_by q (Some v) = Weighed (problem_names q) v

-- the line verdict on what is found of the factors of the relation that a question asks about
abbrev pub factor_line_verdict : BodyView → BestView → LineVerdict
factor_line_verdict q best = weighed_by q (option_and_then (λ r. factor_verdict_of q r best) (asked_by q.verb))

-- ---- of codes

-- the values of the point of a no
abbrev pub values_of : AnswerView → List ℤ
values_of (No back values) = values
values_of answer = []

-- the line verdict on a no with a code: the verdict on the no; where that is valid, the first set, if any, whose value isn't
-- the code's entropy in units of the point
abbrev pub IsCodedVerdict : BodyView → AnswerView → ReportedCodeView → LineVerdict → Type 0
IsCodedVerdict q answer c (Judged names v) = (names ≡ problem_names q) × (verdict_of q answer ≡ Some v) × (v ≡ Valid → AreEntropies c.code c.times (values_of answer))
IsCodedVerdict q answer c (OtherCode names s) = (names ≡ problem_names q) × (verdict_of q answer ≡ Some Valid) × IsFirstOther c.code c.times (values_of answer) s
IsCodedVerdict q answer c verdict = ⊥

-- ---- of origins

-- the line verdict on a region with a certificate for each of its rows: the verdict on these, where all lines of the question
-- are constraints
abbrev pub IsDerivedVerdict : BodyView → AnswerView → List CertificateView → LineVerdict → Type 0
IsDerivedVerdict q answer origins verdict = verdict ≡ Judged q.names (proofs_verdict (problem_of (under_all_lines q)) (rows_of answer) origins)

-- ---- of bounds

-- the line verdict on an outer bound: what is wrong with a certificate or a point, with the names of the question; where
-- nothing is, the verdict on its rows as the hull of its rays
abbrev pub IsBoundsVerdict : BodyView → BoundsView → LineVerdict → Type 0
IsBoundsVerdict q b (Judged names v) = (names ≡ q.names) × (bounds_verdict q b ≡ v) × (is_valid v ≡ false)
IsBoundsVerdict q b (Hulled v) = (bounds_verdict q b ≡ Valid) × HullVerdictIs q b v
IsBoundsVerdict q b verdict = ⊥

-- ---- of lines

-- the line verdict on what a line says: on an answer to the question that is asked, on a no with its code, on a region with its
-- origins, on what is found of its factors, or on its bounds; a misfit isn't judged
abbrev pub IsReadingVerdict : Reading → LineVerdict → Type 0
IsReadingVerdict (Answered source answer) v = IsAnswerVerdict (asked source).body answer v
IsReadingVerdict (Coded source answer c) v = IsCodedVerdict (asked source).body answer c v
IsReadingVerdict (Derived source answer origins) v = IsDerivedVerdict (asked source).body answer origins v
IsReadingVerdict (Factored source best) v = v ≡ factor_line_verdict (asked source).body best
IsReadingVerdict (Bounded source b) v = IsBoundsVerdict (asked source).body b v
IsReadingVerdict Misfit v = v ≡ Skipped

-- the line has a reading within these limits, and this is the verdict on it
pub record HasReading (limits : FileLimits) (line : List ℕ) (v : LineVerdict) : Type 0 where
  pub reading : Reading
  pub reads : ReadsReport limits line (Ok reading)
  pub verdict : IsReadingVerdict reading v

-- the verdict on a line, within these limits: it is no JSON; this key is the first that is missing or of another shape; or the line has a reading
-- with this verdict
abbrev pub IsVerdict : FileLimits → List ℕ → LineVerdict → Type 0
IsVerdict limits line NotJson = IsUtf8 line → read line ≡ None
IsVerdict limits line (Shape key) = ReadsReport limits line (Err key)
IsVerdict limits line verdict = HasReading limits line verdict

-- the text is the line of the verdict on line `k` of a report, within these limits, and `invalid` says whether that is an invalid one
pub record IsJudgedLine (limits : FileLimits) (k : ℕ) (line text : List ℕ) (invalid : Bool) : Type 0 where
  pub verdict : LineVerdict
  pub is : IsVerdict limits line verdict
  pub told : IsLineOf k verdict text invalid

-- the text and `invalid` are those of each line that reads so, or that has this fault, whatever the limits are
abbrev pub IsJudgedWhereRead : ℕ → Result Reported ReportFault → List ℕ → Bool → Type 0
IsJudgedWhereRead k read text invalid = (limits : FileLimits) (line : List ℕ) → Reports limits line read
    → IsJudgedLine limits k line text invalid
