-- No public clause cites this module: the lines of faults and of answers, of which the line about a report's line is one, and the
-- coordinates that verdicts name.
use Rattle.std.specs.Prelude.{ℕ, ◌<◌, List, map, Bool}
use Rattle.it_space.specs.Answers.{AnswerView, CertificateView, answer_view, certificate_view}
use Rattle.it_question.specs.Questions.{BodyView, VerbView, Prove, Eliminate, Contain}
use Rattle.it_certificate.specs.declared.keys.ReportFault.{ReportFault}
use Rattle.it_certificate.specs.declared.keys.ReportFault.TheVariants as faults
use Rattle.it_certificate.specs.declared.types.Reported.{Reported}
use Rattle.it_certificate.specs.declared.types.Reported.TheVariants as reported
use Rattle.it_certificate.specs.Bounds.{BoundsView, bounds_view}
use Rattle.it_certificate.specs.CodeReading.{ReportedCodeView}
use Rattle.it_check.specs.declared.verdicts.Verdict.{Verdict}
use Rattle.it_check.specs.declared.verdicts.Verdict.TheVariants.{Mismatch}
use Rattle.it_report.specs.LineVerdicts.{LineVerdict, NotJson, Shape, Skipped, IsLineOf}
use Rattle.it_ratio.specs.BestViews.{best_view}
use Rattle.it_report.specs.Judging.{IsAnswerVerdict, IsBoundsVerdict, IsCodedVerdict, IsDerivedVerdict, factor_line_verdict}

-- the question is about a relation
abbrev pub IsAboutRelation : VerbView → Type 0
IsAboutRelation (Prove r) = Unit {0}
IsAboutRelation (Eliminate rates) = ⊥
IsAboutRelation (Contain first second tries) = ⊥

-- the line about a line that has no reading
abbrev pub IsFaultLine : ℕ → ReportFault → List ℕ → Bool → Type 0
IsFaultLine k faults.Memory text invalid = ⊥
IsFaultLine k faults.NotJson text invalid = IsLineOf k NotJson text invalid
IsFaultLine k (faults.Shape key) text invalid = IsLineOf k (Shape key) text invalid

-- the line about an answer to a question
pub record IsJudgedAnswer (k : ℕ) (q : BodyView) (answer : AnswerView) (text : List ℕ) (invalid : Bool) : Type 0 where
  pub verdict : LineVerdict
  pub is : IsAnswerVerdict q answer verdict
  pub told : IsLineOf k verdict text invalid

-- the line about a no with a code
pub record IsJudgedCoded (k : ℕ) (q : BodyView) (answer : AnswerView) (c : ReportedCodeView) (text : List ℕ) (invalid : Bool) : Type 0 where
  pub verdict : LineVerdict
  pub is : IsCodedVerdict q answer c verdict
  pub told : IsLineOf k verdict text invalid

-- the line about a region with origins
pub record IsJudgedDerived (k : ℕ) (q : BodyView) (answer : AnswerView) (origins : List CertificateView) (text : List ℕ) (invalid : Bool) : Type 0 where
  pub verdict : LineVerdict
  pub is : IsDerivedVerdict q answer origins verdict
  pub told : IsLineOf k verdict text invalid

-- the line about an outer bound
pub record IsJudgedBounds (k : ℕ) (q : BodyView) (b : BoundsView) (text : List ℕ) (invalid : Bool) : Type 0 where
  pub verdict : LineVerdict
  pub is : IsBoundsVerdict q b verdict
  pub told : IsLineOf k verdict text invalid

-- the line about what was read
abbrev pub IsJudgedReport : ℕ → Reported → List ℕ → Bool → Type 0
IsJudgedReport k (reported.Answered question answer) text invalid = IsJudgedAnswer k question.body (answer_view answer) text invalid
IsJudgedReport k (reported.Coded question answer code) text invalid = IsJudgedCoded k question.body (answer_view answer) code text invalid
IsJudgedReport k (reported.Derived question answer origins) text invalid = IsJudgedDerived k question.body (answer_view answer) (map certificate_view origins.items) text invalid
IsJudgedReport k (reported.Factored question best) text invalid = IsLineOf k (factor_line_verdict question.body (best_view best)) text invalid
IsJudgedReport k (reported.Bounded question bounds) text invalid = IsJudgedBounds k question.body (bounds_view bounds) text invalid
IsJudgedReport k reported.Misfit text invalid = IsLineOf k Skipped text invalid

-- the coordinate of a verdict, where it has one, is below a bound
abbrev pub IsVerdictOver : ℕ → Verdict → Type 0
IsVerdictOver bound (Mismatch c left right) = c < bound
IsVerdictOver bound _ = Unit {0}
