-- What the verdicts mean: each line has one and no other, and the claim of a valid one is true.
use Rattle.std.specs.Prelude.{◌≡◌, ℕ, ℤ, pos, neg_ℤ, ◌≤ℤ◌, ◌≤◌, List, length, All, Bool, get_or, Some, Ok}
use Rattle.it_space.specs.Answers.{AnswerView, CertificateView}
use Rattle.it_space.specs.Answers.AnswerView.{Yes, No, Region, Contained}
use Rattle.it_space.specs.declared.answers.Mark.{Mark}
use Rattle.it_space.specs.Rows.{Terms, point_of, value}
use Rattle.it_syntax.specs.Meaning.{Holds, RelationView}
use Rattle.it_syntax.specs.NamesViews.{NamesView}
use Rattle.it_question.specs.declared.sizes.FileLimits.{FileLimits}
use Rattle.it_question.specs.Questions.{BodyView, QuestionView, VerbView, Prove, Contain}
use Rattle.it_canon.specs.TrueLines.{variable_count, AreTrueTogether}
use Rattle.it_demand.specs.Targets.{targets}
use Rattle.it_region.specs.Regions.{LiesIn}
use Rattle.it_copy.specs.CopyLines.{CopyView}
use Rattle.it_copy.specs.Extensions.{extended}
use Rattle.it_copy.specs.Points.{HasCopies}
use Rattle.it_sharing.specs.Sharings.{SharingView}
use Rattle.it_sharing.specs.Truth.{HoldsWherePerfect, IsTrueOfSharing}
use Rattle.it_ratio.specs.BestViews.{BestView}
use Rattle.it_ratio.specs.Truth.{HoldsFor, IsTrueBest, asked_by}
use Rattle.it_spans.specs.declared.types.HullVerdict.TheVariants.{Valid as HullIsValid}
use Rattle.it_spans.specs.Spans.{rays_of}
use Rattle.it_rates.specs.Asked.{gone_rates, under_all_lines}
use Rattle.it_rates.specs.Bounds.{AreExactBounds}
use Rattle.it_certificate.specs.Bounds.{BoundsView}
use Rattle.it_certificate.specs.CodeReading.{ReportedCodeView}
use Rattle.it_codes.specs.Codes.{AreEntropies, variables_of}
use Rattle.it_certificate.specs.Reports.{Answered, Bounded, Coded, Derived, Factored, ReadsReport}
use Rattle.it_certificate.specs.Sources.{Source, Copies, Sharing, asked}
use Rattle.it_check.specs.declared.verdicts.Verdict.TheVariants.{Valid}
use Rattle.it_report.specs.declared.factors.FactorVerdict.TheVariants.{Checked}
use Rattle.it_report.specs.RowVerdicts.{place_named}
use Rattle.it_report.specs.LineVerdicts.{LineVerdict, Judged, Weighed, Hulled}
use Rattle.it_report.specs.Judging.{IsVerdict, IsJudgedLine}

-- Each line of a report has a verdict, and so a line about it.
abbrev pub EachLineIsJudged : Type 0
EachLineIsJudged = (limits : FileLimits) (k : ℕ) (line : List ℕ) → (text : List ℕ) × (invalid : Bool)
    × IsJudgedLine limits k line text invalid

-- A line has at most one verdict.
abbrev pub OneVerdict : Type 0
OneVerdict = (limits : FileLimits) (line : List ℕ) (v w : LineVerdict) → IsVerdict limits line v → IsVerdict limits line w → v ≡ w

-- What an answer to a question of this verb claims is true. A yes: the relation holds wherever a polymatroid and rates make the
-- question's lines true. A no: the values are such a place, and the target on its side is -1 or less there. A containment: the
-- first region lies in the second. Other answers claim nothing.
abbrev pub IsClaimTrueBy : BodyView → VerbView → AnswerView → Type 0
IsClaimTrueBy q (Prove r) (Yes ws) = (p : ℕ → ℤ) → AreTrueTogether q p → Holds (variable_count q) p r
IsClaimTrueBy q (Prove r) (No back values) =
    AreTrueTogether q (point_of values) × (get_or (targets (variable_count q) r) (place_named back) (λ p. pos 0) (point_of values) ≤ℤ neg_ℤ (pos 1))
IsClaimTrueBy q (Contain first second tries) (Contained parts proofs) = LiesIn q first second
IsClaimTrueBy q verb answer = Unit {0}

-- what an answer claims is true
abbrev pub IsClaimTrue : BodyView → AnswerView → Type 0
IsClaimTrue q answer = IsClaimTrueBy q q.verb answer

-- The claim of a line with the verdict `Valid` is true of the question that is asked.
abbrev pub ValidIsTrue : Type 0
ValidIsTrue = (limits : FileLimits) (line : List ℕ) (names : NamesView) (source : Source) (answer : AnswerView)
    → IsVerdict limits line (Judged names Valid) → ReadsReport limits line (Ok (Answered source answer))
    → IsClaimTrue (asked source).body answer

-- Where a valid no has a code, its relation fails at random variables: the point is such a place, and the value of each set of
-- variables is the entropy of those of the code, as many times as the line says.
abbrev pub ValidCodeIsTrue : Type 0
ValidCodeIsTrue = (limits : FileLimits) (line : List ℕ) (names : NamesView) (source : Source) (back : Bool) (values : List ℤ)
    (c : ReportedCodeView)
    → IsVerdict limits line (Judged names Valid) → ReadsReport limits line (Ok (Coded source (No back values) c))
    → IsClaimTrue (asked source).body (No back values) × (variables_of c.code ≡ length (asked source).body.names.variables) × (1 ≤ c.times) × AreEntropies c.code c.times values

-- Where a valid region has origins, each of its rows is true wherever a polymatroid and rates make all lines of the question true. It says
-- nothing of whether the rows are all.
abbrev pub ValidOriginsAreTrue : Type 0
ValidOriginsAreTrue = (limits : FileLimits) (line : List ℕ) (names : NamesView) (source : Source) (rows : List (Mark × Terms))
    (origins : List CertificateView)
    → IsVerdict limits line (Judged names Valid) → ReadsReport limits line (Ok (Derived source (Region rows) origins))
    → All (λ row. (p : ℕ → ℤ) → AreTrueTogether (under_all_lines (asked source).body) p → pos 0 ≤ℤ value row.1 p) rows

-- What a valid line says of factors is true of those of the relation that the question asks about: the least one holds wherever
-- a polymatroid and rates make the question's lines true, and no smaller one does; where there is none, none holds; where there
-- is no least one, the one that the line names and all smaller ones hold.
abbrev pub ValidFactorIsTrue : Type 0
ValidFactorIsTrue = (limits : FileLimits) (line : List ℕ) (names : NamesView) (source : Source) (best : BestView)
    → IsVerdict limits line (Weighed names (Checked Valid)) → ReadsReport limits line (Ok (Factored source best))
    → (r : RelationView) × (asked_by (asked source).body.verb ≡ Some r) × IsTrueBest (HoldsFor (asked source).body r) best

-- Of a sharing file, it is true of the factors that hold wherever the secret is shared perfectly.
abbrev pub ValidFactorIsTrueOfSharing : Type 0
ValidFactorIsTrueOfSharing = (limits : FileLimits) (line : List ℕ) (names : NamesView) (x : SharingView) (best : BestView)
    → IsVerdict limits line (Weighed names (Checked Valid)) → ReadsReport limits line (Ok (Factored (Sharing x) best))
    → IsTrueBest (HoldsWherePerfect x) best

-- With a head, a valid yes says that the relation of the text's own question holds at every polymatroid and rates that have such copies.
abbrev pub ValidIsTrueByCopies : Type 0
ValidIsTrueByCopies = (limits : FileLimits) (line : List ℕ) (names : NamesView) (q : QuestionView) (copies : List CopyView)
    (r : RelationView) (ws : List CertificateView)
    → IsVerdict limits line (Judged names Valid) → ReadsReport limits line (Ok (Answered (Copies q copies) (Yes ws)))
    → q.body.verb ≡ Prove r
    → (p : ℕ → ℤ) → HasCopies q.body (extended q.body copies) p → Holds (length q.body.names.variables) p r

-- Of a sharing file, a valid answer is true wherever the secret is shared perfectly.
abbrev pub ValidIsTrueOfSharing : Type 0
ValidIsTrueOfSharing = (limits : FileLimits) (line : List ℕ) (names : NamesView) (x : SharingView) (answer : AnswerView)
    → IsVerdict limits line (Judged names Valid) → ReadsReport limits line (Ok (Answered (Sharing x) answer)) → IsTrueOfSharing x answer

-- Valid bounds are exact: their rows, over the rates that stay, hold exactly where some whole multiple of these rates is that of a
-- polymatroid with rates at which all lines of the question are true; and their rays are such, and span what the rows allow.
abbrev pub ValidIsTrueOfBounds : Type 0
ValidIsTrueOfBounds = (limits : FileLimits) (line : List ℕ) (source : Source) (b : BoundsView) → IsVerdict limits line (Hulled HullIsValid)
    → ReadsReport limits line (Ok (Bounded source b))
    → AreExactBounds (asked source).body (gone_rates (asked source).body.verb) b.rows (rays_of b.steps)
