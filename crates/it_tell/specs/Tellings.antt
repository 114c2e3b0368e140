-- What is told of a line of a report: the verdict's own line where that is invalid, else the first line of its answer and below
-- it, line by line, the answer's rows, its proofs, with their steps where these are asked for, or its point, with its code if
-- it has one. Where the style isn't plain, rows are sorted, and a containment's obligations stand under their lines of the
-- second region.
use Rattle.std.specs.Prelude.{◌≡◌, ℕ, ℤ, List, [], ◌++◌, length, Bool, true, false, ◌⊎◌, Ok, codes, decimal, pos, ◌≤ℤ◌, if◌then◌else◌, ◌==◌, Option, Some, None}
use Rattle.std.specs.Fmt.{signed_decimal}
use Rattle.std.specs.List.{flat_map, zip}
use Rattle.it_question.specs.QuestionLimits.{widest}
use Rattle.it_outside.specs.Groups.{Groups}
use Rattle.it_space.specs.declared.answers.Mark.{Mark}
use Rattle.it_space.specs.declared.answers.Mark.TheVariants.{Plain, Needed, Unsettled}
use Rattle.it_problems.specs.declared.problems.Kind.TheVariants.{Inequality}
use Rattle.it_problems.specs.declared.problems.Origin.{Origin}
use Rattle.it_space.specs.Answers.{AnswerView, CertificateView}
use Rattle.it_space.specs.Answers.AnswerView.{Yes, No, Undecided, Region, Contained, Open}
use Rattle.it_space.specs.Rows.{Terms}
use Rattle.it_polymatroid.specs.Certificates.{Form}
use Rattle.it_polymatroid.specs.Polymatroid.{IsPolymatroid}
use Rattle.it_syntax.specs.NamesViews.{NamesView}
use Rattle.it_question.specs.Questions.{BodyView}
use Rattle.it_question.specs.ProblemLines.{problem_names}
use Rattle.it_certificate.specs.Bounds.{BoundsView}
use Rattle.it_certificate.specs.CodeReading.{ReportedCodeView}
use Rattle.it_certificate.specs.Reports as reports
use Rattle.it_certificate.specs.Reports.{ReadsReport}
use Rattle.it_certificate.specs.Sources.{Source, asked}
use Rattle.it_print.specs.Lines.{certificate_text, contained_line, open_line, row_text, undecided_line, values_text, variable_names}
use Rattle.it_ratio.specs.BestViews.{BestView, Least, Never, Unbounded, BestView as bests}
use Rattle.it_terms.specs.RowOrigins.{ComesFrom, row_comment}
use Rattle.it_terms.specs.RowsUnder.{IsPrintedRow}
use Rattle.it_terms.specs.Tells.{TellsForms, TellsRow}
use Rattle.it_terms.specs.Proofs.{TellsForm}
use Rattle.it_terms.specs.FunctionProofs.{TellsFormUnder, by_comment}
use Rattle.it_facts.specs.Points.{TellsPoint}
use Rattle.it_terms.specs.ProofSteps.{TellsSteps}
use Rattle.it_terms.specs.StepsUnder.{TellsStepsUnder}
use Rattle.it_report.specs.Judging.{IsVerdict}
use Rattle.it_rates.specs.Asked.{under_all_lines}
use Rattle.it_region.specs.AnswerForms.{answer_forms}
use Rattle.it_report.specs.LineVerdicts.{LineVerdict, is_invalid, numbered_line, verdict_line}
use Rattle.it_canon.specs.QuestionDemands.{question_origins}
use Rattle.it_canon.specs.TrueLines.{variable_count}
use Rattle.it_tell.specs.Alike.{TellsAlike}
use Rattle.it_tell.specs.OwnLines.{OwnLine, own_line_comment, own_lines}
use Rattle.it_tell.specs.Settings.{is_plain}
use Rattle.it_tell.specs.SortedRows.{rows_by_rates}
use Rattle.it_tell.specs.CodeTexts.{code_text}
use Rattle.it_tell.specs.declared.settings.Options.{Options}
use Rattle.it_tell.specs.declared.settings.Style.{Style}
use Rattle.it_tell.specs.declared.settings.Style.TheVariants.{Plain, Named, Whole}

-- ---- the lines below an answer's first one

-- a text as a line below an answer's first one
unfoldable pub indented_line : List ℕ → List ℕ
indented_line text = codes "  " ++ text ++ codes "\n"

-- a text as a line below that of a proof
unfoldable pub step_line : List ℕ → List ℕ
step_line text = codes "    " ++ text ++ codes "\n"

-- `out` is, item by item in order, what tells the item, as `shown` shows it
abbrev pub Each : {X A : Type 0} → (A → List ℕ) → (X → A → Type 0) → List X → List ℕ → Type 0
Each {X} {A} shown tells items out = Groups (λ (s : Unit {0}) (x : X) (a : A). tells x a) (λ (s : Unit {0}) (x : X) (a : A). s) (λ (k : ℕ) (x : X) (a : A). shown a) 1 tt items tt out

-- a row told by one that is equal to it where the functions hold that these lines of the question say; never where the style is
-- plain
abbrev pub IsStyledRow : BodyView → Style → Terms → List ℕ → List ℕ → Type 0
IsStyledRow q style row lines text = (is_plain style ≡ false) × IsPrintedRow q row lines text

-- a row in the question's own terms for all maps, or as reports have it and said to be that
abbrev pub IsPlainRow : BodyView → Terms → List ℕ → Type 0
IsPlainRow q row text = TellsRow (problem_names q) row text ⊎ (text ≡ codes "as row " ++ row_text (problem_names q) Inequality row)

-- a row told where the functions of these lines hold, or without lines
unfoldable pub IsRowText : BodyView → Style → Terms → List ℕ → List ℕ → Type 0
IsRowText q style row lines text = IsStyledRow q style row lines text ⊎ ((lines ≡ []) × IsPlainRow q row text)

-- the weights of lines of the question from which a row comes, or none; a plain row has none
abbrev pub IsRowOrigin : BodyView → Style → Terms → List (ℕ × ℤ) → Type 0
IsRowOrigin q style row weights = (weights ≡ []) ⊎ ((is_plain style ≡ false) × ComesFrom q row weights)

-- the comment that gives a row's mark, nothing where the row is needed
abbrev pub mark_comment : Mark → List ℕ
mark_comment Plain = codes "  # plain"
mark_comment Needed = []
mark_comment Unsettled = codes "  # unsettled"

-- A row of a region. Behind it comments name the lines that it comes from and those by which it is told, and say its mark.
pub record IsMarkedRowText (q : BodyView) (style : Style) (row : Mark × Terms) (text : List ℕ) : Type 0 where
  pub own : List ℕ
  pub lines : List ℕ
  pub weights : List (ℕ × ℤ)
  pub tells : IsRowText q style row.1 lines own
  pub origin : IsRowOrigin q style row.1 weights
  pub is : text ≡ own ++ row_comment (question_origins (under_all_lines q)) weights lines ++ mark_comment row.0

-- the rows of a region in the order in which they are told: their own where the style is plain
abbrev pub told_rows : Style → ℕ → List (Mark × Terms) → List (Mark × Terms)
told_rows style n rows = if is_plain style then rows else rows_by_rates n rows

-- the weights of a certificate as answers have them, and said to be that
abbrev pub weights_text : BodyView → List Origin → CertificateView → List ℕ
weights_text q origins w = codes "as weights " ++ certificate_text (variable_names q) origins w

-- whether a proof of this style may have constraints of these weights by name
abbrev pub MayName : Style → List (ℕ × ℤ) → Type 0
MayName Plain named = ⊥
MayName Named named = Unit {0}
MayName Whole named = named ≡ []

-- a proof of a form in the question's own terms, true of every map, or the weights as answers have them
unfoldable pub IsProofText : BodyView → Form × CertificateView → List ℕ → Type 0
IsProofText q proof text = TellsForm q proof.0 text ⊎ (text ≡ weights_text q (question_origins q) proof.1)

-- a point by facts that determine it, or said to be as answers have it: some of its values and maps under which the others are like these,
-- or all its values
unfoldable pub IsPointText : NamesView → List ℤ → List ℕ → Type 0
IsPointText v values text = TellsPoint v values text ⊎ (TellsAlike v values text ⊎ (text ≡ codes "as point " ++ values_text v values))

-- the text of a proof, and those of its steps
pub record ProofTexts : Type 0 where
  pub proof : List ℕ
  pub steps : List (List ℕ)

-- the lines of a proof and its steps
unfoldable pub proof_lines : ProofTexts → List ℕ
proof_lines t = indented_line t.proof ++ flat_map step_line t.steps

-- no steps of a proof, or its steps where they are asked for
abbrev pub AreProofSteps : BodyView → Options → List ℕ → List (List ℕ) → Type 0
AreProofSteps q options proof steps = (steps ≡ []) ⊎ ((options.steps ≡ true) × TellsSteps (problem_names q) proof steps)

-- no steps, or, where steps are asked for, those of a proof where the functions hold that `lines` say
abbrev pub ArePrintedSteps : BodyView → Options → List ℕ → List (ℕ × ℤ) → List ℕ → List (List ℕ) → Type 0
ArePrintedSteps q options lines named proof steps = (steps ≡ []) ⊎ ((options.steps ≡ true) × TellsStepsUnder q lines named proof steps)

-- a proof of a form where functions hold, and behind it the lines that say these; without steps, or where they are asked for
-- with its steps where these functions hold
pub record ArePrintedTexts (q : BodyView) (options : Options) (target : Form) (t : ProofTexts) : Type 0 where
  pub lines : List ℕ
  pub named : List (ℕ × ℤ)
  pub own : List ℕ
  pub tells : TellsFormUnder q lines named target own
  pub names : MayName options.style named
  pub proof_is : t.proof ≡ own ++ by_comment (question_origins q) lines
  pub steps_are : ArePrintedSteps q options lines named own t.steps

-- texts of a proof: where functions hold, or of every map; without steps, or with them
unfoldable pub AreProofTexts : BodyView → Options → Form × CertificateView → ProofTexts → Type 0
AreProofTexts q options proof t = ArePrintedTexts q options proof.0 t ⊎ (IsProofText q proof t.proof × AreProofSteps q options t.proof t.steps)

-- Shannon's inequalities alone say that the form is at least 0: it is at least 0 at each polymatroid of `n` variables.
abbrev pub IsByShannon : ℕ → Form → Type 0
IsByShannon n form = (p : ℕ → ℤ) → IsPolymatroid n p → pos 0 ≤ℤ form p

-- how an obligation is told: by nothing where Shannon's inequalities alone say it, else by texts of its proof
abbrev pub TellsObligation : BodyView → Options → Form × CertificateView → Option ProofTexts → Type 0
TellsObligation q options proof None = IsByShannon (variable_count q) proof.0
TellsObligation q options proof (Some texts) = AreProofTexts q options proof texts

-- the lines of an obligation
abbrev pub obligation_lines : Option ProofTexts → List ℕ
obligation_lines None = []
obligation_lines (Some texts) = proof_lines texts

-- A line of the second region with sets substituted for its auxiliary variables, as a relation that says its obligations or
-- without one, and below it the proofs of these. Where nothing stands below it, it says that Shannon's inequalities are enough.
pub record AreOwnLineTexts (q : BodyView) (options : Options) (parts : List ℕ) (line : OwnLine) (out : List ℕ) : Type 0 where
  pub relation : List ℕ
  pub proofs : List ℕ
  pub says : TellsForms (problem_names q) line.forms relation ⊎ (relation ≡ [])
  pub are : Each obligation_lines (TellsObligation q options) (zip line.forms line.proofs) proofs
  pub out_is : out ≡ indented_line (own_line_comment q parts line.origin relation (length proofs == 0)) ++ proofs

-- the lines of a containment: the proofs of its obligations one after the other, or each under its line of the second region
unfoldable pub AreContainedLines : BodyView → Options → Style → List ℕ → List CertificateView → List ℕ → Type 0
AreContainedLines q options Plain parts ws out = Each proof_lines (AreProofTexts q options) (zip (answer_forms q (Contained parts ws)) ws) out
AreContainedLines q options Named parts ws out = Each (λ lines. lines) (AreOwnLineTexts q options parts) (own_lines q parts ws) out
AreContainedLines q options Whole parts ws out = Each (λ lines. lines) (AreOwnLineTexts q options parts) (own_lines q parts ws) out

-- the lines below the first one: of the proofs of what the answer says, of its rows, or of its point
unfoldable pub AreDetails : BodyView → Options → AnswerView → List ℕ → Type 0
AreDetails q options (Yes proofs) out = Each proof_lines (AreProofTexts q options) (zip (answer_forms q (Yes proofs)) proofs) out
AreDetails q options (No back values) out = (text : List ℕ) × (IsPointText (problem_names q) values text × (out ≡ indented_line text))
AreDetails q options (Undecided cause) out = out ≡ []
AreDetails q options (Region rows) out = Each indented_line (IsMarkedRowText q options.style) (told_rows options.style (variable_count q) rows) out
AreDetails q options (Contained parts proofs) out = AreContainedLines q options options.style parts proofs out
AreDetails q options (Open tried) out = out ≡ []

-- ---- the first line

-- the first line of an answer in `itip answer`, without proofs, values and rows
unfoldable pub head_line : ℕ → BodyView → AnswerView → List ℕ
head_line k q (Yes proofs) = numbered_line k (codes "yes")
head_line k q (No back values) = numbered_line k (codes "no")
head_line k q (Undecided cause) = undecided_line k (problem_names q) cause
head_line k q (Region rows) = numbered_line k (codes "region " ++ decimal (length rows))
head_line k q (Contained parts proofs) = contained_line k q parts
head_line k q (Open tried) = open_line k tried

-- ---- a line of a report

-- what is told of a line of a report
-- `Invalid`: that it is invalid, with this verdict
-- `Answered`: its answer to the question that is asked, with these lines below the first one
-- `Coded`: its no, with these lines and its code
-- `Derived`: its region, with these lines; its origins aren't told
-- `Factored`: what is found of factors
-- `Bounded`: its outer bound
-- `Misfit`: that a question can't have what is asked for
pub data Telling : Type 0 where
  Invalid : (verdict : LineVerdict) → Telling
  Answered : (source : Source) (answer : AnswerView) (details : List ℕ) → Telling
  Coded : (source : Source) (answer : AnswerView) (code : ReportedCodeView) (details : List ℕ) → Telling
  Derived : (source : Source) (answer : AnswerView) (origins : List CertificateView) (details : List ℕ) → Telling
  Factored : (source : Source) (best : BestView) → Telling
  Bounded : (source : Source) (bounds : BoundsView) → Telling
  Misfit : Telling

-- the line reads as this answer to what `source` asks, and its verdict isn't an invalid one
pub record IsAccepted (line : List ℕ) (source : Source) (answer : AnswerView) : Type 0 where
  pub verdict : LineVerdict
  pub is : IsVerdict widest line verdict
  pub accepted : is_invalid verdict ≡ false
  pub reads : ReadsReport widest line (Ok (reports.Answered source answer))

-- the line reads as this no with this code, and its verdict isn't an invalid one
pub record IsAcceptedCode (line : List ℕ) (source : Source) (answer : AnswerView) (code : ReportedCodeView) : Type 0 where
  pub verdict : LineVerdict
  pub is : IsVerdict widest line verdict
  pub accepted : is_invalid verdict ≡ false
  pub reads : ReadsReport widest line (Ok (reports.Coded source answer code))

-- the line reads as this region with these origins, and its verdict isn't an invalid one
pub record IsAcceptedRegion (line : List ℕ) (source : Source) (answer : AnswerView) (origins : List CertificateView) : Type 0 where
  pub verdict : LineVerdict
  pub is : IsVerdict widest line verdict
  pub accepted : is_invalid verdict ≡ false
  pub reads : ReadsReport widest line (Ok (reports.Derived source answer origins))

-- the line reads as what is found of the factors for which `source` asks, and its verdict isn't an invalid one
pub record IsAcceptedBest (line : List ℕ) (source : Source) (best : BestView) : Type 0 where
  pub verdict : LineVerdict
  pub is : IsVerdict widest line verdict
  pub accepted : is_invalid verdict ≡ false
  pub reads : ReadsReport widest line (Ok (reports.Factored source best))

-- a factor after a word
abbrev pub factor_words : List ℕ → ℤ → ℤ → List ℕ
factor_words word num den = word ++ codes " " ++ signed_decimal num ++ codes "/" ++ signed_decimal den

-- the words about what is found of factors
abbrev pub best_words : BestView → List ℕ
best_words (Least num den proof values) = factor_words (codes "best") num den
best_words (Never values) = codes "none"
best_words (Unbounded num den proof below) = factor_words (codes "unbounded") num den
best_words (bests.Undecided cause) = codes "undecided"

-- the line reads as this outer bound of what `source` asks about, and its verdict isn't an invalid one
pub record IsAcceptedBound (line : List ℕ) (source : Source) (bounds : BoundsView) : Type 0 where
  pub verdict : LineVerdict
  pub is : IsVerdict widest line verdict
  pub accepted : is_invalid verdict ≡ false
  pub reads : ReadsReport widest line (Ok (reports.Bounded source bounds))

-- the numbers of rows and rays of an outer bound
unfoldable pub bounds_words : BoundsView → List ℕ
bounds_words b = codes "outer " ++ decimal (length b.rows) ++ codes " " ++ decimal (length b.steps)

-- this may be told of the line under these options
abbrev pub IsTelling : Options → List ℕ → Telling → Type 0
IsTelling options line (Invalid v) = IsVerdict widest line v × (is_invalid v ≡ true)
IsTelling options line (Answered source answer details) = IsAccepted line source answer × AreDetails (asked source).body options answer details
IsTelling options line (Coded source answer code details) = IsAcceptedCode line source answer code × AreDetails (asked source).body options answer details
IsTelling options line (Derived source answer origins details) = IsAcceptedRegion line source answer origins × AreDetails (asked source).body options answer details
IsTelling options line (Factored source best) = IsAcceptedBest line source best
IsTelling options line (Bounded source bounds) = IsAcceptedBound line source bounds
IsTelling options line Misfit = ReadsReport widest line (Ok reports.Misfit)

-- whether the line is told to be invalid
abbrev pub tells_invalid : Telling → Bool
tells_invalid (Invalid v) = true
tells_invalid (Answered source answer details) = false
tells_invalid (Coded source answer code details) = false
tells_invalid (Derived source answer origins details) = false
tells_invalid (Factored source best) = false
tells_invalid (Bounded source bounds) = false
tells_invalid Misfit = false

-- the lines about line k
abbrev pub telling_text : ℕ → Telling → List ℕ
telling_text k (Invalid v) = verdict_line k v
telling_text k (Answered source answer details) = head_line k (asked source).body answer ++ details
telling_text k (Coded source answer code details) = head_line k (asked source).body answer ++ details ++ indented_line (code_text (asked source).body.names.variables code)
telling_text k (Derived source answer origins details) = head_line k (asked source).body answer ++ details
telling_text k (Factored source best) = numbered_line k (best_words best)
telling_text k (Bounded source bounds) = numbered_line k (bounds_words bounds)
telling_text k Misfit = numbered_line k (codes "misfit")
