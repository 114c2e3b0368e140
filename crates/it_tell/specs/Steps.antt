-- No public clause cites this module: what the calls inside `tell` give.
use Rattle.std.specs.Prelude.{◌≡◌, ◌≤◌, ◌<◌, ℕ, ◌+◌, ◌-◌, All, ℤ, List, ◌∷◌, ◌++◌, length, Bool, [], map, codes, ◌⊎◌, Option, Some}
use Rattle.std.specs.List.{zip}
use Rattle.std.specs.Borrow.{Bor}
use Rattle.it_space.specs.declared.spaces.Space.{Space}
use Rattle.it_space.specs.Rows.{Terms, value}
use Rattle.it_region.specs.Obligations.{ArePulledRows, demand_obligations}
use Rattle.it_problems.specs.declared.problems.Constraint.{Constraint}
use Rattle.it_problems.specs.declared.problems.Kind.{Kind}
use Rattle.it_problems.specs.Problems.{ProblemView}
use Rattle.it_problems.specs.declared.problems.Kind.TheVariants.{Inequality, Equation}
use Rattle.it_problems.specs.declared.problems.Origin.{Origin}
use Rattle.it_demand.specs.Demands.{Demand}
use Rattle.it_demand.specs.Origins.{AreStated}
use Rattle.it_demand.specs.QuestionSpaces.{space_of}
use Rattle.it_question.specs.LineDemands.{line_demands}
use Rattle.it_question.specs.LineOrigins.{line_origins}
use Rattle.it_question.specs.ProblemLines.{problem_names}
use Rattle.it_terms.specs.declared.proven.Proven.{Proven}
use Rattle.it_terms.specs.Tells.{TellsForms}
use Rattle.it_tell.specs.OwnLines.{own_line, own_lines_by}
use Rattle.it_space.specs.Answers.{AnswerView, CertificateView, answer_view, certificate_view}
use Rattle.it_polymatroid.specs.Certificates.{Form}
use Rattle.it_polymatroid.specs.Elementals.{elementals}
use Rattle.it_syntax.specs.NamesViews.{NamesView}
use Rattle.it_question.specs.Questions.{BodyView, VerbView, Contain}
use Rattle.it_canon.specs.QuestionDemands.{question_demands}
use Rattle.it_certificate.specs.declared.types.Reported.{Reported}
use Rattle.it_certificate.specs.declared.types.Reported.TheVariants as variants
use Rattle.it_print.specs.Lines.{IsPrintable}
use Rattle.it_report.specs.LineVerdicts.{numbered_line}
use Rattle.it_region.specs.AnswerForms.{answer_forms}
use Rattle.it_ratio.specs.BestViews.{best_view}
use Rattle.it_certificate.specs.Bounds.{bounds_view}
use Rattle.it_tell.specs.Tellings.{AreDetails, AreProofTexts, Each, IsPointText, IsTelling, ProofTexts, Telling, best_words, bounds_words, head_line, indented_line, proof_lines, tells_invalid, telling_text, AreOwnLineTexts, TellsObligation, obligation_lines}
use Rattle.it_certificate.specs.CodeReading.{ReportedCodeView}
use Rattle.it_tell.specs.CodeTexts.{code_text}
use Rattle.it_space.specs.Answers.AnswerView.{Contained}
use Rattle.it_space.specs.declared.answers.Certificate.{Certificate}
use Rattle.it_cli.specs.Ends.{call_of}
use Rattle.it_cli.specs.LineModes.{IsReplied, LineMode}
use Rattle.it_cli.specs.declared.status.Status.{Status}
use Rattle.it_tell.specs.declared.containments.Obligations.{Obligations}
use Rattle.it_tell.specs.declared.settings.Options.{Options}
use Rattle.it_tell.specs.declared.settings.Settings.TheVariants.{Tell}
use Rattle.it_tell.specs.declared.settings.Style.{Style}
use Rattle.it_tell.specs.declared.settings.Style.TheVariants.{Plain, Named, Whole}
use Rattle.it_tell.specs.Settings.{settings_of}
use Rattle.it_tell.specs.Ends.{Ends}

-- what is told of the lines of a report
abbrev pub tellings : Options → LineMode
tellings options = record { Reply = Telling; IsRight = IsTelling options; text = telling_text; is_invalid = tells_invalid }

-- the text has the lines about line `k`, and `invalid` says whether they say so
abbrev pub IsToldLine : Options → ℕ → List ℕ → List ℕ → Bool → Type 0
IsToldLine options = IsReplied (tellings options)

-- the lines about an answer to a question
unfoldable pub IsAnsweredText : Options → ℕ → BodyView → AnswerView → List ℕ → Type 0
IsAnsweredText options k q answer text = (details : List ℕ) × (AreDetails q options answer details × (text ≡ head_line k q answer ++ details))

-- the lines about a no with a code
unfoldable pub IsCodedText : Options → ℕ → BodyView → AnswerView → ReportedCodeView → List ℕ → Type 0
IsCodedText options k q answer code text =
    (details : List ℕ) × (AreDetails q options answer details × (text ≡ head_line k q answer ++ details ++ indented_line (code_text q.names.variables code)))

-- the lines about what was read
abbrev pub IsReportedText : Options → ℕ → Reported → List ℕ → Type 0
IsReportedText options k (variants.Answered question answer) text = IsAnsweredText options k question.body (answer_view answer) text
IsReportedText options k (variants.Coded question answer code) text = IsCodedText options k question.body (answer_view answer) code text
IsReportedText options k (variants.Derived question answer origins) text = IsAnsweredText options k question.body (answer_view answer) text
IsReportedText options k (variants.Factored question best) text = text ≡ numbered_line k (best_words (best_view best))
IsReportedText options k (variants.Bounded question bounds) text = text ≡ numbered_line k (bounds_words (bounds_view bounds))
IsReportedText options k variants.Misfit text = text ≡ numbered_line k (codes "misfit")

-- the answer that was read can be printed
abbrev pub CanBePrinted : Reported → Type 0
CanBePrinted (variants.Answered question answer) = IsPrintable question.body (length (question_demands question.body)) answer
CanBePrinted (variants.Coded question answer code) = IsPrintable question.body (length (question_demands question.body)) answer
CanBePrinted (variants.Derived question answer origins) = IsPrintable question.body (length (question_demands question.body)) answer
CanBePrinted (variants.Factored question best) = Unit {0}
CanBePrinted (variants.Bounded question bounds) = Unit {0}
CanBePrinted variants.Misfit = Unit {0}

-- what tells these items was appended
unfoldable pub AppendsEach : {X A : Type 0} → (A → List ℕ) → (X → A → Type 0) → List X → List ℕ → List ℕ → Type 0
AppendsEach shown tells items old new = (lines : List ℕ) × (Each shown tells items lines × (new ≡ old ++ lines))

-- the lines below the first one were appended
unfoldable pub AppendsDetails : BodyView → Options → AnswerView → List ℕ → List ℕ → Type 0
AppendsDetails q options answer old new = (details : List ℕ) × (AreDetails q options answer details × (new ≡ old ++ details))

-- the line of a point was appended
unfoldable pub AppendsPoint : NamesView → List ℤ → List ℕ → List ℕ → Type 0
AppendsPoint v values old new = (text : List ℕ) × (IsPointText v values text × (new ≡ old ++ indented_line text))

-- the form of a row, with a certificate for it
abbrev pub form_with_proof : Terms → Certificate → Form × CertificateView
form_with_proof row w = (value row, certificate_view w)

-- the form of a row that is proved, with its certificate
abbrev pub proven_form : Proven → Form × CertificateView
proven_form proven = form_with_proof proven.row.now proven.certificate.now

-- a certificate's weights are of the elemental inequalities of n variables, and of so many constraints after these
abbrev pub IsListed : ℕ → ℕ → Certificate → Type 0
IsListed n count proof = All (λ w. w.0 < length (elementals n) + count) proof.weights.items

-- the certificates of obligations
abbrev pub certificates_of : Obligations → List CertificateView
certificates_of owed = map certificate_view owed.proofs.now

-- the answer that a containment holds by these parts, with these certificates
abbrev pub contained_by : List ℕ → List Certificate → AnswerView
contained_by parts proofs = Contained parts (map certificate_view proofs)

-- the lines of a proof of a form were appended
pub record AppendsProof (q : BodyView) (options : Options) (proof : Form × CertificateView) (old new : List ℕ) : Type 0 where
  pub texts : ProofTexts
  pub are : AreProofTexts q options proof texts
  pub new_is : new ≡ old ++ proof_lines texts

-- these are rows of forms, in order
unfoldable pub AreRowsFor : List Form → List Terms → Type 0
AreRowsFor forms rows = (s : Space) × ArePulledRows s forms rows

-- these are rows of the forms that an answer speaks of, in order
abbrev pub AreFormRows : BodyView → AnswerView → List Terms → Type 0
AreFormRows q answer rows = AreRowsFor (answer_forms q answer) rows

-- the lines of each proof of a row were appended, whichever forms the rows are of
unfoldable pub AppendsProofs : BodyView → Options → List Terms → List CertificateView → List ℕ → List ℕ → Type 0
AppendsProofs q options rows ws old new = (forms : List Form) → AreRowsFor forms rows → AppendsEach proof_lines (AreProofTexts q options) (zip forms ws) old new

-- ---- a containment

-- the obligations' rows, over the coordinates of the question's problem
abbrev pub AreObligations : BodyView → AnswerView → List Terms → Type 0
AreObligations q answer rows = ArePulledRows (space_of (problem_names q)) (answer_forms q answer) rows

-- the constraints state what the second region's own lines demand, by their numbers among these
abbrev pub AreOwnConstraintsBy : VerbView → List Constraint → Type 0
AreOwnConstraintsBy (Contain a b tries) cs =
    AreStated (space_of b.names) (line_origins (length b.names.variables) b.lines) (line_demands (length b.names.variables) b.lines) cs
AreOwnConstraintsBy verb cs = ⊥

abbrev pub AreOwnConstraints : BodyView → List Constraint → Type 0
AreOwnConstraints q cs = AreOwnConstraintsBy q.verb cs

-- the problem has the coordinates of the question's and no constraints
pub record IsFreeProblem (q : BodyView) (p : ProblemView) : Type 0 where
  pub space : p.space ≡ space_of (problem_names q)
  pub none : p.constraints ≡ []

-- the number of obligations of a constraint of this kind
abbrev pub obliged : Kind → ℕ
obliged Inequality = 1
obliged Equation = 2

-- the constraints have `count` obligations in all
abbrev pub HasObligations : List Constraint → ℕ → Type 0
HasObligations [] count = count ≡ 0
HasObligations (c ∷ cs) count = (obliged c.kind ≤ count) × HasObligations cs (count - obliged c.kind)

-- a text that says these forms to be at least 0, or none
unfoldable pub SaysOrNothing : NamesView → List Form → List ℕ → Type 0
SaysOrNothing v forms text = TellsForms v forms text ⊎ (text ≡ [])

-- the lines about a line of the second region were appended, whichever forms the rows are of
unfoldable pub AppendsOwnLine : BodyView → Options → List ℕ → Origin → List Terms → List CertificateView → List ℕ → List ℕ → Type 0
AppendsOwnLine q options parts origin rows ws old new =
    (forms : List Form) → AreRowsFor forms rows → (out : List ℕ) × (AreOwnLineTexts q options parts (own_line origin forms ws) out × (new ≡ old ++ out))

-- the lines of the obligations of a line of the second region were appended, whichever forms the rows are of
unfoldable pub AppendsOwnProofs : BodyView → Options → List Terms → List CertificateView → List ℕ → List ℕ → Type 0
AppendsOwnProofs q options rows ws old new = (forms : List Form) → AreRowsFor forms rows → AppendsEach obligation_lines (TellsObligation q options) (zip forms ws) old new

-- the lines of one obligation were appended
unfoldable pub AppendsObligation : BodyView → Options → Form × CertificateView → List ℕ → List ℕ → Type 0
AppendsObligation q options proof old new = (texts : Option ProofTexts) × (TellsObligation q options proof texts × (new ≡ old ++ obligation_lines texts))

-- the lines about all lines of the second region were appended, whichever demands the constraints state and the rows are of
unfoldable pub AppendsEachOwnLine : BodyView → Options → List ℕ → List Constraint → List Terms → List CertificateView → List ℕ → List ℕ → Type 0
AppendsEachOwnLine q options parts cs rows ws old new =
    (s t : Space) (f : ℕ → ℕ) (os : List Origin) (ds : List Demand) → AreStated s os ds cs → ArePulledRows t (demand_obligations f ds) rows
    → AppendsEach (λ lines. lines) (AreOwnLineTexts q options parts) (own_lines_by f os ds ws) old new

-- how a call ends whichever words ask for a telling, by the meanings of a source and a sink and their states before and after
abbrev pub EndsForTelling : {S K : Type 0} → (S → Option (List ℕ)) → (S → ℕ) → (K → Option (List ℕ)) → (K → ℕ) → Options → S → S → K → K → Status → Type 0
EndsForTelling left read_faults taken write_faults options source source_after sink sink_after s =
    (words : List (Bor (List ℕ))) → settings_of (map (λ w. w.now) words) ≡ Some (Tell options)
    → Ends (call_of left read_faults taken write_faults words [] source source_after sink sink_after) s

-- a proof in a style, and the weights of the constraints that it names: all of them, or none where it is whole
abbrev pub IsStyled : Style → List (ℕ × ℤ) → List ℕ → List ℕ → List (ℕ × ℤ) → List ℕ → Type 0
IsStyled Plain named text whole own_named own = ⊥
IsStyled Named named text whole own_named own = (own_named ≡ named) × (own ≡ text)
IsStyled Whole named text whole own_named own = (own_named ≡ []) × (own ≡ whole)
