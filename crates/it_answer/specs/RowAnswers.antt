-- Answers about rows, by which the calls in this crate are proved. No public clause cites this module.
use Rattle.std.specs.Prelude.{ℕ, ℤ, List, [], ◌∷◌, map, Bool, true, false}
use Rattle.std.specs.List.{AllZip}
use Rattle.it_problems.specs.Problems.{ProblemView}
use Rattle.it_space.specs.Answers.{AnswerView, CertificateView}
use Rattle.it_space.specs.Answers.AnswerView.{Yes, No, Undecided, Region, Contained, Open}
use Rattle.it_space.specs.Rows.{Terms}
use Rattle.it_polymatroid.specs.Certificates.{Form}
use Rattle.it_syntax.specs.Meaning.{RelationView}
use Rattle.it_question.specs.OwnLines.{RegionView}
use Rattle.it_question.specs.Questions.{BodyView}
use Rattle.it_demand.specs.Canonical.{form_of}
use Rattle.it_demand.specs.SystemForms.{AreRowsOf}
use Rattle.it_demand.specs.Targets.{negation, targets}
use Rattle.it_canon.specs.QuestionDemands.{terms_in}
use Rattle.it_canon.specs.TrueLines.{variable_count}
use Rattle.it_region.specs.Obligations.{obligations}
use Rattle.it_check.specs.Meaning.{CertifiesRow, RefutesRow}
use Rattle.it_prove.specs.ProofViews.{ProofView}
use Rattle.it_prove.specs.ProofViews as proof_views
use Rattle.it_prove.specs.declared.types.Effort.{Effort}
use Rattle.it_answer.specs.DueRelations.{IsDueByRuns}

-- one certificate of each row, in order
abbrev pub CertifyRows : ProblemView → List Terms → List CertificateView → Type 0
CertifyRows p ts ws = AllZip (CertifiesRow p) ts ws

-- The values refute the first row; or, `is_back`, the second one, where the first has a certificate.
abbrev pub RefutesFirst : ProblemView → List Terms → Bool → List ℤ → Type 0
RefutesFirst p [] is_back values = ⊥
RefutesFirst p (t ∷ ts) false values = RefutesRow p t values
RefutesFirst p (t ∷ []) true values = ⊥
RefutesFirst p (t ∷ u ∷ ts) true values = ((w : CertificateView) × CertifiesRow p t w) × RefutesRow p u values

-- an answer to `prove` shows what it says of these rows: a certificate of each, or values that refute one
abbrev pub ShowsRows : ProblemView → List Terms → AnswerView → Type 0
ShowsRows p ts (Yes ws) = CertifyRows p ts ws
ShowsRows p ts (No is_back values) = RefutesFirst p ts is_back values
ShowsRows p ts (Undecided cause) = Unit {0}
ShowsRows p ts (Region rows) = ⊥
ShowsRows p ts (Contained parts proofs) = ⊥
ShowsRows p ts (Open tried) = ⊥

-- the answer shows what it says of the rows `ts`, and is one that the runs about them end with
pub record AnswersRows (p : ProblemView) (effort : Effort) (ts : List Terms) (answer : AnswerView) : Type 0 where
  pub shows : ShowsRows p ts answer
  pub due : IsDueByRuns p effort ts answer

-- the answer shows what it says of rows of these forms, and is one that the runs about them end with
pub record AnswersForms (p : ProblemView) (fs : List Form) (answer : AnswerView) (effort : Effort) : Type 0 where
  pub rows : List Terms
  pub are : AreRowsOf p.space fs rows
  pub answered : AnswersRows p effort rows answer

-- the answer about the target of an inequality
abbrev pub AnswersInequality : ProblemView → RelationView → AnswerView → Effort → Type 0
AnswersInequality p r answer effort = AnswersForms p (form_of p.space.variables r ∷ []) answer effort

-- the answer about the two targets of an equation
abbrev pub AnswersEquality : ProblemView → RelationView → AnswerView → Effort → Type 0
AnswersEquality p r answer effort = AnswersForms p (form_of p.space.variables r ∷ negation (form_of p.space.variables r) ∷ []) answer effort

-- the answer about the targets of a relation of any sign
abbrev pub AnswersRelation : ProblemView → RelationView → AnswerView → Effort → Type 0
AnswersRelation p r answer effort = AnswersForms p (targets p.space.variables r) answer effort

-- the answer after the first target
abbrev pub answer_after_one : ProofView → AnswerView
answer_after_one (proof_views.Yes w) = Yes (w ∷ [])
answer_after_one (proof_views.No values) = No false values
answer_after_one (proof_views.Undecided cause) = Undecided cause

-- the answer after the second of two targets, where the first has this certificate
abbrev pub answer_after_two : CertificateView → ProofView → AnswerView
answer_after_two w (proof_views.Yes v) = Yes (w ∷ v ∷ [])
answer_after_two w (proof_views.No values) = No true values
answer_after_two w (proof_views.Undecided cause) = Undecided cause

-- the rows of a relation's targets, in a question
abbrev pub relation_rows : BodyView → RelationView → List Terms
relation_rows q r = map (terms_in q) (targets (variable_count q) r)

-- the rows of the obligations of parts, in a question
abbrev pub obligation_rows : BodyView → RegionView → RegionView → List ℕ → List Terms
obligation_rows q a b parts = map (terms_in q) (obligations q a b parts)
