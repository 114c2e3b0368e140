-- The answer to `prove` that the runs about the rows of the relation's targets end with.
use Rattle.std.specs.Prelude.{◌⊎◌, ℤ, List, [], ◌∷◌, map, Bool, true, false}
use Rattle.it_space.specs.declared.answers.Cause.{Cause}
use Rattle.it_space.specs.Answers.{AnswerView, CertificateView}
use Rattle.it_space.specs.Answers.AnswerView.{Yes, No, Undecided}
use Rattle.it_problems.specs.Problems.{ProblemView}
use Rattle.it_space.specs.Rows.{Terms}
use Rattle.it_syntax.specs.Meaning.{RelationView}
use Rattle.it_question.specs.Questions.{BodyView}
use Rattle.it_canon.specs.TrueLines.{variable_count}
use Rattle.it_canon.specs.QuestionDemands.{problem_of, terms_in}
use Rattle.it_demand.specs.Targets.{targets}
use Rattle.it_prove.specs.ProofViews as proof_views
use Rattle.it_prove.specs.ProofViews.{EndsWith, AreProofsOf}
use Rattle.it_prove.specs.declared.types.Effort.{Effort}

-- the run proves the target, by some certificate
abbrev pub IsProven : ProblemView → Effort → Terms → Type 0
IsProven p effort t = (w : CertificateView) × EndsWith p t effort (proof_views.Yes w)

-- the run about the first target that isn't proved ends with the point `values`; `is_back` says whether this is the second target
abbrev pub PointIsDue : ProblemView → Effort → List Terms → Bool → List ℤ → Type 0
PointIsDue p effort (t ∷ ts) false values = EndsWith p t effort (proof_views.No values)
PointIsDue p effort (t ∷ u ∷ ts) true values = IsProven p effort t × EndsWith p u effort (proof_views.No values)
PointIsDue p effort ts is_back values = ⊥

-- the run about the first target that isn't proved ends with the cause
abbrev pub CauseIsDue : ProblemView → Effort → List Terms → Cause → Type 0
CauseIsDue p effort [] cause = ⊥
CauseIsDue p effort (t ∷ ts) cause = EndsWith p t effort (proof_views.Undecided cause) ⊎ (IsProven p effort t × CauseIsDue p effort ts cause)

-- the answer that the runs about the targets `ts` end with
abbrev pub IsDueByRuns : ProblemView → Effort → List Terms → AnswerView → Type 0
IsDueByRuns p effort ts (Yes ws) = AreProofsOf p effort ts ws
IsDueByRuns p effort ts (No is_back values) = PointIsDue p effort ts is_back values
IsDueByRuns p effort ts (Undecided cause) = CauseIsDue p effort ts cause
IsDueByRuns p effort ts answer = ⊥

-- the answer that the runs about the terms of the relation's targets end with, under the problem that the question poses
abbrev pub IsDueRelation : Effort → BodyView → RelationView → AnswerView → Type 0
IsDueRelation effort q r answer = IsDueByRuns (problem_of q) effort (map (terms_in q) (targets (variable_count q) r)) answer
