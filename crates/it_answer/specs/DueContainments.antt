-- The answer to `contain` that the search over the boxes' plans ends with.
use Rattle.std.specs.Prelude.{◌≡◌, ℕ, ◌<◌, ◌^◌, List, [], ◌∷◌, length, map, take, All}
use Rattle.it_space.specs.Answers.{CertificateView, AnswerView}
use Rattle.it_space.specs.Answers.AnswerView.{Contained, Open}
use Rattle.it_question.specs.OwnLines.{RegionView}
use Rattle.it_question.specs.Questions.{BodyView}
use Rattle.it_canon.specs.QuestionDemands.{problem_of, terms_in}
use Rattle.it_prove.specs.ProofViews.{EndsWith}
use Rattle.it_prove.specs.declared.types.Effort.{Effort}
use Rattle.it_region.specs.declared.types.Candidate.{Candidate}
use Rattle.it_region.specs.Obligations.{obligations}
use Rattle.it_contain.specs.Proposals.{Plan}
use Rattle.it_contain.specs.Search.{Goal, IsFirstProved, IsOpen, IsProofOf, plan_of}
use Rattle.it_answer.specs.declared.types.Budgets.{Budgets}
use Rattle.it_answer.specs.Replies.{Reply}

-- the candidates of `try` lines
abbrev pub tried_of : RegionView → List (List ℕ) → List Candidate
tried_of b tries = map (λ sets. record { count = b.auxiliaries; parts = sets }) tries

-- the candidate has a set of the first region's variables for each auxiliary of the second, in the first of four places
pub record FitsRegions (a b : RegionView) (c : Candidate) : Type 0 where
  pub places : length c.parts ≡ 4
  pub count : c.count ≡ b.auxiliaries
  pub within : All (λ s. s < 2 ^ length a.names.variables) (take c.count c.parts)

-- what is looked for: the targets of a candidate are the obligations that its sets give
abbrev pub containment_goal : BodyView → RegionView → RegionView → Effort → Goal
containment_goal q a b effort = record {
  fits = FitsRegions a b;
  targets = λ c. map (terms_in q) (obligations q a b (take c.count c.parts));
  ends = λ t o. EndsWith (problem_of q) t effort o;
}

-- what was found is the first candidate of the plan that is proved, and the answer has its parts and its proofs
pub record IsFound (goal : Goal) (tries : ℕ) (plan found : List Candidate) (parts : List ℕ) (ws : List CertificateView) : Type 0 where
  pub candidate : Candidate
  pub found_is : found ≡ candidate ∷ []
  pub first : IsFirstProved goal tries plan candidate
  pub parts_are : parts ≡ take candidate.count candidate.parts
  pub proofs : IsProofOf goal candidate ws

-- the answer that the search over the plan ends with, with the candidate that it found, if any
abbrev pub IsDueBySearch : Goal → ℕ → List Candidate → List Candidate → AnswerView → Type 0
IsDueBySearch goal tries plan found (Contained parts ws) = IsFound goal tries plan found parts ws
IsDueBySearch goal tries plan found (Open tried) = IsOpen goal tries plan tried × (found ≡ [])
IsDueBySearch goal tries plan found answer = ⊥

-- the reply that the search ends with: over the candidates of the question's `try` lines, and then those of boxes with these plans
abbrev pub IsDueContainment : Budgets → List Plan → BodyView → RegionView → RegionView → List (List ℕ) → Reply → Type 0
IsDueContainment budgets plans q a b tries reply = IsDueBySearch (containment_goal q a b budgets.effort) budgets.tries
    (plan_of (tried_of b tries) plans (record { variables = length a.names.variables; parts = b.auxiliaries })) reply.found reply.answer
