-- What an answer shows: the evidence that a reader can add up, by the meaning of the question's text alone. Nothing here speaks of a
-- run, of an order of elimination or of a search.
use Rattle.std.specs.Prelude.{◌≡◌, ℕ, ℤ, neg_ℤ, pos, ◌≤ℤ◌, List, ◌∷◌, length, Bool, true, false}
use Rattle.it_space.specs.Answers.{AnswerView, CertificateView}
use Rattle.it_space.specs.Answers.AnswerView.{Yes, No, Undecided, Region, Contained, Open}
use Rattle.it_space.specs.Rows.{point_of}
use Rattle.it_space.specs.Spaces.{size_of}
use Rattle.it_polymatroid.specs.Polymatroid.{IsPolymatroid}
use Rattle.it_polymatroid.specs.Certificates.{Form}
use Rattle.it_question.specs.OwnLines.{RegionView}
use Rattle.it_question.specs.Questions.{BodyView, VerbView, Prove, Eliminate, Contain}
use Rattle.it_demand.specs.Targets.{targets}
use Rattle.it_canon.specs.TrueLines.{variable_count, AreTrueAt}
use Rattle.it_demand.specs.QuestionSpaces.{space_of}
use Rattle.it_question.specs.ProblemLines.{problem_names, problem_lines}
use Rattle.it_region.specs.Obligations.{IsSubstitution, obligations}
use Rattle.it_region.specs.Regions.{LiesIn}
use Rattle.it_answer.specs.Forms.{CertifiesForm, CertifyAll}
use Rattle.it_answer.specs.Truth.{IsExactRegion, IsTrueAnswer}

-- ---- of a relation

-- a polymatroid and rates at which the question's lines are true and the target is -1 or less
pub record IsCounterexample (q : BodyView) (f : Form) (values : List ℤ) : Type 0 where
  pub complete : length values ≡ size_of (space_of (problem_names q))
  pub polymatroid : IsPolymatroid (variable_count q) (point_of values)
  pub lines_hold : AreTrueAt (variable_count q) (point_of values) (problem_lines q)
  pub violated : f (point_of values) ≤ℤ neg_ℤ (pos 1)

-- The values violate the first target; or, `is_back`, the second one, where the first has a certificate.
abbrev pub Refutes : BodyView → List Form → Bool → List ℤ → Type 0
Refutes q (f ∷ fs) false values = IsCounterexample q f values
Refutes q (f ∷ g ∷ fs) true values = ((w : CertificateView) × CertifiesForm q f w) × IsCounterexample q g values
Refutes q fs is_back values = ⊥

-- ---- of two regions

-- a set of the first region's variables for each auxiliary of the second; a certificate of each obligation that they give; and so
-- the first region lies in the second
pub record ShowsContained (q : BodyView) (a b : RegionView) (parts : List ℕ) (ws : List CertificateView) : Type 0 where
  pub are_parts : IsSubstitution a b parts
  pub certified : CertifyAll q (obligations q a b parts) ws
  pub lies : LiesIn q a b

-- ---- of any question

-- An answer to a question of this verb shows what it says: of a relation a certificate of each target or a counterexample to one, of
-- rates a region, of two regions that the first lies in the second; nothing where it is undecided or open.
abbrev pub ShowsBy : BodyView → VerbView → AnswerView → Type 0
ShowsBy q (Prove r) (Yes ws) = CertifyAll q (targets (variable_count q) r) ws
ShowsBy q (Prove r) (No is_back values) = Refutes q (targets (variable_count q) r) is_back values
ShowsBy q (Prove r) (Undecided cause) = Unit {0}
ShowsBy q (Eliminate rates) (Region rows) = IsExactRegion q rates rows
ShowsBy q (Eliminate rates) (Undecided cause) = Unit {0}
ShowsBy q (Contain a b tries) (Contained parts ws) = ShowsContained q a b parts ws
ShowsBy q (Contain a b tries) (Open tried) = Unit {0}
ShowsBy q verb answer = ⊥

-- an answer to the question shows what it says
abbrev pub Shows : BodyView → AnswerView → Type 0
Shows q answer = ShowsBy q q.verb answer

-- ---- what is shown is true

-- an answer that shows what it says is true
abbrev pub WhatIsShownIsTrue : Type 0
WhatIsShownIsTrue = (q : BodyView) (answer : AnswerView) → Shows q answer → IsTrueAnswer q answer
