-- Right replies to questions in mode `best`: they show what they say, by the meaning of the question's text alone, and they are due: the
-- runs find them. And what follows.
use Rattle.std.specs.Prelude.{◌≡◌, ◌⊎◌, ℕ, Some, None, true}
use Rattle.it_problems.specs.Problems.{ProblemView}
use Rattle.it_space.specs.Rows.{Terms}
use Rattle.it_space.specs.Spaces.{size_of}
use Rattle.it_syntax.specs.Meaning.{RelationView}
use Rattle.it_question.specs.Questions.{BodyView}
use Rattle.it_question.specs.ProblemLines.{problem_names}
use Rattle.it_demand.specs.QuestionSpaces.{space_of}
use Rattle.it_canon.specs.TrueLines.{AreTrueTogether, variable_count}
use Rattle.it_canon.specs.QuestionDemands.{problem_of, terms_in}
use Rattle.it_canon.specs.Sides.{left_form, right_form}
use Rattle.it_answer.specs.Forms.{CertifiesForm}
use Rattle.it_prove.specs.ProofViews.{IsUnbound}
use Rattle.it_prove.specs.Reach.{effort_under, is_in_reach}
use Rattle.it_prove.specs.declared.types.Effort.{Effort}
use Rattle.it_prove.specs.declared.types.Runs.{Runs}
use Rattle.it_prove.specs.declared.types.Runs.TheVariants.{Defined, QuickFirst, QuickAlone}
use Rattle.it_ratio.specs.declared.types.BestCause.TheVariants.{Pivots}
use Rattle.it_ratio.specs.BestViews.{BestView, Undecided}
use Rattle.it_best.specs.Ends.{EndsWith}
use Rattle.it_best.specs.Factors.{IsRightBest, Ground}
use Rattle.it_factor.specs.Replies.{ReplyView, Found, Other}
use Rattle.it_ratio.specs.Truth.{HoldsFor, IsTrueBest, asked_by}

-- ---- by the text

-- where the sides of a question's relation are compared: at the polymatroids and rates that make its lines true, by certificates over
-- the elemental inequalities and what its lines demand
abbrev pub question_ground : BodyView → Ground
question_ground q = record {
  size = size_of (space_of (problem_names q));
  Holds = AreTrueTogether q;
  Certifies = CertifiesForm q;
}

-- what is found of the factors of the relation is right
abbrev pub ShowsFactor : BodyView → RelationView → BestView → Type 0
ShowsFactor q r best = IsRightBest (question_ground q) (left_form (variable_count q) r) (right_form (variable_count q) r) best

-- ---- by the runs

-- `best` says of each number whether it is a factor: it isn't undecided
abbrev pub IsKnown : BestView → Type 0
IsKnown (Undecided cause) = ⊥
IsKnown best = Unit {0}

-- What may come beside what the defined runs find: nothing, where these alone are made; any answer by which all factors are known, where
-- quick runs come first; and where quick runs are made alone, also that the factors stay undecided without a step of the first run.
abbrev pub QuickFinds : Runs → BestView → Type 0
QuickFinds Defined best = ⊥
QuickFinds QuickFirst best = IsKnown best
QuickFinds QuickAlone best = IsKnown best ⊎ (best ≡ Undecided (Pivots 0 1))

-- what the runs about two rows under a problem find
abbrev pub FindsFactor : ProblemView → Terms → Terms → Effort → BestView → Type 0
FindsFactor p left right effort best = EndsWith p left right effort.pivots best ⊎ QuickFinds effort.runs best

-- what the runs find about the terms of both sides, under the problem that the question poses
abbrev pub IsDueFactor : Effort → BodyView → RelationView → BestView → Type 0
IsDueFactor effort q r best = FindsFactor (problem_of q) (terms_in q (left_form (variable_count q) r)) (terms_in q (right_form (variable_count q) r)) effort best

-- ---- right replies

-- what is found is right by the text, and is what the runs find
pub record IsRightFactor (effort : Effort) (q : BodyView) (r : RelationView) (best : BestView) : Type 0 where
  pub shows : ShowsFactor q r best
  pub due : IsDueFactor effort q r best

-- a reply that is right where the runs are made with this effort: what is found of the factors of the relation that the question asks
-- about, or that it asks about none
abbrev pub IsDueReply : Effort → BodyView → ReplyView → Type 0
IsDueReply effort q (Found best) = (r : RelationView) × (asked_by q.verb ≡ Some r) × IsRightFactor effort q r best
IsDueReply effort q Other = asked_by q.verb ≡ None

-- a right reply to a question, with this effort: by quick runs alone where the defined ones are out of reach
abbrev pub IsRightReply : Effort → BodyView → ReplyView → Type 0
IsRightReply effort q reply = IsDueReply (effort_under (problem_of q) effort) q reply

-- ---- what follows

-- where the defined runs alone are asked for and are in reach a question has one right reply
abbrev pub OneRightReply : Type 0
OneRightReply = (effort : Effort) (q : BodyView) (a b : ReplyView) → effort.runs ≡ Defined → is_in_reach (problem_of q) ≡ true
    → IsRightReply effort q a → IsRightReply effort q b → a ≡ b

-- where the defined runs are made without a budget no reply is undecided for lack of steps
abbrev pub NeverOutOfSteps : Type 0
NeverOutOfSteps = (effort : Effort) (q : BodyView) (k phase : ℕ) → IsUnbound effort → is_in_reach (problem_of q) ≡ true
    → IsRightReply effort q (Found (Undecided (Pivots k phase))) → ⊥

-- what is found of the factors is true of them if it shows what it says
abbrev pub WhatIsShownIsTrue : Type 0
WhatIsShownIsTrue = (q : BodyView) (r : RelationView) (best : BestView) → ShowsFactor q r best → IsTrueBest (HoldsFor q r) best
