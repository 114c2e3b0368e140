-- The kinds of answers that a verb has.
use Rattle.it_space.specs.Answers.{AnswerView}
use Rattle.it_space.specs.Answers.AnswerView.{Yes, No, Undecided, Region, Contained, Open}
use Rattle.it_question.specs.Questions.{BodyView, VerbView, Prove, Eliminate, Contain}
use Rattle.it_region.specs.Obligations.{IsSubstitution}

-- The verb gives such an answer, and the parts of a containment are sets of the first region's variables, one for each auxiliary of
-- the second.
abbrev pub IsAnswerBy : VerbView → AnswerView → Type 0
IsAnswerBy (Prove r) (Yes ws) = Unit {0}
IsAnswerBy (Prove r) (No is_back values) = Unit {0}
IsAnswerBy (Prove r) (Undecided cause) = Unit {0}
IsAnswerBy (Eliminate rates) (Region rows) = Unit {0}
IsAnswerBy (Eliminate rates) (Undecided cause) = Unit {0}
IsAnswerBy (Contain a b tries) (Contained parts ws) = IsSubstitution a b parts
IsAnswerBy (Contain a b tries) (Open tried) = Unit {0}
IsAnswerBy verb answer = ⊥

-- an answer of a kind that the question's verb gives; the parts of a containment fit its two regions
abbrev pub IsAnswerTo : BodyView → AnswerView → Type 0
IsAnswerTo q answer = IsAnswerBy q.verb answer
