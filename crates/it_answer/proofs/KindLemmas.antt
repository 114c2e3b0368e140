-- A right answer is one that the question's verb gives.
use Rattle.std.proofs.Common.{ℕ, List}
use Rattle.it_space.specs.Answers.{AnswerView}
use Rattle.it_space.specs.Answers.AnswerView.{Yes, No, Undecided, Region, Contained, Open}
use Rattle.it_syntax.specs.Meaning.{RelationView}
use Rattle.it_question.specs.OwnLines.{RegionView}
use Rattle.it_question.specs.Questions.{BodyView, VerbView, Prove, Eliminate, Contain}
use Rattle.it_contain.specs.Proposals.{Plan}
use Rattle.it_answer.specs.declared.types.Budgets.{Budgets}
use Rattle.it_answer.specs.AnswerKinds.{IsAnswerBy, IsAnswerTo}
use Rattle.it_answer.specs.Replies.{Reply}
use Rattle.it_answer.specs.Shows.{ShowsBy}
use Rattle.it_answer.specs.RightAnswers.{IsRightAnswer}

of_targets : (q : BodyView) (r : RelationView) (answer : AnswerView) → ShowsBy q (Prove r) answer → IsAnswerBy (Prove r) answer
of_targets q r (Yes ws) x = tt
of_targets q r (No is_back values) x = tt
of_targets q r (Undecided cause) x = tt
of_targets q r (Region rows) x = absurd x
of_targets q r (Contained parts proofs) x = absurd x
of_targets q r (Open tried) x = absurd x

of_region : (q : BodyView) (rates : List ℕ) (answer : AnswerView) → ShowsBy q (Eliminate rates) answer → IsAnswerBy (Eliminate rates) answer
of_region q rates (Yes ws) x = absurd x
of_region q rates (No is_back values) x = absurd x
of_region q rates (Undecided cause) x = tt
of_region q rates (Region rows) x = tt
of_region q rates (Contained parts proofs) x = absurd x
of_region q rates (Open tried) x = absurd x

of_search : (q : BodyView) (a b : RegionView) (tries : List (List ℕ)) (answer : AnswerView) → ShowsBy q (Contain a b tries) answer
    → IsAnswerBy (Contain a b tries) answer
of_search q a b tries (Yes ws) x = absurd x
of_search q a b tries (No is_back values) x = absurd x
of_search q a b tries (Undecided cause) x = absurd x
of_search q a b tries (Region rows) x = absurd x
of_search q a b tries (Contained parts proofs) x = x.are_parts
of_search q a b tries (Open tried) x = tt

by_verb : (q : BodyView) (verb : VerbView) (answer : AnswerView) → ShowsBy q verb answer → IsAnswerBy verb answer
by_verb q (Prove r) answer x = of_targets q r answer x
by_verb q (Eliminate rates) answer x = of_region q rates answer x
by_verb q (Contain a b tries) answer x = of_search q a b tries answer x

pub is_answer_to : (budgets : Budgets) (plans : List Plan) (q : BodyView) (reply : Reply) → IsRightAnswer budgets plans q reply → IsAnswerTo q reply.answer
is_answer_to budgets plans q reply x = by_verb q q.verb reply.answer x.shows
