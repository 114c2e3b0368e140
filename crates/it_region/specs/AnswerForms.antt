-- The forms that an answer is about.
use Rattle.std.specs.Prelude.{List, []}
use Rattle.it_space.specs.Answers.{AnswerView}
use Rattle.it_space.specs.Answers.AnswerView.{Contained}
use Rattle.it_polymatroid.specs.Certificates.{Form}
use Rattle.it_question.specs.Questions.{BodyView, VerbView, Prove, Contain}
use Rattle.it_demand.specs.Targets.{targets}
use Rattle.it_canon.specs.TrueLines.{variable_count}
use Rattle.it_region.specs.Obligations.{obligations}

-- the targets of a relation, or the obligations of the sets that a containment names
abbrev pub answer_forms_by : BodyView → VerbView → AnswerView → List Form
answer_forms_by q (Prove r) answer = targets (variable_count q) r
answer_forms_by q (Contain a b tries) (Contained parts ws) = obligations q a b parts
answer_forms_by q verb answer = []

-- the forms that an answer to the question is about
abbrev pub answer_forms : BodyView → AnswerView → List Form
answer_forms q answer = answer_forms_by q q.verb answer
