-- Questions without their texts, as the readers' contracts compare them. No public clause cites it.
use Rattle.it_question.specs.declared.bodies.Body.{Body}
use Rattle.it_question.specs.Questions.{BodyView, verb_view}

-- what contracts see of a question without its text
abbrev pub body_view : Body → BodyView
body_view b = record { names = b.names; lines = b.lines; verb = verb_view b.verb }
