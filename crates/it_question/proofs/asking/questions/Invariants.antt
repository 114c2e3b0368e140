use Rattle.std.proofs.Common.{◌≡◌, [], length, map}
use Rattle.it_forms.specs.FormReading.{read}
use Rattle.it_question.specs.Bodies.{body_view}
use Rattle.it_question.specs.Cursors.{letters_left}
use Rattle.it_question.specs.QuestionForms.{more_questions}
use Rattle.it_question.proofs.asking.questions.Given as goal

-- reading on from here gives what the whole reading gives
abbrev pub invariant-loop-after : goal.invariant-loop-after
invariant-loop-after l = read (more_questions l.limits (map body_view l.found.items)) (letters_left l.cursor) ≡ read (more_questions l.limits [])
    (letters_left l.initial.cursor)

abbrev pub decreases-loop-after : goal.decreases-loop-after
decreases-loop-after l = length (letters_left l.cursor)
