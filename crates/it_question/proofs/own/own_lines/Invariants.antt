use Rattle.std.proofs.Common.{◌≡◌, length}
use Rattle.it_forms.specs.FormReading.{read}
use Rattle.it_question.specs.Cursors.{letters_left}
use Rattle.it_question.specs.QuestionForms as forms
use Rattle.it_question.proofs.own.own_lines.Given as goal

-- reading on from here gives what the whole reading gives
abbrev pub invariant-loop-is_given : goal.invariant-loop-is_given
invariant-loop-is_given l = read (forms.more_own_lines l.most_givens l.most_rows l.names l.own) (letters_left l.cursor)
    ≡ read (forms.own_lines l.fn.most_givens l.fn.most_rows l.names) (letters_left l.initial.cursor)

abbrev pub decreases-loop-is_given : goal.decreases-loop-is_given
decreases-loop-is_given l = length (letters_left l.cursor)
