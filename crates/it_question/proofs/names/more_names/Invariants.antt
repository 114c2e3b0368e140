use Rattle.std.proofs.Common.{◌≡◌, length}
use Rattle.it_forms.specs.FormReading.{read}
use Rattle.it_question.specs.Cursors.{letters_left}
use Rattle.it_question.specs.QuestionForms as forms
use Rattle.it_question.specs.Sorts.{name_sort_view}
use Rattle.it_question.proofs.names.more_names.Given as goal

-- reading on from here gives what the whole reading gives
abbrev pub invariant-loop-sort : goal.invariant-loop-sort
invariant-loop-sort l = read (forms.more_new (name_sort_view l.sort) l.most l.names) (letters_left l.cursor)
    ≡ read (forms.more_new (name_sort_view l.fn.sort) l.fn.most l.initial.names) (letters_left l.initial.cursor)

abbrev pub decreases-loop-sort : goal.decreases-loop-sort
decreases-loop-sort l = length (letters_left l.cursor)
