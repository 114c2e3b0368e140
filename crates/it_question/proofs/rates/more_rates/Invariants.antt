use Rattle.std.proofs.Common.{◌≡◌, length}
use Rattle.it_syntax.specs.NamesViews.{index_of}
use Rattle.it_forms.specs.FormReading.{read}
use Rattle.it_question.specs.Cursors.{letters_left}
use Rattle.it_question.specs.QuestionForms as forms
use Rattle.it_question.proofs.rates.more_rates.Given as goal

-- reading on from here gives what the whole reading gives
abbrev pub invariant-loop-cursor : goal.invariant-loop-cursor
invariant-loop-cursor l = read (forms.more_once (index_of l.names.rates) l.found.items) (letters_left l.cursor)
    ≡ read (forms.more_once (index_of l.names.rates) l.fn.first.items) (letters_left l.initial.cursor)

abbrev pub decreases-loop-cursor : goal.decreases-loop-cursor
decreases-loop-cursor l = length (letters_left l.cursor)
