use Rattle.std.proofs.Common.{◌≡◌, length}
use Rattle.it_forms.specs.FormReading.{read}
use Rattle.it_syntax.specs.Scopes.{env_of}
use Rattle.it_question.specs.Cursors.{letters_left}
use Rattle.it_question.specs.QuestionForms.{more_parts}
use Rattle.it_question.specs.TrySets.{auxiliary_env}
use Rattle.it_question.proofs.tries.parts.Given as goal

-- reading on from here gives what the whole reading gives
abbrev pub invariant-loop-cursor : goal.invariant-loop-cursor
invariant-loop-cursor l =
    let aux = auxiliary_env l.regions.question.now l.regions.second.now in
    let env = env_of l.regions.first.now in
    read (more_parts aux env l.sets) (letters_left l.cursor) ≡ read (more_parts aux env l.initial.sets) (letters_left l.initial.cursor)

abbrev pub decreases-loop-cursor : goal.decreases-loop-cursor
decreases-loop-cursor l = length (letters_left l.cursor)
