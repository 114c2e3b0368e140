use Rattle.std.proofs.Common.{◌≡◌, [], length}
use Rattle.it_forms.specs.FormReading.{read}
use Rattle.it_syntax.specs.Scopes.{env_of}
use Rattle.it_question.specs.Cursors.{letters_left}
use Rattle.it_question.specs.QuestionForms.{more_tries}
use Rattle.it_question.specs.TrySets.{auxiliary_env, unnamed_sets}
use Rattle.it_question.proofs.tries.tries.Given as goal

-- reading on from here gives what the whole reading gives
abbrev pub invariant-loop-after : goal.invariant-loop-after
invariant-loop-after l =
    let aux = auxiliary_env l.regions.question.now l.regions.second.now in
    let env = env_of l.regions.first.now in
    read (more_tries aux env (unnamed_sets l.auxiliaries) l.found.items) (letters_left l.cursor)
    ≡ read (more_tries aux env (unnamed_sets l.auxiliaries) []) (letters_left l.initial.cursor)

abbrev pub decreases-loop-after : goal.decreases-loop-after
decreases-loop-after l = length (letters_left l.cursor)
