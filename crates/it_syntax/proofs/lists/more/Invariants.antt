use Rattle.std.proofs.Common.{◌≡◌, length}
use Rattle.it_forms.specs.FormReading.{read}
use Rattle.it_syntax.specs.Gives.{letters_left}
use Rattle.it_syntax.specs.LineForms as forms
use Rattle.it_syntax.specs.Scopes.{env_of}
use Rattle.it_syntax.proofs.lists.more.Given as goal

-- reading on from here gives what the whole reading gives
abbrev pub invariant-loop-rest : goal.invariant-loop-rest
invariant-loop-rest l = read (forms.more_names (env_of l.names) l.set) (letters_left l.rest)
    ≡ read (forms.more_names (env_of l.names) l.fn.first) (letters_left l.initial.rest)

abbrev pub decreases-loop-rest : goal.decreases-loop-rest
decreases-loop-rest l = length (letters_left l.rest)
