use Rattle.std.proofs.Common.{◌≡◌, length}
use Rattle.it_forms.specs.FormReading.{read}
use Rattle.it_syntax.specs.Gives.{letters_left}
use Rattle.it_syntax.specs.LineForms as forms
use Rattle.it_syntax.specs.Scopes.{env_of}
use Rattle.it_syntax.proofs.members.more_members.Given as goal

-- reading on from here gives what the whole reading gives
abbrev pub invariant-loop-divider : goal.invariant-loop-divider
invariant-loop-divider l = read (forms.more_members l.divider (env_of l.names) l.found.items) (letters_left l.rest)
    ≡ read (forms.more_members l.divider (env_of l.names) l.fn.first.items) (letters_left l.initial.rest)

abbrev pub decreases-loop-divider : goal.decreases-loop-divider
decreases-loop-divider l = length (letters_left l.rest)
