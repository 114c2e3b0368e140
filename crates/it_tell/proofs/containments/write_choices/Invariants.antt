use Rattle.std.proofs.Common.{◌≡◌, ◌++◌, ◌+◌, ◌==◌, true, drop}
use Rattle.it_tell.specs.OwnLines.{sets_with}
use Rattle.it_tell.proofs.containments.write_choices.Given as goal

abbrev pub invariant-loop-i : goal.invariant-loop-i
invariant-loop-i l = l.out.items ++ sets_with (l.i == 0) l.names.variables (drop (l.from + l.i) l.second.variables) (drop l.i l.sets)
    ≡ l.initial.out.items ++ sets_with true l.names.variables (drop l.from l.second.variables) l.sets
