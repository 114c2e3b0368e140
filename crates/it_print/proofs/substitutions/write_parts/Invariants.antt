use Rattle.std.proofs.Common.{◌≡◌, ◌++◌, ◌+◌, drop}
use Rattle.it_print.specs.Lines.{parts_for}
use Rattle.it_print.proofs.substitutions.write_parts.Given as goal

abbrev pub invariant-loop-i : goal.invariant-loop-i
invariant-loop-i l = l.out.items ++ parts_for l.names.variables (drop (l.from + l.i) l.second.variables) (drop l.i l.sets)
    ≡ l.initial.out.items ++ parts_for l.names.variables (drop l.from l.second.variables) l.sets
