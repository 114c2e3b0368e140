use Rattle.std.proofs.Common.{◌≡◌, ◌++◌, drop, codes, false, length}
use Rattle.it_print.specs.Lines.{joined_texts, members_from}
use Rattle.it_print.proofs.sets.write_set.Given as goal

abbrev pub invariant-loop-i : goal.invariant-loop-i
invariant-loop-i l = (l.i-end ≡ length l.names.variables)
    × (l.out.items ++ joined_texts (codes ",") l.some (members_from l.i (drop l.i l.names.variables) l.set)
    ≡ l.initial.out.items ++ joined_texts (codes ",") false (members_from 0 l.names.variables l.set))
