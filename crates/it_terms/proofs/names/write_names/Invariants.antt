use Rattle.std.proofs.Common.{◌≡◌, ◌++◌, true, drop}
use Rattle.it_print.specs.Lines.{origins_of}
use Rattle.it_terms.specs.FunctionProofs.{listed_names}
use Rattle.it_terms.proofs.names.write_names.Given as goal

abbrev pub invariant-loop-line : goal.invariant-loop-line
invariant-loop-line l =
    l.out.items ++ listed_names l.before (origins_of l.constraints) l.is_first (drop l.line-index l.lines)
    ≡ l.initial.out.items ++ listed_names l.before (origins_of l.constraints) true l.lines
