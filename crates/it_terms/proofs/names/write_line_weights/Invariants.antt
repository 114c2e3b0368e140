use Rattle.std.proofs.Common.{◌≡◌, ◌++◌, true, drop}
use Rattle.it_print.specs.Lines.{origins_of}
use Rattle.it_terms.specs.RowOrigins.{line_weights}
use Rattle.it_terms.proofs.names.write_line_weights.Given as goal

abbrev pub invariant-loop-weight : goal.invariant-loop-weight
invariant-loop-weight l =
    l.out.items ++ line_weights (origins_of l.constraints) l.is_first (drop l.weight-index l.weights)
    ≡ l.initial.out.items ++ line_weights (origins_of l.constraints) true l.weights
