use Rattle.std.proofs.Common.{◌≡◌, ◌++◌, drop, length, ◌==◌}
use Rattle.it_print.specs.Lines.{origins_of}
use Rattle.it_terms.specs.FunctionProofs.{named_weights}
use Rattle.it_terms.proofs.names.with_names.Given as goal

abbrev pub invariant-loop-weight : goal.invariant-loop-weight
invariant-loop-weight l = l.out.items ++ named_weights (origins_of l.constraints) l.is_first (drop l.weight-index l.weights)
    ≡ l.right ++ named_weights (origins_of l.constraints) (length l.right == 0) l.weights
