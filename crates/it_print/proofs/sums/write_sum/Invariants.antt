use Rattle.std.proofs.Common.{◌≡◌, ◌++◌, drop, codes}
use Rattle.it_print.specs.Lines.{joined_texts, origins_of, sum_text}
use Rattle.it_print.proofs.LineLemmas.{weight_texts, or_zero_unless}
use Rattle.it_print.proofs.sums.write_sum.Given as goal

abbrev pub invariant-loop-weight : goal.invariant-loop-weight
invariant-loop-weight l = l.out.items ++ joined_texts (codes " + ") l.some (or_zero_unless l.some (weight_texts l.names.variables (origins_of l.constraints) (drop l.weight-index l.weights)))
    ≡ l.initial.out.items ++ sum_text l.names.variables (origins_of l.constraints) l.weights
