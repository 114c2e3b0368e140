use Rattle.std.proofs.Common.{◌≡◌, ◌++◌, drop, filter}
use Rattle.std.specs.List.{flat_map}
use Rattle.it_space.specs.Answers.{is_nonzero_weight}
use Rattle.it_print.specs.ByConstraints.{weight_line_by}
use Rattle.it_print.proofs.proof_lines.write_weight_lines.Given as goal

abbrev pub invariant-loop-weight : goal.invariant-loop-weight
invariant-loop-weight l = l.out.items ++ flat_map (weight_line_by l.posed) (filter is_nonzero_weight (drop l.weight-index l.weights))
    ≡ l.initial.out.items ++ flat_map (weight_line_by l.posed) (filter is_nonzero_weight l.weights)
