use Rattle.std.proofs.Common.{All}
use Rattle.it_number.specs.Limit.{IsWithin}
use Rattle.it_factor.proofs.joining.combined_values.Given as goal

abbrev pub invariant-loop-x : goal.invariant-loop-x
invariant-loop-x l = All IsWithin l.values.items
