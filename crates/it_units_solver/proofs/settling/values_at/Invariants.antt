use Rattle.std.proofs.Common.{All}
use Rattle.it_number.specs.Limit.{IsWithin}
use Rattle.it_units_solver.proofs.settling.values_at.Given as goal

abbrev pub invariant-loop-source : goal.invariant-loop-source
invariant-loop-source l = All IsWithin l.values.items
