use Rattle.std.proofs.Common.{◌≡◌, ◌<◌, ◌+◌, ◌%◌, drop}
use Rattle.it_codes.specs.Codes.{value_at}
use Rattle.it_codes.proofs.counting.is_zero_at.Given as goal

abbrev pub invariant-loop-coefficient : goal.invariant-loop-coefficient
invariant-loop-coefficient l = (l.sum < l.size) × ((l.sum + value_at l.size (drop l.coefficient-index l.function) l.left) % l.size
    ≡ value_at l.size l.function l.message % l.size)
