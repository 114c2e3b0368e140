use Rattle.std.proofs.Common.{◌≡◌, ◌<◌, ◌^◌, drop}
use Rattle.it_space.specs.Divisors.{content}
use Rattle.it_bounds.specs.Lines.{values_at}
use Rattle.it_bounds.proofs.rays.common_divisor.Given as goal

abbrev pub invariant-loop-at : goal.invariant-loop-at
invariant-loop-at l = (content l.common (values_at (drop l.at-index l.kept) l.point) ≡ content 0 (values_at l.kept l.point)) × (l.common < 2 ^ 127)
