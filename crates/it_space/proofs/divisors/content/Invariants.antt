use Rattle.std.proofs.Common.{◌≡◌, ◌<◌, ◌^◌, drop}
use Rattle.it_space.specs.Divisors.{content}
use Rattle.it_space.proofs.divisors.content.Given as goal

abbrev pub invariant-loop-coefficient : goal.invariant-loop-coefficient
invariant-loop-coefficient l = (content l.common (drop l.coefficient-index l.terms) ≡ content 0 l.terms) × (l.common < 2 ^ 127)
