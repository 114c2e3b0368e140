-- The laws of a source whose bytes are known, and of a count that doesn't change.
use Rattle.std.proofs.Common.{ap, sym, ◌∙◌, Some, None, ◌++◌, append-nil, length, length-append, arith}
use Rattle.it_outside.specs.Laws.{EndComesLast, MoreWasThere, StayedIsNoFault}

pub end_comes_last : EndComesLast
end_comes_last bytes given None gave = absurd gave.given
end_comes_last bytes given (Some left) gave = sym (gave.given ∙ ap (λ l. given ++ l) gave.ended ∙ append-nil given)

pub more_was_there : MoreWasThere
more_was_there bytes None limit gave = absurd gave.given
more_was_there bytes (Some left) limit gave = let e = simp length-append at (ap length gave.given) in omega (arith, e, gave.more)

pub stayed_is_no_fault : StayedIsNoFault
stayed_is_no_fault count few stayed = omega (arith, few, stayed)
