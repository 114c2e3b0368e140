use Rattle.std.proofs.Common.{◌≡◌, ◌+◌, ◌^◌, ◌<◌, ℕ, bit_and, ap}
use Rattle.it_closure.specs.Closures.{closure}
use Rattle.it_closure.specs.DependencesViews.{DependencesView, AreOfSpace}
use Rattle.it_closure.proofs.Meets.{closure_is}
use Rattle.it_closure.proofs.ClosingLoop.{of_space}
use Rattle.it_lift.proofs.SumSteps.{less_found}
use Rattle.it_lift.proofs.Differences.{less_below, less_apart}
use Rattle.it_lift.proofs.moves.add_moves.Goals as goal

-- what a closed set has more
rest_below : (d : DependencesView) (s c r n : ℕ) → AreOfSpace d → s < 2 ^ d.space.variables → n ≡ d.space.variables
    → c ≡ closure d.space.variables d.list s → r + bit_and s c ≡ c
    → (r < 2 ^ n) × (bit_and r s ≡ 0)
rest_below d s c r n a l e f g =
    let below : closure d.space.variables d.list s < 2 ^ d.space.variables = (closure_is d.space.variables d.list s (of_space d a).below l).below in
    let below' : c < 2 ^ d.space.variables = rw f below in
    rw (e, less_found c s r g) (less_below d.space.variables c s below', less_apart d.space.variables c s below' l)

pub add_conditional-requires-clause-a_below : goal.add_conditional-requires-clause-a_below
add_conditional-requires-clause-a_below c = (rest_below c.args.dependences.now c.args.set c.close.result c.minus.result
    c.space-n.result.variables c.space-n.ensures.shape c.requires.below
    (ap (λ s. s.variables) c.space-n.ensures.value) (c.close.ensures.own c.requires.below) c.minus.ensures.rest).0

pub add_conditional-requires-clause-disjoint : goal.add_conditional-requires-clause-disjoint
add_conditional-requires-clause-disjoint c = (rest_below c.args.dependences.now c.args.set c.close.result c.minus.result
    c.space-n.result.variables c.space-n.ensures.shape c.requires.below
    (ap (λ s. s.variables) c.space-n.ensures.value) (c.close.ensures.own c.requires.below) c.minus.ensures.rest).1
