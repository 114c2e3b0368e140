use Rattle.it_space.specs.Spaces.{size_of}
use Rattle.it_ratio.proofs.SideSteps.{IsUnderWay}
use Rattle.it_ratio.proofs.sides.side_row.Given as goal

abbrev pub invariant-loop-at : goal.invariant-loop-at
invariant-loop-at l = IsUnderWay (size_of l.fn.space) l.num l.den l.left l.right l.at l.terms.items
