use Rattle.std.proofs.Common.{rules, ◌≡◌, false, subst, sym, length, List, ℤ}
use Rattle.it_outer.specs.Extremes.{direction, is_greater}
use Rattle.it_outer.specs.Rounds.{ArePlaces}
use Rattle.it_outer.proofs.OrderLemmas.{place_later}
use Rattle.it_outer.proofs.extremes.place_of.Goals as goal

pub comes_before-requires-clause-other : goal.comes_before-requires-clause-other
comes_before-requires-clause-other c = subst (λ (p : List ℤ). ArePlaces (length p) c.args.kept.now) (sym c.index-points-i.is)
    (c.requires.points c.loop-i.i c.index-points-i.result c.loop-i-test.true)

pub loop-i-preserved : goal.loop-i-preserved
loop-i-preserved c =
    let no : is_greater c.args.kept.now (direction c.args.kept.now c.args.point.now) (direction c.args.kept.now c.index-points-i.result)
    ≡ false = search rules in
    place_later c.args.kept.now c.args.point.now c.args.points.now c.loop-i.i c.index-points-i.result c.loop-i-test.true c.index-points-i.is
    no c.loop-i.invariant
