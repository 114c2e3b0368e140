use Rattle.std.proofs.Common.{rules, ◌≡◌, ◌∷◌, [], ◌++◌}
use Rattle.it_space.specs.Rows.{ValueFits, point_of}
use Rattle.it_hull.specs.Hulls.{with_multiplier}
use Rattle.it_hull.proofs.RayLemmas.{more_mapped, more_within}
use Rattle.it_hull.proofs.hulls.rows_with_multiplier.Goals as goal

pub loop-row-preserved : goal.loop-row-preserved
loop-row-preserved c =
    let pushed : c.push.new.self.items ≡ c.loop-row.list.items ++ c.in_ok-next.next ∷ [] = search rules in (
      more_mapped (with_multiplier c.args.at (point_of c.args.ray.now)) c.args.rows.now c.loop-row.list.items c.push.new.self.items
          c.loop-row.row-index c.row-item.result c.in_ok-next.next
          c.loop-row-test.true pushed c.in_ok-next.ensures.row c.row-item.is c.loop-row.invariant.0,
      more_within (λ row. ValueFits row (point_of c.args.ray.now)) c.args.rows.now c.loop-row.row-index c.row-item.result
          c.loop-row-test.true c.row-item.is c.in_ok-next.ensures.fit c.loop-row.invariant.1,
    )
