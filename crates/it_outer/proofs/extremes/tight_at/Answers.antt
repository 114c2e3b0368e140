use Rattle.std.proofs.Common.{rules, ◌≡◌, ◌∷◌, [], ◌++◌, pos, refl}
use Rattle.std.specs.Ordering.{int_eq}
use Rattle.it_space.specs.Rows.{ValueFits, point_of, value}
use Rattle.it_outer.specs.Extremes.{tight_at}
use Rattle.it_outer.proofs.OrderLemmas.{map_more, within_more}
use Rattle.it_outer.proofs.extremes.tight_at.Goals as goal

pub loop-row-preserved : goal.loop-row-preserved
loop-row-preserved c =
    let pushed : c.push.new.self.items ≡ c.loop-row.tight.items ++ int_eq (value c.row-item.result (point_of c.args.ray.now)) (pos 0) ∷ [] = search rules in
    let fits : ValueFits c.row-item.result (point_of c.args.ray.now) = search rules in record {
      tight = map_more (λ row. int_eq (value row (point_of c.args.ray.now)) (pos 0)) c.args.rows.now c.loop-row.tight.items
          c.push.new.self.items (tight_at c.args.rows.now c.args.ray.now) c.loop-row.row-index c.row-item.result
          (int_eq (value c.row-item.result (point_of c.args.ray.now)) (pos 0)) c.loop-row-test.true pushed refl c.row-item.is c.loop-row.invariant.tight;
      fit = within_more (λ row. ValueFits row (point_of c.args.ray.now)) c.args.rows.now c.loop-row.row-index c.row-item.result
          c.loop-row-test.true c.row-item.is fits c.loop-row.invariant.fit;
    }
