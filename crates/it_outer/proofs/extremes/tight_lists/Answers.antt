use Rattle.std.proofs.Common.{rules, ◌≡◌, ◌∷◌, [], ◌++◌, map, ap, ◌∙◌, subst, sym, length, List, ℤ, All}
use Rattle.it_space.specs.Rows.{IsOver}
use Rattle.std.proofs.lemmas.List.{map-append}
use Rattle.it_hull.specs.Rays.{ValuesFit}
use Rattle.it_outer.specs.Extremes.{tight_at}
use Rattle.it_outer.specs.Rounds.{lists_of}
use Rattle.it_outer.proofs.OrderLemmas.{map_more, not_all, within_all, within_more}
use Rattle.it_outer.proofs.extremes.tight_lists.Goals as goal

pub loop-ray-preserved : goal.loop-ray-preserved
loop-ray-preserved c =
    let pushed : c.push.new.self.items ≡ c.loop-ray.lists.items ++ c.in-Ok.tight ∷ [] = search rules in record {
      lists = map_more (tight_at c.args.rows.now) c.args.rays.now (lists_of c.loop-ray.lists.items) (lists_of c.push.new.self.items)
          (map (tight_at c.args.rows.now) c.args.rays.now) c.loop-ray.ray-index c.ray-item.result c.in-Ok.tight.items
          c.loop-ray-test.true (ap lists_of pushed ∙ map-append (λ v. v.items) c.loop-ray.lists.items (c.in-Ok.tight ∷ []))
          c.in-Ok.ensures.list c.ray-item.is c.loop-ray.invariant.lists;
      fit = within_more (λ ray. ValuesFit ray c.args.rows.now) c.args.rays.now c.loop-ray.ray-index c.ray-item.result c.loop-ray-test.true
          c.ray-item.is c.in-Ok.ensures.fit c.loop-ray.invariant.fit;
    }

pub tight_at-requires : goal.tight_at-requires
tight_at-requires c = record {
  rows = subst (λ (ray : List ℤ). All (IsOver (length ray)) c.args.rows.now) (sym c.ray-item.is)
      (c.requires c.loop-ray.ray-index c.ray-item.result c.loop-ray-test.true);
}

pub returns-in-Err-clause-wide : goal.returns-in-Err-clause-wide
returns-in-Err-clause-wide c = λ e. not_all (λ ray. ValuesFit ray c.args.rows.now) c.args.rays.now c.loop-ray.ray-index c.ray-item.result
    c.loop-ray-test.true c.ray-item.is (c.in-Err.ensures.wide e)

pub returns-clause-fit : goal.returns-clause-fit
returns-clause-fit c = within_all (λ ray. ValuesFit ray c.args.rows.now) c.args.rays.now c.loop-ray.ray-index c.loop-ray-test.false c.loop-ray.invariant.fit
