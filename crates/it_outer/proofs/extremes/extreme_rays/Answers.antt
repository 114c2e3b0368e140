use Rattle.std.proofs.Common.{rules, ◌≡◌, ◌∙◌, not}
use Rattle.std.specs.List.{list_any}
use Rattle.it_outer.specs.Extremes.{extreme_rays, is_extreme, is_outdone}
use Rattle.it_outer.specs.Rounds.{lists_of}
use Rattle.it_outer.proofs.OrderLemmas.{extreme_is, wanted_more}
use Rattle.it_outer.proofs.extremes.extreme_rays.Goals as goal

pub loop-i-preserved : goal.loop-i-preserved
loop-i-preserved c =
    let wanted : c.is_extreme-is_wanted.result ≡ not (list_any (is_outdone c.index.result.now.items) (lists_of c.in_ok-lists.lists.items))
    = search rules in record {
      ordered = wanted_more c.args.kept.now (is_extreme c.args.rows.now c.args.rays.now) c.args.rays.now c.loop-i.ordered.items
          c.put_wanted.new.ordered.items (extreme_rays c.args.kept.now c.args.rows.now c.args.rays.now) c.loop-i.i
          c.index-rays-i.result c.is_extreme-is_wanted.result c.loop-i-test.true c.index-rays-i.is
          (wanted ∙ extreme_is c.args.rows.now c.args.rays.now c.in_ok-lists.lists.items c.loop-i.i c.index.result.now c.index-rays-i.result
          c.in_ok-lists.ensures.lists c.loop-i-test.true c.index-rays-i.is c.index.ensures) c.in_ok-put_wanted.ensures.rays
          c.loop-i.invariant.ordered;
      sizes = c.in_ok-put_wanted.ensures.ordered;
    }
