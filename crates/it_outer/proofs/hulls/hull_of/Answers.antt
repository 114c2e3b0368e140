use Rattle.std.proofs.lemmas.List.{drop_all}
use Rattle.it_hull.specs.Hulls.{first_rows}
use Rattle.it_outer.specs.Rounds.{next_view, search_of}
use Rattle.it_outer.proofs.HullLemmas.{leads_done, leads_more}
use Rattle.it_outer.proofs.hulls.hull_of.Goals as goal

pub loop-ray-preserved : goal.loop-ray-preserved
loop-ray-preserved c = record {
  leads = leads_more (search_of c.args.frame.now) (first_rows c.args.frame.now.kept.items) c.args.rays.now (next_view c.loop-ray.next)
      (next_view c.in_ok-next.next) c.loop-ray.ray-index c.ray-item.result c.loop-ray-test.true c.ray-item.is
      c.in_ok-next.ensures.ends c.loop-ray.invariant.leads;
  next = c.in_ok-next.ensures.hull;
}

pub returns-clause-ends : goal.returns-clause-ends
returns-clause-ends c = leads_done (search_of c.args.frame.now) (first_rows c.args.frame.now.kept.items) c.args.rays.now
    (next_view c.loop-ray.next) c.loop-ray.ray-index (drop_all c.loop-ray.ray-index c.args.rays.now c.loop-ray-test.false)
    c.loop-ray.invariant.leads
