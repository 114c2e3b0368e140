use Rattle.it_hull.specs.Hulls.{first_rows}
use Rattle.it_outer.specs.Rounds.{IsNext, next_view, search_of}
use Rattle.it_outer.proofs.HullLemmas.{LeadsTo}
use Rattle.it_outer.proofs.hulls.hull_of.Given as goal

abbrev pub invariant-loop-ray : goal.invariant-loop-ray
invariant-loop-ray l = record {
  leads : LeadsTo (search_of l.frame) (first_rows l.frame.kept.items) l.rays (next_view l.next) l.ray-index;
  next : IsNext (search_of l.frame) l.next;
}
