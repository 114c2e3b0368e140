use Rattle.std.proofs.Common.{map, subst}
use Rattle.it_space.specs.Answers.{certificate_view}
use Rattle.it_outer.specs.declared.types.Outer.{Outer}
use Rattle.it_outer.specs.Outer.{outer_view, search_without}
use Rattle.it_outer.specs.Search.{SearchEnds}
use Rattle.it_bounds.proofs.SearchLemmas.{bounds_over}
use Rattle.it_bounds.proofs.replying.bound.Goals as goal

pub marked-requires-clause-rows : goal.marked-requires-clause-rows
marked-requires-clause-rows c =
    let b = c.in-Bounds.bounds in
    rw c.space.ensures.value (bounds_over c.args.problem.now c.args.gone.now c.args.limits c.facts.ensures c.requires.gone c.requires.some
    c.requires.few_rows b.hull.rows.items (map certificate_view b.proofs.items) b.rays.items
    (subst (λ (o : Outer). SearchEnds (search_without c.args.problem.now c.args.gone.now c.args.limits) (outer_view o)) c.in-Bounds.is
    c.in_ok-end.ensures.ends)).0

pub marked-requires-clause-few : goal.marked-requires-clause-few
marked-requires-clause-few c =
    let b = c.in-Bounds.bounds in
    (bounds_over c.args.problem.now c.args.gone.now c.args.limits c.facts.ensures c.requires.gone c.requires.some c.requires.few_rows
    b.hull.rows.items (map certificate_view b.proofs.items) b.rays.items
    (subst (λ (o : Outer). SearchEnds (search_without c.args.problem.now c.args.gone.now c.args.limits) (outer_view o)) c.in-Bounds.is
    c.in_ok-end.ensures.ends)).1
