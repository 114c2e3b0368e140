use Rattle.std.proofs.Common.{refl}
use Rattle.it_outer.specs.declared.types.Outer.TheVariants as ends
use Rattle.it_outer.specs.declared.types.OuterCause.TheVariants as causes
use Rattle.it_outer.specs.declared.types.Visit.TheVariants as visits
use Rattle.it_outer.specs.Outer.{outer_view}
use Rattle.it_outer.specs.Rounds.{search_of, visit_view}
use Rattle.it_outer.proofs.HullLemmas.{hull_over}
use Rattle.it_outer.specs.Search.{VisitEnds}
use Rattle.it_outer.proofs.RoundLemmas.{visited_last}
use Rattle.it_outer.proofs.passes.last_round.Goals as goal

pub visit-requires-clause-rows : goal.visit-requires-clause-rows
visit-requires-clause-rows c = rw c.as_slice.ensures.value (hull_over (search_of c.args.frame.now) c.requires.frame.search c.args.hull c.requires.hull)

pub returns-in-Proved-clause-ends : goal.returns-in-Proved-clause-ends
returns-in-Proved-clause-ends c =
    let e : VisitEnds c.args.frame.now.problem.now c.args.frame.now.limits.effort c.args.hull.rows.items
    (visit_view c.in_ok-proofs.field-0) = rw (← c.as_slice.ensures.value) c.in_ok-proofs.ensures.ends in
    visited_last (search_of c.args.frame.now) c.args.hull.rows.items c.args.rays.items c.in_ok-proofs.field-0
    (visits.Proved c.in-Proved.proofs) (outer_view (ends.Bounds
    (record { hull = c.args.hull; proofs = c.in-Proved.proofs; rays = c.args.rays }))) c.in-Proved.is e refl

pub returns-in-Refuted-clause-ends : goal.returns-in-Refuted-clause-ends
returns-in-Refuted-clause-ends c =
    let e : VisitEnds c.args.frame.now.problem.now c.args.frame.now.limits.effort c.args.hull.rows.items
    (visit_view c.in_ok-proofs.field-0) = rw (← c.as_slice.ensures.value) c.in_ok-proofs.ensures.ends in
    visited_last (search_of c.args.frame.now) c.args.hull.rows.items c.args.rays.items c.in_ok-proofs.field-0
    (visits.Refuted c.in-Refuted.field-0) (outer_view (ends.Undecided causes.Rays)) c.in-Refuted.is e refl

pub returns-in-Left-clause-ends : goal.returns-in-Left-clause-ends
returns-in-Left-clause-ends c =
    let e : VisitEnds c.args.frame.now.problem.now c.args.frame.now.limits.effort c.args.hull.rows.items
    (visit_view c.in_ok-proofs.field-0) = rw (← c.as_slice.ensures.value) c.in_ok-proofs.ensures.ends in
    visited_last (search_of c.args.frame.now) c.args.hull.rows.items c.args.rays.items c.in_ok-proofs.field-0
    (visits.Left c.in-Left.row c.in-Left.cause) (outer_view (ends.Undecided (causes.Run c.in-Left.row c.in-Left.cause))) c.in-Left.is e
    refl
