use Rattle.std.proofs.Common.{refl}
use Rattle.it_hull.specs.Hulls.{first_rows}
use Rattle.it_outer.specs.declared.types.Next.{Next}
use Rattle.it_outer.specs.declared.types.Next.TheVariants as nexts
use Rattle.it_outer.specs.Outer.{Rows, Undecided, Width}
use Rattle.it_outer.specs.Rounds.{IsNext, next_view, search_of}
use Rattle.it_outer.specs.Search.{HullEnds}
use Rattle.std.proofs.Common.{subst}
use Rattle.it_outer.proofs.RoundLemmas.{hull_pass, pass_by}
use Rattle.it_outer.proofs.passes.pass.Goals as goal

pub hull_of-requires-clause-rays : goal.hull_of-requires-clause-rays
hull_of-requires-clause-rays c = rw c.as_slice.ensures.value c.requires.rays

pub rounds-requires-clause-hull : goal.rounds-requires-clause-hull
rounds-requires-clause-hull c = subst (λ (n : Next). IsNext (search_of c.args.frame.now) n) c.in-Hull.is c.in_ok-hull.ensures.hull

pub returns-in-Hull-clause-ends : goal.returns-in-Hull-clause-ends
returns-in-Hull-clause-ends c =
    let e : HullEnds (search_of c.args.frame.now) (first_rows c.args.frame.now.kept.items) c.args.rays.items
    (next_view c.in_ok-hull.field-0) = rw (← c.as_slice.ensures.value) c.in_ok-hull.ensures.ends in
    hull_pass (search_of c.args.frame.now) c.args.rays.items c.in_ok-hull.field-0 c.in-Hull.hull c.rounds.result c.in-Hull.is e c.rounds.ensures.ends

pub returns-in-TooMany-clause-ends : goal.returns-in-TooMany-clause-ends
returns-in-TooMany-clause-ends c =
    let e : HullEnds (search_of c.args.frame.now) (first_rows c.args.frame.now.kept.items) c.args.rays.items
    (next_view c.in_ok-hull.field-0) = rw (← c.as_slice.ensures.value) c.in_ok-hull.ensures.ends in
    pass_by (search_of c.args.frame.now) c.args.rays.items c.in_ok-hull.field-0 nexts.TooMany (Undecided Rows) c.in-TooMany.is e refl

pub returns-in-TooWide-clause-ends : goal.returns-in-TooWide-clause-ends
returns-in-TooWide-clause-ends c =
    let e : HullEnds (search_of c.args.frame.now) (first_rows c.args.frame.now.kept.items) c.args.rays.items
    (next_view c.in_ok-hull.field-0) = rw (← c.as_slice.ensures.value) c.in_ok-hull.ensures.ends in
    pass_by (search_of c.args.frame.now) c.args.rays.items c.in_ok-hull.field-0 nexts.TooWide (Undecided Width) c.in-TooWide.is e refl
