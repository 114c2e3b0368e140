use Rattle.std.proofs.Common.{subst, List, ℤ, []}
use Rattle.it_outer.specs.Outer.{outer_view}
use Rattle.it_outer.specs.Rounds.{search_of}
use Rattle.it_outer.specs.Search.{PassWithEnds}
use Rattle.it_outer.proofs.search.both_passes.Goals as goal

pub second-requires-clause-first : goal.second-requires-clause-first
second-requires-clause-first c = subst (λ (rs : List (List ℤ)). PassWithEnds (search_of c.args.frame.now) rs
    (outer_view c.in_ok-first.first)) c.new-2.ensures.items c.in_ok-first.ensures.ends

pub returns : goal.returns
returns c =
    let first : PassWithEnds (search_of c.args.frame.now) [] (outer_view c.in_ok-first.first) =
    subst (λ (rs : List (List ℤ)). PassWithEnds (search_of c.args.frame.now) rs (outer_view c.in_ok-first.first)) c.new-2.ensures.items
    c.in_ok-first.ensures.ends in (outer_view c.in_ok-first.first, first, c.in_ok-end.ensures)
