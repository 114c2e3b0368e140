use Rattle.std.proofs.Common.{subst}
use Rattle.it_outer.specs.Outer.{Search, outer_view, search_without}
use Rattle.it_outer.specs.Search.{SearchEnds}
use Rattle.it_outer.proofs.BoundLemmas.{search_is_right}
use Rattle.it_outer.proofs.FrameLemmas.{without_is_search}
use Rattle.it_outer.proofs.search.outer.Goals as goal

pub returns : goal.returns
returns c =
    let s : Search = search_without c.args.problem.now c.args.gone.now c.args.limits in
    let ends : SearchEnds s (outer_view c.in_ok-end.end) = subst (λ (x : Search). SearchEnds x (outer_view c.in_ok-end.end))
    c.in_ok-frame.ensures.search c.in_ok-end.ensures in record {
      ends = ends;
      right = search_is_right s (outer_view c.in_ok-end.end) (without_is_search c.args.problem.now c.args.gone.now c.args.limits
          c.facts.ensures c.requires.gone c.requires.some c.requires.few_rows) ends;
    }
