use Rattle.std.proofs.Common.{◌≡◌, ◌<◌, ◌≤◌, ◌+◌, ◌-◌, ◌∷◌, ◌++◌, ◌∙◌, List, ap, sym, subst, arith, rules, length, map, take, drop}
use Rattle.std.proofs.lemmas.List.{drop_all, length-drop, take_all}
use Rattle.it_space.proofs.ListLemmas.{drop_item}
use Rattle.it_space.specs.Rows.{IsOver, Terms}
use Rattle.it_space.specs.Spaces.{size_of}
use Rattle.it_prove.specs.ProofViews.{EndsWith}
use Rattle.it_eliminate.specs.RowLines.{with_rows}
use Rattle.it_redundant.specs.Reduction.{kept_rows, kept_view, dropped_view}
use Rattle.it_redundant.specs.ReductionSteps.{AreRowsUpTo}
use Rattle.it_redundant.proofs.VisitLemmas.{rows_kept, under_way_end, under_way_more}
use Rattle.it_redundant.proofs.reduction.reduced_rows.Goals as goal

pub visit-requires-clause-kept : goal.visit-requires-clause-kept
visit-requires-clause-kept c =
    subst (AreRowsUpTo (size_of c.args.reduction.now.givens.now.space)) (rows_kept c.loop-i.reduced.kept.items) c.loop-i.invariant.under_way.up

pub visit-requires-clause-problem : goal.visit-requires-clause-problem
visit-requires-clause-problem c =
    let rows = c.args.rows.now in
    let i = c.loop-i.i in
    let row = c.index-rows-i.result in
    let below : i < length rows = search rules in
    let rest : take (length rows - (i + 1)) (drop (i + 1) rows) ≡ drop (i + 1) rows = take_all _ _ (simp length-drop (omega arith)) in
    c.loop-i.invariant.problem ∙ ap (λ (xs : List Terms). with_rows c.args.reduction.now.givens.now (map (λ k. k.0) c.loop-i.reduced.kept.items ++ xs))
    (drop_item rows i row below c.index-rows-i.is ∙ ap (λ (xs : List Terms). row ∷ xs) (sym rest))

pub loop-i-preserved : goal.loop-i-preserved
loop-i-preserved c =
    let q = c.args.reduction.now.givens.now in
    let size = size_of c.args.reduction.now.givens.now.space in
    let rows = c.args.rows.now in
    let i = c.loop-i.i in
    let row = c.index-rows-i.result in
    let below : i < length rows = search rules in
    let rest : take (length rows - (i + 1)) (drop (i + 1) rows) ≡ drop (i + 1) rows = take_all _ _ (simp length-drop (omega arith)) in record {
      under_way = under_way_more q c.args.reduction.now.effort size rows (kept_view c.loop-i.reduced) (kept_view c.visit.new.reduced)
          (dropped_view c.loop-i.reduced) (dropped_view c.visit.new.reduced) i row c.in_ok-visit.ensures.visited.outcome below
          (drop_item rows i row below c.index-rows-i.is) (subst (IsOver size) (sym c.index-rows-i.is) (c.requires.rows i row below))
          (subst (λ xs. EndsWith (with_rows q (kept_rows (kept_view c.loop-i.reduced) ++ xs)) row c.args.reduction.now.effort
          c.in_ok-visit.ensures.visited.outcome) rest c.in_ok-visit.ensures.visited.ends)
          c.in_ok-visit.ensures.visited.kept c.in_ok-visit.ensures.visited.dropped c.loop-i.invariant.under_way;
      closed = c.in_ok-visit.ensures.closed;
      problem = c.in_ok-visit.ensures.problem ∙ ap (λ (xs : List Terms). with_rows q (map (λ k. k.0) c.visit.new.reduced.kept.items ++ xs)) rest;
    }

pub returns : goal.returns
returns c =
    let all : length c.args.rows.now ≤ c.loop-i.i = search rules in
    under_way_end c.args.reduction.now.givens.now c.args.reduction.now.effort
    (size_of c.args.reduction.now.givens.now.space) c.args.rows.now (kept_view c.loop-i.reduced)
    (dropped_view c.loop-i.reduced) c.loop-i.i (drop_all c.loop-i.i c.args.rows.now all) c.loop-i.invariant.under_way
