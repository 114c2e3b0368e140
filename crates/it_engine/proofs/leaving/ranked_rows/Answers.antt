use Rattle.std.proofs.Common.{slice_index_or, rules}
use Rattle.std.proofs.lemmas.List.Sorted.{IsNonDecreasingBy-from_sort_by_key}
use Rattle.it_engine.proofs.RankedRows.{ranked_by_column}
use Rattle.it_engine.proofs.leaving.ranked_rows.Goals as goal

pub returns : goal.returns
returns c =
    let ascend = IsNonDecreasingBy-from_sort_by_key (λ i. slice_index_or c.args.basis.now i 0) _ c.sort_unstable_by_key.ensures.sorted
    (λ a r q k. search rules) in
    ranked_by_column c.args.rows.now c.args.basis.now _ _ c.in_ok-ranked.ensures c.sort_unstable_by_key.ensures.permutation ascend
