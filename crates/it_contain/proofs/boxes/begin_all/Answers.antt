use Rattle.std.proofs.Common.{[], ◌∙◌, rules}
use Rattle.it_contain.proofs.BoxLemmas.{kept_at, begun_more}
use Rattle.it_contain.proofs.boxes.begin_all.Goals as goal

pub loop-i-preserved : goal.loop-i-preserved
loop-i-preserved g c =
    let old = c.index_mut.result.now in
    let new = c.begin_one.new.one in
    record {
      count = search rules;
      plans = kept_at _ c.loop-i.boxes.items c.loop-i.i new old c.index_mut.ensures.value c.begin_one.ensures.plan ∙ c.loop-i.invariant.plans;
      begun = begun_more _ _ (λ p. p c.args.shape []) c.loop-i.boxes.items _ c.loop-i.i new old
          (search rules) c.loop-i.invariant.plans c.index_mut.ensures.value c.begin_one.ensures.pending c.loop-i.invariant.begun;
    }
