use Rattle.std.proofs.Common.{◌∙◌, rules}
use Rattle.it_contain.proofs.BoxLemmas.{kept_at}
use Rattle.it_contain.proofs.boxes.tell_all.Goals as goal

pub loop-i-preserved : goal.loop-i-preserved
loop-i-preserved g c = record {
  count = search rules;
  plans = kept_at _ c.loop-i.boxes.items c.loop-i.i c.tell_one.new.one c.index_mut.result.now c.index_mut.ensures.value
      c.tell_one.ensures.plan ∙ c.loop-i.invariant.plans;
  pending = kept_at _ c.loop-i.boxes.items c.loop-i.i c.tell_one.new.one c.index_mut.result.now c.index_mut.ensures.value
      c.tell_one.ensures.pending ∙ c.loop-i.invariant.pending;
}
