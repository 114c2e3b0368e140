use Rattle.std.proofs.Common.{◌∙◌, rules}
use Rattle.std.proofs.lemmas.List.{length-map}
use Rattle.it_contain.specs.Proposals.{plan_after}
use Rattle.it_contain.proofs.BoxLemmas.{learned_more, later_kept, rest_more, all_taken}
use Rattle.it_contain.proofs.boxes.teach_all.Goals as goal

pub loop-i-preserved : goal.loop-i-preserved
loop-i-preserved g c =
    let old = c.index_mut.result.now in
    let new = c.teach_one.new.one in
    record {
      count = search rules;
      initial = search rules;
      rest = later_kept _ c.loop-i.boxes.items c.loop-i.i new ∙ rest_more _ _ c.loop-i.i c.loop-i.invariant.rest;
      taught = learned_more _ (plan_after c.args.candidate.now) c.loop-i.boxes.items _ c.loop-i.i new old (search rules)
          (simp length-map (search rules)) c.index_mut.ensures.value c.teach_one.ensures c.loop-i.invariant.rest c.loop-i.invariant.taught;
    }

pub returns : goal.returns
returns g c = all_taken _ _ c.loop-i.i (simp length-map (search rules)) (simp length-map (search rules)) c.loop-i.invariant.taught
