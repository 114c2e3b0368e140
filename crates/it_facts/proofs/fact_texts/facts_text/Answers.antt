use Rattle.std.proofs.Common.{◌∙◌, codes}
use Rattle.it_facts.specs.Points.{fact_text}
use Rattle.it_facts.proofs.FactTexts.{item_step}
use Rattle.it_facts.proofs.fact_texts.facts_text.Goals as goal

pub loop-fact-preserved : goal.loop-fact-preserved
loop-fact-preserved c =
    rw c.in_ok-write_next.ensures
    (item_step (codes ", ") (fact_text c.args.names.now) c.args.facts.now c.loop-fact.fact-index c.fact-item.result c.loop-fact.some c.loop-fact.out.items c.loop-fact-test.true c.fact-item.is ∙ c.loop-fact.invariant)
