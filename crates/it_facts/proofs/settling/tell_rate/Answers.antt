use Rattle.it_facts.proofs.PointLemmas.{rate_by_item}
use Rattle.it_facts.proofs.settling.tell_rate.Goals as goal

pub returns-then-tells_rate : goal.returns-then-tells_rate
returns-then-tells_rate c = rate_by_item c.args.facts.now c.args.rate c.loop-fact.fact-index c.fact-item.result c.loop-fact-test.true
    c.fact-item.is c.if-tells_rate.ensures
