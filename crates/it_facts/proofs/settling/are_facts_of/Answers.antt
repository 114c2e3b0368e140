use Rattle.std.proofs.Common.{List, All, arith, subst}
use Rattle.std.proofs.lemmas.List.{take_all}
use Rattle.std.proofs.lemmas.List.Elements.{All-more}
use Rattle.it_space.specs.Rows.{point_of}
use Rattle.it_facts.specs.Settling.{IsFactOf}
use Rattle.it_facts.specs.declared.facts.Fact.{Fact}
use Rattle.it_facts.proofs.settling.are_facts_of.Goals as goal

pub loop-fact-preserved : goal.loop-fact-preserved
loop-fact-preserved c =
    All-more (IsFactOf c.args.space.variables c.args.space.rates (point_of c.args.point.now)) c.args.facts.now c.loop-fact.fact-index
    c.fact-item.result (omega arith) c.loop-fact.invariant
    (subst (IsFactOf c.args.space.variables c.args.space.rates (point_of c.args.point.now)) c.fact-item.is c.if-not-is_fact_of.ensures)

pub returns : goal.returns
returns c = subst (λ (fs : List Fact). All (IsFactOf c.args.space.variables c.args.space.rates (point_of c.args.point.now)) fs)
    (take_all c.loop-fact.fact-index c.args.facts.now (omega arith)) c.loop-fact.invariant
