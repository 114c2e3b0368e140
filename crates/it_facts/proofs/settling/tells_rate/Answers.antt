use Rattle.std.proofs.Common.{ℕ, subst, sym, eqb}
use Rattle.std.proofs.lemmas.Bool.{OnTrue_from, eqb-true}
use Rattle.it_facts.specs.Settling.{TellsRate}
use Rattle.it_facts.specs.declared.facts.Fact.{Fact}
use Rattle.it_facts.specs.declared.facts.Fact.TheVariants.{Rate}
use Rattle.it_facts.proofs.PointLemmas.{own_rate}
use Rattle.it_facts.proofs.settling.tells_rate.Goals as goal

pub returns-in-Rate : goal.returns-in-Rate
returns-in-Rate c =
    OnTrue_from (eqb c.in-Rate.other c.args.rate) (TellsRate c.args.rate c.args.fact.now) (λ e.
    subst (λ (f : Fact). TellsRate c.args.rate f) (sym c.in-Rate.is) (subst (λ (r : ℕ). TellsRate r (Rate c.in-Rate.other c.in-Rate.value))
    (eqb-true c.in-Rate.other c.args.rate e) (own_rate c.in-Rate.other c.in-Rate.value)))
