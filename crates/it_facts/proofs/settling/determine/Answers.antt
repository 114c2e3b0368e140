use Rattle.std.proofs.lemmas.Bool.{OnTrue_at, OnTrue_from}
use Rattle.it_space.specs.Rows.{point_of}
use Rattle.it_facts.specs.Points.{Determine}
use Rattle.it_facts.proofs.PointLemmas.{facts_determine}
use Rattle.it_facts.proofs.settling.determine.Goals as goal

pub returns : goal.returns
returns c =
    OnTrue_from c.tell_rates.result (Determine c.args.space.variables c.args.space.rates c.args.facts.now (point_of c.args.point.now)) (λ e.
    facts_determine c.args.space.variables c.args.space.rates (point_of c.args.point.now) c.args.facts.now c.if-not-are_facts_of.ensures
    c.if-not-tell_sets.ensures (OnTrue_at e c.tell_rates.ensures))
