use Rattle.std.proofs.Common.{}
use Rattle.it_facts.proofs.FactTexts.{point_by_facts}
use Rattle.it_facts.proofs.points.judged.Goals as goal

pub returns : goal.returns
returns c = point_by_facts c.args.names.now c.args.point.now c.in_ok-text.text.items c.space.result c.args.facts.now c.space.ensures.counts
    c.if-not-determine.ensures c.in_ok-text.ensures
