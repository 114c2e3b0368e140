use Rattle.it_region.proofs.PairLemmas.{limits_of}
use Rattle.it_region.proofs.pairs.pair.Goals as goal

pub returns-clause-limits : goal.returns-clause-limits
returns-clause-limits c = limits_of c.args.question.now.body c.pair_of.result c.facts.ensures c.pair_of.ensures.pair c.pair_of.ensures.problem
