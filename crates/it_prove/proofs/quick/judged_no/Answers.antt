use Rattle.it_prove.proofs.QuickLemmas.{settled_no}
use Rattle.it_prove.proofs.quick.judged_no.Goals as goal

pub returns-in-Valid : goal.returns-in-Valid
returns-in-Valid c = settled_no c.args.problem.now c.args.target.now c.facts.ensures c.requires.target c.args.point c.requires.complete
    c.requires.within c.in-Valid.ensures
