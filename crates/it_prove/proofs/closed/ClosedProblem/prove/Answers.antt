use Rattle.it_prove.proofs.ProofLemmas.{defined_ends}
use Rattle.it_prove.proofs.RightLemmas.{right_result}
use Rattle.it_prove.proofs.closed.ClosedProblem.prove.Goals as goal

pub defined-requires-clause-closed : goal.defined-requires-clause-closed
defined-requires-clause-closed c = c.in_ok-proof.ensures.stays c.args.problem.now c.requires.closed

pub returns-in-None-clause-right : goal.returns-in-None-clause-right
returns-in-None-clause-right c = right_result c.args.problem.now c.args.target.now c.args.effort c.defined.result c.facts.ensures c.requires.target
    (defined_ends c.args.problem.now c.args.target.now c.args.effort c.defined.result c.defined.ensures.ends)
