use Rattle.it_prove.proofs.ProofLemmas.{wide_start}
use Rattle.it_prove.proofs.closed.ClosedProblem.defined.Goals as goal

pub returns-in-Err-Wide-clause-ends : goal.returns-in-Err-Wide-clause-ends
returns-in-Err-Wide-clause-ends c = wide_start c.args.problem.now c.args.target.now c.args.pivots (c.in-Err-Wide.ensures.wide c.in-Err-Wide.field-0-is)
