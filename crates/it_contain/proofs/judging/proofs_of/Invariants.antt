use Rattle.it_contain.specs.Search.{proof_views}
use Rattle.it_contain.specs.SearchSteps.{AreOutcomes}
use Rattle.it_contain.proofs.ProofLemmas.{AreUnderWay}
use Rattle.it_contain.proofs.judging.proofs_of.Given as goal

abbrev pub invariant-loop-target : goal.invariant-loop-target
invariant-loop-target l = record {
  under_way : AreUnderWay l.problem l.effort l.targets (proof_views l.proofs) l.target-index;
  outcomes : AreOutcomes l.problem l.effort l.outcomes;
}
