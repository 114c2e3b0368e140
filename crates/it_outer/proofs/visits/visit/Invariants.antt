use Rattle.std.proofs.Common.{map, take}
use Rattle.it_space.specs.Answers.{certificate_view}
use Rattle.it_prove.specs.ProofViews.{AreProofsOf}
use Rattle.it_outer.specs.Rounds.{AreOutcomes}
use Rattle.it_outer.proofs.visits.visit.Given as goal

abbrev pub invariant-loop-row : goal.invariant-loop-row
invariant-loop-row l = record {
  proved : AreProofsOf l.problem l.effort (take l.row-index l.rows) (map certificate_view l.proofs.items);
  outcomes : AreOutcomes l.problem l.effort l.outcomes;
}
