use Rattle.it_outer.specs.Rounds.{AreOfSpace, AreOutcomes, IsHullSystem, search_of}
use Rattle.it_outer.proofs.RoundLemmas.{PassLeads}
use Rattle.it_outer.proofs.passes.rounds.Given as goal

abbrev pub invariant-loop-count : goal.invariant-loop-count
invariant-loop-count l = record {
  leads : PassLeads (search_of l.frame) l.frame.limits.rays l.initial.hull.rows.items l.initial.rays.items l.hull.rows.items l.rays.items l.count;
  hull : IsHullSystem (search_of l.frame) l.hull;
  rays : AreOfSpace (search_of l.frame) l.rays.items;
  outcomes : AreOutcomes l.frame.problem.now l.frame.limits.effort l.outcomes;
}
