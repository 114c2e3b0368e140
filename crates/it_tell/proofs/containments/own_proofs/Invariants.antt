use Rattle.std.proofs.Common.{[], map}
use Rattle.it_space.specs.Answers.{certificate_view}
use Rattle.it_tell.proofs.ProofLemmas.{ObligationsAppended}
use Rattle.it_tell.proofs.containments.own_proofs.Given as goal

abbrev pub invariant-loop-i : goal.invariant-loop-i
invariant-loop-i l = ObligationsAppended l.asked.question.now.body l.asked.options l.owed.rows.now (map certificate_view l.owed.proofs.now) [] l.out.items l.i
