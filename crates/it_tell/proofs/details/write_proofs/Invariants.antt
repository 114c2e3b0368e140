use Rattle.std.proofs.Common.{map}
use Rattle.it_space.specs.Answers.{certificate_view}
use Rattle.it_tell.proofs.ProofLemmas.{ProofsAppended}
use Rattle.it_tell.proofs.details.write_proofs.Given as goal

abbrev pub invariant-loop-i : goal.invariant-loop-i
invariant-loop-i l = ProofsAppended l.asked.question.now.body l.asked.options l.rows (map certificate_view l.proofs) l.initial.out.items l.out.items l.i
