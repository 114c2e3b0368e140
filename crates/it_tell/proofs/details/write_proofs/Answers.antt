use Rattle.std.proofs.Common.{map}
use Rattle.std.proofs.lemmas.List.{length-map}
use Rattle.it_space.specs.Answers.{certificate_view}
use Rattle.it_tell.proofs.ProofLemmas.{all_proofs, no_proof_appended, proofs_more}
use Rattle.it_tell.proofs.details.write_proofs.Goals as goal

pub loop-i-init : goal.loop-i-init
loop-i-init c = no_proof_appended c.args.asked.now.question.now.body c.args.asked.now.options c.args.rows.now
    (map certificate_view c.args.proofs.now) c.args.out.now.items

pub loop-i-preserved : goal.loop-i-preserved
loop-i-preserved c = proofs_more c.args.asked.now.question.now.body c.args.asked.now.options c.args.rows.now c.args.proofs.now c.index-rows-i.result
    c.index-proofs-i.result c.args.out.now.items c.loop-i.out.items c.write_proof.new.out.items
    c.loop-i.i c.loop-i.invariant c.requires.as_many c.loop-i-test.true c.index-rows-i.is c.index-proofs-i.is c.in_ok-write_proof.ensures

pub returns : goal.returns
returns c = all_proofs c.args.asked.now.question.now.body c.args.asked.now.options c.args.rows.now
    (map certificate_view c.args.proofs.now) c.args.out.now.items c.loop-i.out.items c.loop-i.i c.loop-i.invariant
    (simp length-map c.loop-i-test.false)
