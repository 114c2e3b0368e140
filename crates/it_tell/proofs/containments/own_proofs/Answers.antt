use Rattle.std.proofs.Common.{List, ℕ, [], map, subst, sym, arith}
use Rattle.std.proofs.lemmas.List.{length-map}
use Rattle.it_space.specs.Answers.{certificate_view}
use Rattle.it_tell.proofs.ProofLemmas.{ObligationsAppended, all_obligations, no_obligation_appended, obligations_more}
use Rattle.it_tell.proofs.containments.own_proofs.Goals as goal

pub loop-i-init : goal.loop-i-init
loop-i-init c =
    let q = c.args.asked.now.question.now.body in
    let ws = map certificate_view c.args.owed.now.proofs.now in
    subst (λ (out : List ℕ). ObligationsAppended q c.args.asked.now.options c.args.owed.now.rows.now ws [] out 0) (sym c.new-out.ensures.items)
    (no_obligation_appended q c.args.asked.now.options c.args.owed.now.rows.now ws [])

pub loop-i-preserved : goal.loop-i-preserved
loop-i-preserved c =
    obligations_more c.args.asked.now.question.now.body c.args.asked.now.options c.args.owed.now.rows.now c.args.owed.now.proofs.now
    c.index-rows-i.result c.index-proofs-i.result [] c.loop-i.out.items c.write_obligation.new.out.items
    c.loop-i.i c.loop-i.invariant c.requires.as_many (omega arith) c.index-rows-i.is c.index-proofs-i.is c.in_ok-write_obligation.ensures

pub returns : goal.returns
returns c =
    all_obligations c.args.asked.now.question.now.body c.args.asked.now.options c.args.owed.now.rows.now
    (map certificate_view c.args.owed.now.proofs.now) [] c.loop-i.out.items c.loop-i.i c.loop-i.invariant (simp length-map (omega arith))
