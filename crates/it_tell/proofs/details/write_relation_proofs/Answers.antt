use Rattle.std.proofs.Common.{length, map, ap, ◌∙◌}
use Rattle.std.proofs.lemmas.Result.{on_ok_weaker}
use Rattle.it_space.specs.Answers.{certificate_view}
use Rattle.it_tell.proofs.ProofLemmas.{relation_rows_counted, yes_details}
use Rattle.it_tell.proofs.details.write_relation_proofs.Goals as goal

pub write_proofs-requires-clause-as_many : goal.write_proofs-requires-clause-as_many
write_proofs-requires-clause-as_many c =
    ap length c.as_slice.ensures.value ∙ relation_rows_counted c.args.question.now.body c.args.proofs.now c.in_ok-rows.rows.items
    c.requires.fits c.in_ok-rows.ensures

pub returns : goal.returns
returns c = on_ok_weaker c.write_proofs.result
    (yes_details c.args.question.now.body c.args.options (map certificate_view c.args.proofs.now) c.in_ok-rows.rows.items
    c.args.out.now.items c.write_proofs.new.out.items c.in_ok-rows.ensures)
    (rw c.as_slice.ensures.value at c.write_proofs.ensures)
