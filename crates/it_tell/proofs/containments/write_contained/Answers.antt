use Rattle.std.proofs.Common.{ap, length, map, sym, ◌∙◌}
use Rattle.std.proofs.lemmas.Result.{on_ok_weaker}
use Rattle.it_space.specs.Answers.{certificate_view}
use Rattle.it_report.proofs.JudgingLemmas.{contained_is_about_regions}
use Rattle.it_tell.specs.Steps.{contained_by}
use Rattle.it_tell.proofs.OwnLineLemmas.{all_obligations_there, lines_details, rows_over}
use Rattle.it_tell.proofs.ProofLemmas.{contained_details, form_rows, obligation_rows_counted}
use Rattle.it_tell.proofs.containments.write_contained.Goals as goal

pub write_proofs-requires-clause-as_many : goal.write_proofs-requires-clause-as_many
write_proofs-requires-clause-as_many c =
    let q = c.args.asked.now.question.now.body in
    let parts = c.args.asked.now.parts.now in
    ap length c.as_slice-rows.ensures.value
    ∙ obligation_rows_counted q parts c.args.proofs.now c.in_ok-rows.rows.items c.requires.fits
    (form_rows q (contained_by parts c.args.proofs.now) c.in_ok-rows.rows.items c.in_ok-rows.ensures)

pub write_own_lines-requires-clause-as_many : goal.write_own_lines-requires-clause-as_many
write_own_lines-requires-clause-as_many c =
    let q = c.args.asked.now.question.now.body in
    let parts = c.args.asked.now.parts.now in
    ap length c.as_slice-rows.ensures.value
    ∙ obligation_rows_counted q parts c.args.proofs.now c.in_ok-rows.rows.items c.requires.fits
    (form_rows q (contained_by parts c.args.proofs.now) c.in_ok-rows.rows.items c.in_ok-rows.ensures)

pub own_constraints-requires : goal.own_constraints-requires
own_constraints-requires c = record {
  contains = contained_is_about_regions
      c.args.asked.now.question.now.body c.args.asked.now.parts.now (map certificate_view c.args.proofs.now) c.requires.fits;
}

pub write_own_lines-requires-clause-contains : goal.write_own_lines-requires-clause-contains
write_own_lines-requires-clause-contains c = contained_is_about_regions
    c.args.asked.now.question.now.body c.args.asked.now.parts.now (map certificate_view c.args.proofs.now) c.requires.fits

pub write_own_lines-requires-clause-over : goal.write_own_lines-requires-clause-over
write_own_lines-requires-clause-over c =
    rw c.as_slice-rows.ensures.value
    (rows_over c.args.asked.now.question.now.body c.free_problem-free.result c.args.asked.now.parts.now
    (map certificate_view c.args.proofs.now) c.in_ok-rows.rows.items c.free_problem-free.ensures c.in_ok-rows.ensures)

pub write_own_lines-requires-clause-all : goal.write_own_lines-requires-clause-all
write_own_lines-requires-clause-all c =
    rw (c.as_slice.ensures.value, c.as_slice-rows.ensures.value)
    (all_obligations_there c.args.asked.now.question.now.body c.args.asked.now.parts.now
    (map certificate_view c.args.proofs.now) c.in_ok-own.own.items c.in_ok-rows.rows.items c.in_ok-own.ensures c.in_ok-rows.ensures)

pub returns-then-is_plain : goal.returns-then-is_plain
returns-then-is_plain c =
    let q = c.args.asked.now.question.now.body in
    let parts = c.args.asked.now.parts.now in
    on_ok_weaker c.write_proofs.result
    (contained_details q c.args.asked.now.options parts (map certificate_view c.args.proofs.now) c.in_ok-rows.rows.items
    c.args.out.now.items c.write_proofs.new.out.items (sym c.is_plain.ensures ∙ c.if-is_plain.true)
    (form_rows q (contained_by parts c.args.proofs.now) c.in_ok-rows.rows.items c.in_ok-rows.ensures))
    (rw c.as_slice-rows.ensures.value at c.write_proofs.ensures)

pub returns : goal.returns
returns c =
    let q = c.args.asked.now.question.now.body in
    on_ok_weaker c.write_own_lines.result
    (lines_details q c.args.asked.now.parts.now (map certificate_view c.args.proofs.now) c.in_ok-own.own.items c.in_ok-rows.rows.items
    c.args.asked.now.options c.args.out.now.items c.write_own_lines.new.out.items
    (sym c.is_plain.ensures ∙ c.if-is_plain.false) c.in_ok-own.ensures c.in_ok-rows.ensures)
    (rw c.as_slice-rows.ensures.value at rw c.as_slice.ensures.value at c.write_own_lines.ensures)
