use Rattle.std.proofs.Common.{map, refl, true, ◌∙◌}
use Rattle.it_copy.specs.CopyLines.{copy_view}
use Rattle.it_cli.specs.Copies.{Misfit, copy_texts, with_copies}
use Rattle.it_cli.specs.Outputs.{copy_mode}
use Rattle.it_cli.proofs.CopyLemmas.{misfit_reported, proof_reported, texts_are}
use Rattle.it_cli.proofs.copying.reply_report.Goals as goal

pub returns-in-Ok : goal.returns-in-Ok
returns-in-Ok c =
    let copies = map copy_view c.args.copies.now in
    let q = c.args.question.now in
    proof_reported c.args.limits c.args.effort (with_copies copies q) c.args.k c.in-Ok.extended.body _ c.proof_report.result
    (texts_are _ _ copies q (c.as_slice.ensures.value ∙ c.in_ok-head.ensures) (c.as_slice-2.ensures.value ∙ c.in_ok-text.ensures))
    c.in-Ok.ensures.extension c.proof_report.ensures

pub returns : goal.returns
returns c =
    let copies = map copy_view c.args.copies.now in
    let q = c.args.question.now in
    misfit_reported (copy_mode c.args.limits true c.args.effort) (with_copies copies q) c.args.k c.in-Err.fault (Misfit c.in-Err.fault)
    (λ some. (some, c.in-Err.ensures.misfit)) _ (copy_texts (with_copies copies q)) c.misfit_report.result
    (texts_are _ _ copies q (c.as_slice.ensures.value ∙ c.in_ok-head.ensures) (c.as_slice-2.ensures.value ∙ c.in_ok-text.ensures)) refl
    c.misfit_report.ensures.told c.misfit_report.ensures.some
