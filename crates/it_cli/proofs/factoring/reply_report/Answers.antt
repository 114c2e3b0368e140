use Rattle.std.proofs.Common.{rules, ◌≡◌, length, map, true, refl, ◌∙◌}
use Rattle.it_copy.specs.CopyLines.{copy_view}
use Rattle.it_cli.specs.BestReplies.{texts_with}
use Rattle.it_cli.specs.Copies.{Misfit, with_copies}
use Rattle.it_cli.specs.Outputs.{best_mode}
use Rattle.it_cli.proofs.BestLemmas.{asked_alone, asked_with, factored_report, no_copies, some_copies, text_alone, texts_after_head}
use Rattle.it_cli.proofs.CopyLemmas.{misfit_reported}
use Rattle.it_cli.proofs.factoring.reply_report.Goals as goal

pub returns-then-is_empty : goal.returns-then-is_empty
returns-then-is_empty c =
    let none : length c.args.copies.now ≡ 0 = search rules in
    let copies = map copy_view c.args.copies.now in
    let q = c.args.question.now in
    let same = no_copies c.args.copies.now none in
    factored_report c.args.limits c.args.effort (with_copies copies q) c.args.k q.body _ c.factor_report.result
    (text_alone _ q.text copies (c.as_slice.ensures.value ∙ c.in_ok-text.ensures) same)
    (asked_alone c.args.limits q.body copies same) c.factor_report.ensures

pub returns-in-Ok : goal.returns-in-Ok
returns-in-Ok c =
    let some : length c.args.copies.now ≡ 0 → ⊥ = search rules in
    let copies = map copy_view c.args.copies.now in
    let q = c.args.question.now in
    let e = c.in-Ok.extended.body in
    let copied = some_copies c.args.copies.now some in
    factored_report c.args.limits c.args.effort (with_copies copies q) c.args.k e _ c.factor_report-in-Ok.result
    (texts_after_head _ _ q.text copies (c.as_slice-2.ensures.value ∙ c.in_ok-head.ensures) (c.as_slice-3.ensures.value ∙ c.in_ok-text.ensures) copied)
    (asked_with c.args.limits q.body e copies copied c.in-Ok.ensures.extension) c.factor_report-in-Ok.ensures

pub returns : goal.returns
returns c =
    let some : length c.args.copies.now ≡ 0 → ⊥ = search rules in
    let copies = map copy_view c.args.copies.now in
    let q = c.args.question.now in
    let copied = some_copies c.args.copies.now some in
    misfit_reported (best_mode c.args.limits true c.args.effort) (with_copies copies q) c.args.k c.in-Err.fault (Misfit c.in-Err.fault)
    (λ told. (copied, told, c.in-Err.ensures.misfit)) _ (texts_with copies q.text) c.misfit_report.result
    (texts_after_head _ _ q.text copies (c.as_slice-2.ensures.value ∙ c.in_ok-head.ensures)
    (c.as_slice-3.ensures.value ∙ c.in_ok-text.ensures) copied) refl c.misfit_report.ensures.told c.misfit_report.ensures.some
