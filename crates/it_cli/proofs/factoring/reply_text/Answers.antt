use Rattle.std.proofs.Common.{rules, ◌≡◌, length, map, false, refl}
use Rattle.it_copy.specs.CopyLines.{copy_view}
use Rattle.it_cli.specs.Copies.{Misfit, with_copies}
use Rattle.it_cli.specs.Misfits.{misfit_line}
use Rattle.it_cli.specs.Outputs.{best_mode}
use Rattle.it_cli.proofs.BestLemmas.{asked_alone, asked_with, factored_text, no_copies, some_copies}
use Rattle.it_cli.proofs.CopyLemmas.{misfit_told}
use Rattle.it_cli.proofs.factoring.reply_text.Goals as goal

pub returns-then-is_empty : goal.returns-then-is_empty
returns-then-is_empty c =
    let none : length c.args.copies.now ≡ 0 = search rules in
    let copies = map copy_view c.args.copies.now in
    let q = c.args.question.now in
    factored_text c.args.limits c.args.effort (with_copies copies q) c.args.k q.body c.factor_line.result
    (asked_alone c.args.limits q.body copies (no_copies c.args.copies.now none)) c.factor_line.ensures

pub returns-in-Ok : goal.returns-in-Ok
returns-in-Ok c =
    let some : length c.args.copies.now ≡ 0 → ⊥ = search rules in
    let copies = map copy_view c.args.copies.now in
    let q = c.args.question.now in
    let e = c.in-Ok.extended.body in
    factored_text c.args.limits c.args.effort (with_copies copies q) c.args.k e c.factor_line-in-Ok.result
    (asked_with c.args.limits q.body e copies (some_copies c.args.copies.now some) c.in-Ok.ensures.extension) c.factor_line-in-Ok.ensures

pub returns-in-Err : goal.returns-in-Err
returns-in-Err c =
    let some : length c.args.copies.now ≡ 0 → ⊥ = search rules in
    let x = with_copies (map copy_view c.args.copies.now) c.args.question.now in
    misfit_told (best_mode c.args.limits false c.args.effort) x c.args.k c.in-Err.fault (Misfit c.in-Err.fault)
    (λ told. (some_copies c.args.copies.now some, told, c.in-Err.ensures.misfit))
    (misfit_line c.args.k c.in-Err.fault) c.misfit_line.result refl c.misfit_line.ensures.told c.misfit_line.ensures.some
