use Rattle.std.proofs.Common.{false, map, [], refl}
use Rattle.it_run.proofs.AnswerLemmas.{if_ok}
use Rattle.it_copy.specs.CopyLines.{copy_view}
use Rattle.it_cli.specs.Copies.{Extended, Misfit, with_copies}
use Rattle.it_cli.specs.InnerEnds.{IsProofText, IsTextOf}
use Rattle.it_cli.specs.Outputs.{copy_mode}
use Rattle.it_cli.specs.Misfits.{misfit_line}
use Rattle.it_cli.proofs.CopyLemmas.{misfit_told}
use Rattle.it_cli.proofs.copying.reply_lines.Goals as goal

pub returns-in-Ok : goal.returns-in-Ok
returns-in-Ok c = if_ok c.proof_lines.result (λ t. IsProofText c.args.effort c.args.k c.in-Ok.extended.body t.items)
    (λ t. IsTextOf (copy_mode c.args.limits false c.args.effort) [] c.args.k (with_copies (map copy_view c.args.copies.now)
    c.args.question.now) t.items) c.proof_lines.ensures
    (λ t lines. record { reply = Extended c.in-Ok.extended.body lines.answer; right = (c.in-Ok.ensures.extension, lines.right); is = lines.is })

pub returns-in-Err : goal.returns-in-Err
returns-in-Err c = misfit_told (copy_mode c.args.limits false c.args.effort) (with_copies (map copy_view c.args.copies.now)
    c.args.question.now) c.args.k c.in-Err.fault (Misfit c.in-Err.fault) (λ some. (some, c.in-Err.ensures.misfit))
    (misfit_line c.args.k c.in-Err.fault) c.misfit_line.result refl c.misfit_line.ensures.told c.misfit_line.ensures.some
