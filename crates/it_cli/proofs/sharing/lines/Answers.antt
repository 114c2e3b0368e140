use Rattle.std.proofs.Common.{◌≡◌, codes, false, []}
use Rattle.it_run.proofs.AnswerLemmas.{if_ok}
use Rattle.it_cli.specs.InnerEnds.{IsTextOf}
use Rattle.it_cli.specs.Outputs.{sharing_mode}
use Rattle.it_cli.specs.SharingReplies.{Many, said_by}
use Rattle.it_cli.proofs.sharing.lines.Goals as goal

pub returns-in-Err-Many : goal.returns-in-Err-Many
returns-in-Err-Many c = if_ok c.many_line.result (λ t. t.items ≡ codes "misfit many\n")
    (λ t. IsTextOf (sharing_mode c.args.limits false c.args.effort) [] 1 (said_by c.args.bytes.now c.args.sharing.now) t.items)
    c.many_line.ensures
    (λ t is. record { reply = Many; right = c.in-Err-Many.ensures.many c.in-Err-Many.field-0-is; is = is })
