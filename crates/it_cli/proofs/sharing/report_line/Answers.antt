use Rattle.std.proofs.Common.{◌≡◌, ◌++◌, codes, true, []}
use Rattle.it_run.proofs.AnswerLemmas.{if_ok}
use Rattle.it_certificate.specs.Values.{OfSharing, misfit_members, report_text}
use Rattle.it_cli.specs.InnerEnds.{IsTextOf}
use Rattle.it_cli.specs.Outputs.{sharing_mode}
use Rattle.it_cli.specs.SharingReplies.{Many, said_by}
use Rattle.it_cli.proofs.sharing.report_line.Goals as goal

pub returns-in-Err-Many : goal.returns-in-Err-Many
returns-in-Err-Many c = if_ok c.many_report.result
    (λ t. t.items ≡ report_text (OfSharing c.args.bytes.now) (misfit_members (codes "many")) ++ codes "\n")
    (λ t. IsTextOf (sharing_mode c.args.limits true c.args.effort) [] 1 (said_by c.args.bytes.now c.args.sharing.now) t.items)
    c.many_report.ensures
    (λ t is. record { reply = Many; right = c.in-Err-Many.ensures.many c.in-Err-Many.field-0-is; is = is })
