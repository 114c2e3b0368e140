use Rattle.std.proofs.Common.{sym}
use Rattle.it_cli.proofs.SharingLemmas.{answered_report, factored_report, made_is_proof}
use Rattle.it_cli.proofs.sharing.made_report.Goals as goal

pub proof_report-requires : goal.proof_report-requires
proof_report-requires c = record { proof = made_is_proof c.args.sharing.now c.args.made.now.question c.requires.question }

pub returns-in_ok-text : goal.returns-in_ok-text
returns-in_ok-text c = factored_report c.args.limits c.args.effort c.args.bytes.now c.args.sharing.now c.args.made.now.minimal
    c.args.made.now.maximal c.args.made.now.question c.requires.minimal c.requires.maximal c.requires.few
    c.requires.question
    c.in_ok-text.text.items (sym c.if-asks_best.ensures) c.in_ok-text.ensures

pub returns-in_ok-line : goal.returns-in_ok-line
returns-in_ok-line c = answered_report c.args.limits c.args.effort c.args.bytes.now c.args.sharing.now c.args.made.now.minimal
    c.args.made.now.maximal c.args.made.now.question c.requires.minimal c.requires.maximal c.requires.few
    c.requires.question
    c.in_ok-line.line.items (sym c.if-asks_best.ensures) c.in_ok-line.ensures
