use Rattle.std.proofs.Common.{◌++◌, ap, sym, ◌∙◌}
use Rattle.it_cli.specs.SharingReplies.{sharing_heading}
use Rattle.it_cli.proofs.SharingLemmas.{answered_text, factored_text, made_is_proof}
use Rattle.it_cli.proofs.sharing.made_lines.Goals as goal

pub proof_lines-requires : goal.proof_lines-requires
proof_lines-requires c = record { proof = made_is_proof c.args.sharing.now c.args.made.now.question c.requires.question }

pub returns-in_ok-text : goal.returns-in_ok-text
returns-in_ok-text c = factored_text c.args.limits c.args.effort c.args.bytes.now c.args.sharing.now c.args.made.now.minimal
    c.args.made.now.maximal c.args.made.now.question c.requires.minimal c.requires.maximal c.requires.few
    c.requires.question
    c.in_ok-line.line.items c.in_ok-text.text.items (sym c.if-asks_best.ensures) c.in_ok-line.ensures
    (c.in_ok-text.ensures ∙ ap (λ ys. sharing_heading c.args.made.now.minimal c.args.made.now.maximal ++ ys) c.as_slice.ensures.value)

pub returns-in_ok-whole : goal.returns-in_ok-whole
returns-in_ok-whole c = answered_text c.args.limits c.args.effort c.args.bytes.now c.args.sharing.now c.args.made.now.minimal
    c.args.made.now.maximal c.args.made.now.question c.requires.minimal c.requires.maximal c.requires.few
    c.requires.question
    c.in_ok-lines.lines.items c.in_ok-whole.whole.items (sym c.if-asks_best.ensures) c.in_ok-lines.ensures
    (c.in_ok-whole.ensures ∙ ap (λ ys. sharing_heading c.args.made.now.minimal c.args.made.now.maximal ++ ys) c.as_slice-else-asks_best.ensures.value)
