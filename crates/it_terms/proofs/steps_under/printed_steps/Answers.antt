use Rattle.std.proofs.lemmas.Option.{IfSome_then}
use Rattle.it_terms.proofs.PieceLemmas.{steps_by_lines}
use Rattle.it_terms.proofs.steps_under.printed_steps.Goals as goal

pub returns : goal.returns
returns c = IfSome_then c.in_ok-steps.steps c.in_ok-steps.ensures (λ ts h.
    steps_by_lines c.args.question.now.body c.args.lines.now c.args.named.now c.args.proof.now c.in_ok-posed.posed.space
    c.in_ok-posed.posed.constraints _ c.in_ok-posed.ensures.poses.constraints h)
