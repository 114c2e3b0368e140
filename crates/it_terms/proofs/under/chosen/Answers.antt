use Rattle.std.proofs.Common.{◌∙◌, ap, arith, get_or, sym}
use Rattle.it_problems.specs.declared.problems.Constraint.{Constraint}
use Rattle.it_terms.proofs.SaidLemmas.{chosen_more}
use Rattle.it_terms.proofs.under.chosen.Goals as goal

pub loop-line-preserved : goal.loop-line-preserved
loop-line-preserved c =
    let i = c.loop-line.line-index in
    let copied = c.in_ok-copy.ensures in
    chosen_more c.args.constraints.now c.args.lines.now c.loop-line.chosen.items c.push.new.self.items i c.in_ok-copy.field-0 (omega arith) (omega arith)
    (copied ∙ c.index-constraints-index.is ∙ ap (λ (x : Constraint). get_or c.args.constraints.now (get_or c.args.lines.now i 0) x)
    (sym copied)) c.loop-line.invariant c.in_ok-push.ensures.items
