use Rattle.std.proofs.Common.{arith, sym, ◌∙◌}
use Rattle.it_tell.proofs.OrderLemmas.{before_by_number, before_by_rest, before_end, end_before}
use Rattle.it_tell.proofs.regions.is_before.Goals as goal

pub loop-i-preserved : goal.loop-i-preserved
loop-i-preserved c = c.loop-i.invariant ∙ before_by_rest c.args.numbers.now c.args.others.now c.loop-i.i (omega arith) (omega arith) (omega arith)

pub returns-then-i-others : goal.returns-then-i-others
returns-then-i-others c = sym (c.loop-i.invariant ∙ before_end c.args.numbers.now c.args.others.now c.loop-i.i (omega arith))

pub returns-then-number-others : goal.returns-then-number-others
returns-then-number-others c = sym (c.loop-i.invariant ∙ before_by_number c.args.numbers.now c.args.others.now c.loop-i.i (omega arith)
    (omega arith) (λ e. omega (arith, e)))

pub returns : goal.returns
returns c = sym (c.loop-i.invariant ∙ end_before c.args.numbers.now c.args.others.now c.loop-i.i (omega arith) (omega arith))
