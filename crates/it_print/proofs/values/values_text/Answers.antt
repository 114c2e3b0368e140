use Rattle.std.proofs.Common.{◌∙◌, ◌<◌, List, ℤ, length, pos, subst}
use Rattle.it_print.proofs.LineLemmas.{pair_step}
use Rattle.it_print.proofs.values.values_text.Goals as goal

pub loop-i-preserved : goal.loop-i-preserved
loop-i-preserved c = rw (c.in_ok-some.ensures.written, c.in_ok-some.ensures.now, c.is_told-told.ensures, c.as_slice.ensures.value, c.in_ok-text.ensures, c.values-values.ensures.value)
    (pair_step c.args.names.now c.args.point.now c.loop-i.i (pos 0) c.loop-i.some c.loop-i.out.items
    (subst (λ (values : List ℤ). c.loop-i.i < length values) c.values-values.ensures.value c.loop-i-test.true) ∙ c.loop-i.invariant)
