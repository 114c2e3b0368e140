use Rattle.std.proofs.Common.{◌∙◌}
use Rattle.it_print.proofs.LineLemmas.{set_step}
use Rattle.it_print.proofs.sets.write_set.Goals as goal

pub loop-i-preserved : goal.loop-i-preserved
loop-i-preserved c = (
  c.loop-i.invariant.0,
  rw (c.in_ok-some.ensures.written, c.in_ok-some.ensures.now, c.has.ensures)
      (set_step c.args.names.now.variables c.loop-i.i c.args.set c.variable_name.result.now c.loop-i.some c.loop-i.out.items
      c.variable_name.ensures ∙ c.loop-i.invariant.1),
)
