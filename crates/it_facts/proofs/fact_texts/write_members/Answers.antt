use Rattle.std.proofs.Common.{◌∙◌, codes, arith}
use Rattle.it_facts.proofs.FactTexts.{member_step}
use Rattle.it_facts.proofs.fact_texts.write_members.Goals as goal

pub loop-variable-preserved : goal.loop-variable-preserved
loop-variable-preserved c = (
  c.loop-variable.invariant.0,
  rw (c.in_ok-some.ensures.written, c.in_ok-some.ensures.now)
      (member_step (codes ";") c.args.names.now.variables c.loop-variable.variable c.args.set c.loop-variable.some c.loop-variable.out.items (omega arith) ∙ c.loop-variable.invariant.1),
)
