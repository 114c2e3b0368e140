use Rattle.std.proofs.Common.{◌∙◌}
use Rattle.it_tell.proofs.CodeLemmas.{variable_step}
use Rattle.it_tell.proofs.codes.variables_text.Goals as goal

pub loop-i-preserved : goal.loop-i-preserved
loop-i-preserved c =
    rw c.in_ok-write_variable.ensures
    (variable_step c.args.names.now.variables c.args.variables.now c.loop-i.i c.index-variables-i.result c.variable_name-name.result.now
    c.loop-i.some c.loop-i.out.items c.loop-i-test.true c.index-variables-i.is c.variable_name-name.ensures ∙ c.loop-i.invariant)
