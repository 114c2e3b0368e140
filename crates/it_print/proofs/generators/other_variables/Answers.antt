use Rattle.it_print.proofs.LineLemmas.{others_fit}
use Rattle.it_print.proofs.generators.other_variables.Goals as goal

pub overflow_sub-variables-2 : goal.overflow_sub-variables-2
overflow_sub-variables-2 c = others_fit c.args.i c.args.variables c.requires.there c.requires.few
