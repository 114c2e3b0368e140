use Rattle.std.proofs.Common.{arith}
use Rattle.it_elemental.proofs.GeneratorLemmas.{length-listed, few_elementals}
use Rattle.it_elemental.proofs.generators.generator_count.Goals as goal

pub overflow_add-result : goal.overflow_add-result
overflow_add-result c = grind (
  arith,
  few_elementals c.args.problem.now.space.variables c.space.ensures.problem.space.few,
  c.space.ensures.problem.few,
  c.space.ensures.value,
  c.constraints.ensures.value,
  c.count.ensures,
)

pub returns : goal.returns
returns c = grind (
  arith,
  length-listed c.args.problem.now.space.variables c.args.problem.now.constraints,
  c.space.ensures.value,
  c.constraints.ensures.value,
  c.count.ensures,
)
