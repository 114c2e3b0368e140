use Rattle.std.proofs.Common.{length, ap, arith}
use Rattle.it_elemental.proofs.GeneratorLemmas.{few_elementals}
use Rattle.it_closure.proofs.ReadLists.{read_of_space}
use Rattle.it_closure.proofs.dependences.Dependences.read.Goals as goal

pub invariant_of-result : goal.invariant_of-result
invariant_of-result c = rw (c.in_ok-list.ensures, c.constraints.ensures.value, c.space-n.ensures.value, c.space.ensures.value)
    (read_of_space c.args.problem.now c.count.result c.facts.ensures)

pub read_all-requires-clause-count : goal.read_all-requires-clause-count
read_all-requires-clause-count c = grind (
  arith,
  c.space-n.ensures.value,
  c.count.ensures,
  few_elementals c.args.problem.now.space.variables
      c.facts.ensures.space.few,
  c.facts.ensures.few,
  ap length c.constraints.ensures.value,
)
