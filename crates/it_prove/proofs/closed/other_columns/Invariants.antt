use Rattle.std.proofs.Common.{◌++◌}
use Rattle.it_elemental.specs.Generators.{generators}
use Rattle.it_closure.specs.Reading.{dependences_of}
use Rattle.it_prove.specs.ClosedProblems.{AreColumns}
use Rattle.it_prove.proofs.closed.other_columns.Given as goal

abbrev pub invariant-loop-index : goal.invariant-loop-index
invariant-loop-index l = AreColumns l.problem.space.variables (dependences_of l.problem) (generators l.problem) l.index
    (l.closed.columns.items ++ l.columns.items)
