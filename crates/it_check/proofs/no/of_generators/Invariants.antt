use Rattle.std.proofs.Common.{◌≡◌, drop, length}
use Rattle.it_space.specs.Rows.{point_of}
use Rattle.it_polymatroid.specs.Elementals.{elementals}
use Rattle.it_elemental.specs.Generators.{generators}
use Rattle.it_check.specs.Verdicts.{of_generators}
use Rattle.it_check.proofs.no.of_generators.Given as goal

abbrev pub invariant-loop-index : goal.invariant-loop-index
invariant-loop-index l = of_generators (length (elementals l.problem.space.variables)) l.index (drop l.index (generators l.problem)) (point_of l.point)
    ≡ of_generators (length (elementals l.problem.space.variables)) 0 (generators l.problem) (point_of l.point)
