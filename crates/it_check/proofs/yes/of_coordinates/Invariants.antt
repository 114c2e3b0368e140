use Rattle.std.proofs.Common.{◌≡◌, ◌+◌, ◌-◌, ◌≤◌}
use Rattle.it_space.specs.Answers.{certificate_view}
use Rattle.it_space.specs.Spaces.{size_of}
use Rattle.it_elemental.specs.Generators.{generators}
use Rattle.it_check.specs.Verdicts.{of_coordinates}
use Rattle.it_check.proofs.yes.of_coordinates.Given as goal

abbrev pub invariant-loop-start : goal.invariant-loop-start
invariant-loop-start l = of_coordinates (generators l.problem) l.target (certificate_view l.certificate) l.start (size_of l.problem.space + 1 - l.start)
    ≡ of_coordinates (generators l.problem) l.target (certificate_view l.certificate) 1 (size_of l.problem.space)

abbrev pub decreases-loop-start : goal.decreases-loop-start
decreases-loop-start l = l.size + 1 - l.start
