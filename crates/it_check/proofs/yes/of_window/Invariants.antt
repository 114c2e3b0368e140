use Rattle.std.proofs.Common.{◌≡◌, ◌-◌}
use Rattle.it_space.specs.Answers.{certificate_view}
use Rattle.it_elemental.specs.Generators.{generators}
use Rattle.it_check.specs.Verdicts.{of_coordinates}
use Rattle.it_check.proofs.yes.of_window.Given as goal

abbrev pub invariant-loop-coordinate : goal.invariant-loop-coordinate
invariant-loop-coordinate l = of_coordinates (generators l.problem) l.target (certificate_view l.certificate) l.coordinate (l.end - l.coordinate)
    ≡ of_coordinates (generators l.problem) l.target (certificate_view l.certificate) l.start (l.end - l.start)
