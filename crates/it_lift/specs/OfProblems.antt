-- The dependences that are read from a problem are as a lift requires them.
use Rattle.std.specs.Prelude.{◌≡◌}
use Rattle.it_problems.specs.Problems.{ProblemView, IsProblem}
use Rattle.it_closure.specs.DependencesViews.{DependencesView}
use Rattle.it_closure.specs.Reading.{dependences_of}
use Rattle.it_lift.specs.LiftedCertificates.{AreDependencesOf}

-- the dependences that are read from a problem are equations of it, in order
abbrev pub ReadingGivesDependences : Type 0
ReadingGivesDependences = (q : ProblemView) (d : DependencesView) → IsProblem q → d.space ≡ q.space → d.list ≡ dependences_of q → AreDependencesOf q d
