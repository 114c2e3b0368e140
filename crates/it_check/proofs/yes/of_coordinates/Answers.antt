use Rattle.std.proofs.Common.{◌≡◌, ℕ, ◌+◌, ◌-◌, sym, subst, arith}
use Rattle.it_space.specs.Answers.{certificate_view}
use Rattle.it_space.specs.Rows.{Terms}
use Rattle.it_space.specs.Spaces.{size_of}
use Rattle.it_elemental.specs.Generators.{generators}
use Rattle.it_check.specs.Windows.{AreSums}
use Rattle.it_check.specs.Verdicts.{of_coordinates}
use Rattle.it_check.proofs.YesSteps.{coordinates_done, window_found, window_passed}
use Rattle.it_check.proofs.yes.of_coordinates.Goals as goal
use Rattle.it_check.proofs.yes.of_coordinates.Goals.{After-window_from-window}

-- what was found so far, at the window's start
so_far_there : (c : After-window_from-window) → of_coordinates (generators c.args.problem.now) c.args.target.now (certificate_view c.args.certificate.now)
    c.window_from-window.result.start (size_of c.args.problem.now.space + 1 - c.window_from-window.result.start)
    ≡ of_coordinates (generators c.args.problem.now) c.args.target.now (certificate_view c.args.certificate.now) 1 (size_of c.args.problem.now.space)
so_far_there c = subst (λ (s : ℕ). of_coordinates (generators c.args.problem.now) c.args.target.now (certificate_view c.args.certificate.now)
    s (size_of c.args.problem.now.space + 1 - s)
    ≡ of_coordinates (generators c.args.problem.now) c.args.target.now (certificate_view c.args.certificate.now) 1 (size_of c.args.problem.now.space))
    (sym c.window_from-window.ensures.start) c.loop-start.invariant

-- the window is that of the certificate's weights
own_sums : (c : After-window_from-window) → AreSums (generators c.args.problem.now) c.args.target.now c.args.certificate.now.weights.items
    c.window_from-window.result.start c.window_from-window.result.sums c.window_from-window.result.next
own_sums c = subst (λ (ws : Terms). AreSums (generators c.args.problem.now) c.args.target.now ws c.window_from-window.result.start
    c.window_from-window.result.sums c.window_from-window.result.next) c.as_slice.ensures.value c.window_from-window.ensures.sums

pub of_window-requires : goal.of_window-requires
of_window-requires c = record { within = omega arith; sums = own_sums (goal.at.of_window-requires c).After-window_from-window }

pub returns-in-Some : goal.returns-in-Some
returns-in-Some c = window_found (generators c.args.problem.now) c.args.target.now (certificate_view c.args.certificate.now)
    c.window_from-window.result.start (size_of c.args.problem.now.space) _ (omega arith)
    (so_far_there (goal.at.returns-in-Some c).After-window_from-window) c.in-Some.verdict c.in-Some.ensures

pub loop-start-preserved : goal.loop-start-preserved
loop-start-preserved c = window_passed (generators c.args.problem.now) c.args.target.now (certificate_view c.args.certificate.now)
    c.window_from-window.result.start (size_of c.args.problem.now.space) _ (omega arith)
    (so_far_there (goal.at.loop-start-preserved c).After-window_from-window) c.window_from-window.result.next
    c.window_from-window.result.sums (own_sums (goal.at.loop-start-preserved c).After-window_from-window) c.in_default.ensures

pub returns : goal.returns
returns c = coordinates_done (generators c.args.problem.now) c.args.target.now (certificate_view c.args.certificate.now)
    (size_of c.args.problem.now.space + 1) c.loop-start.start _ c.loop-start.invariant (omega arith)
