use Rattle.std.proofs.Common.{◌≡◌, ℕ, ◌+◌, ◌-◌, min, ap, ◌∙◌, arith}
use Rattle.it_space.specs.Answers.{certificate_view}
use Rattle.it_space.specs.Spaces.{size_of}
use Rattle.it_elemental.specs.Generators.{generators}
use Rattle.it_check.specs.Windows.{window_length}
use Rattle.it_check.specs.Verdicts.{of_coordinates}
use Rattle.it_check.proofs.YesSteps.{coordinates_found, coordinates_more, coordinates_done, in_window}
use Rattle.it_check.proofs.yes.of_window.Goals as goal

pub returns-in-Some : goal.returns-in-Some
returns-in-Some c =
    let q = c.args.problem.now in
    let start : ℕ = c.args.window.now.start in
    let long : c.min-end.result - start ≡ min window_length (size_of q.space + 1 - start) = omega arith in
    coordinates_found (generators q) c.args.target.now (certificate_view c.args.certificate.now) c.min-end.result c.loop-coordinate.coordinate _
    c.loop-coordinate.invariant c.in-Some.verdict c.loop-coordinate-test.true
    (c.in-Some.ensures ∙ in_window (generators q) c.args.target.now (certificate_view c.args.certificate.now) start c.loop-coordinate.coordinate
    c.args.window.now.next c.args.window.now.sums c.requires.sums (omega arith) (omega arith))
    ∙ ap (of_coordinates (generators q) c.args.target.now (certificate_view c.args.certificate.now) start) long

pub loop-coordinate-preserved : goal.loop-coordinate-preserved
loop-coordinate-preserved c =
    let q = c.args.problem.now in
    let start : ℕ = c.args.window.now.start in
    coordinates_more (generators q) c.args.target.now (certificate_view c.args.certificate.now) c.min-end.result c.loop-coordinate.coordinate _
    c.loop-coordinate.invariant c.loop-coordinate-test.true
    (c.in_default.ensures ∙ in_window (generators q) c.args.target.now (certificate_view c.args.certificate.now) start c.loop-coordinate.coordinate
    c.args.window.now.next c.args.window.now.sums c.requires.sums (omega arith) (omega arith))

pub returns : goal.returns
returns c =
    let q = c.args.problem.now in
    let start : ℕ = c.args.window.now.start in
    let long : c.min-end.result - start ≡ min window_length (size_of q.space + 1 - start) = omega arith in
    coordinates_done (generators q) c.args.target.now (certificate_view c.args.certificate.now) c.min-end.result c.loop-coordinate.coordinate _
    c.loop-coordinate.invariant c.loop-coordinate-test.false
    ∙ ap (of_coordinates (generators q) c.args.target.now (certificate_view c.args.certificate.now) start) long
