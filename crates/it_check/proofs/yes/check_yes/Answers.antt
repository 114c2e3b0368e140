use Rattle.std.proofs.Common.{Some, None, ◌≡◌, ◌∙◌, ap}
use Rattle.it_space.specs.Answers.{certificate_view}
use Rattle.it_space.specs.Spaces.{size_of}
use Rattle.it_elemental.specs.Generators.{generators}
use Rattle.it_check.specs.Verdicts.{of_weights}
use Rattle.it_check.proofs.YesSteps.{all_known, by_scale, by_weights, by_coordinates}
use Rattle.it_check.proofs.yes.check_yes.Goals as goal
use Rattle.it_check.proofs.yes.check_yes.Goals.{In_default-of_weights}

no_sum : (c : In_default-of_weights) → None ≡ of_weights (generators c.args.problem.now) c.args.certificate.now.weights.items
no_sum c = c.in_default-of_weights.ensures ∙ ap (of_weights (generators c.args.problem.now)) c.as_slice.ensures.value

pub returns-in-Some : goal.returns-in-Some
returns-in-Some c = by_scale (generators c.args.problem.now) (size_of c.args.problem.now.space) c.args.target.now
    (certificate_view c.args.certificate.now) c.in-Some.verdict c.in-Some.ensures

pub returns-in-Some-of_weights : goal.returns-in-Some-of_weights
returns-in-Some-of_weights c = by_weights (generators c.args.problem.now) (size_of c.args.problem.now.space) c.args.target.now
    (certificate_view c.args.certificate.now) c.in-Some-of_weights.verdict c.in_default.ensures
    (c.in-Some-of_weights.ensures ∙ ap (of_weights (generators c.args.problem.now)) c.as_slice.ensures.value)

pub of_coordinates-requires : goal.of_coordinates-requires
of_coordinates-requires c = record { listed = all_known (generators c.args.problem.now) c.args.certificate.now.weights.items (no_sum c) }

pub returns-in-Some-of_coordinates : goal.returns-in-Some-of_coordinates
returns-in-Some-of_coordinates c = by_coordinates (generators c.args.problem.now) (size_of c.args.problem.now.space) c.args.target.now
    (certificate_view c.args.certificate.now) (Some c.in-Some-of_coordinates.verdict) c.in_default.ensures
    (no_sum (goal.at.returns-in-Some-of_coordinates c).In_default-of_weights) c.in-Some-of_coordinates.ensures

pub returns-in-None : goal.returns-in-None
returns-in-None c = by_coordinates (generators c.args.problem.now) (size_of c.args.problem.now.space) c.args.target.now
    (certificate_view c.args.certificate.now) None c.in_default.ensures
    (no_sum (goal.at.returns-in-None c).In_default-of_weights) c.in-None.ensures
