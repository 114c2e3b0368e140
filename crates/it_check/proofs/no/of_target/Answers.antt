use Rattle.std.proofs.Common.{Some, length, arith, rules, FitsSigned, to_z-of_z, ap, ◌∙◌}
use Rattle.std.proofs.lemmas.Int.{ints}
use Rattle.it_space.specs.Rows.{point_of}
use Rattle.it_elemental.specs.Generators.{generators}
use Rattle.it_check.specs.declared.verdicts.Verdict.TheVariants.{NotViolated}
use Rattle.it_check.proofs.NoSteps.{target_wide, target_violated, not_violated}
use Rattle.it_check.proofs.no.of_target.Goals as goal
use mir.Syntax.{w128}

pub returns-in_default : goal.returns-in_default
returns-in_default c =
    target_wide (length (generators c.args.problem.now)) c.args.target.now
    (point_of c.args.point.now) c.value.result c.value.ensures c.in_default.field-0 c.generator_count-place.result c.in_default.is
    c.generator_count-place.ensures

pub returns-then-value-lt0 : goal.returns-then-value-lt0
returns-then-value-lt0 c =
    let fits : FitsSigned w128 c.in-Ok.value = search rules in
    target_violated (length (generators c.args.problem.now)) c.args.target.now
    (point_of c.args.point.now) c.value.result c.value.ensures c.in-Ok.value c.in-Ok.is (omega (arith, ints))

pub returns-else-value-lt0 : goal.returns-else-value-lt0
returns-else-value-lt0 c =
    let fits : FitsSigned w128 c.in-Ok.value = search rules in
    ap (λ x. Some (NotViolated x)) (to_z-of_z fits)
    ∙ not_violated (length (generators c.args.problem.now)) c.args.target.now
    (point_of c.args.point.now) c.value.result c.value.ensures c.in-Ok.value c.in-Ok.is (omega (arith, ints))
