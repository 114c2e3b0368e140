use Rattle.std.proofs.Common.{length, rules, FitsSigned, to_z-of_z, sym, ap, ◌∙◌}
use Rattle.it_space.specs.Rows.{point_of}
use Rattle.it_polymatroid.specs.Elementals.{elementals}
use Rattle.it_elemental.specs.Generators.{generators, generator_at}
use Rattle.it_check.specs.Verdicts.{violates, violation}
use Rattle.it_check.proofs.NoSteps.{generator_wide, generator_unmet, generator_met}
use Rattle.it_check.proofs.no.of_generator.Goals as goal
use mir.Syntax.{w128}

pub returns-in_default : goal.returns-in_default
returns-in_default c =
    let q = c.args.problem.now in
    generator_wide (length (elementals q.space.variables)) c.args.index (generator_at (generators q) c.args.index)
    (point_of c.args.point.now) c.generator_value.result c.generator_value.ensures c.in_default.field-0 c.in_default.is

pub returns-then-violates : goal.returns-then-violates
returns-then-violates c =
    let q = c.args.problem.now in
    let fits : FitsSigned w128 c.in-Ok.value = search rules in
    generator_unmet (length (elementals q.space.variables)) c.args.index (generator_at (generators q) c.args.index)
    (point_of c.args.point.now) c.generator_value.result c.generator_value.ensures c.in-Ok.value c.in-Ok.is c.kind_at.result
    c.kind_at.ensures
    c.violation.result (sym c.if-violates.true ∙ c.violates.ensures ∙ ap (violates c.kind_at.result) (to_z-of_z fits))
    (c.violation.ensures ∙ ap (violation (length (elementals q.space.variables)) c.args.index) (to_z-of_z fits))

pub returns-else-violates : goal.returns-else-violates
returns-else-violates c =
    let q = c.args.problem.now in
    let fits : FitsSigned w128 c.in-Ok.value = search rules in
    generator_met (length (elementals q.space.variables)) c.args.index (generator_at (generators q) c.args.index)
    (point_of c.args.point.now) c.generator_value.result c.generator_value.ensures c.in-Ok.value c.in-Ok.is c.kind_at.result
    c.kind_at.ensures
    (sym c.if-violates.false ∙ c.violates.ensures ∙ ap (violates c.kind_at.result) (to_z-of_z fits))
