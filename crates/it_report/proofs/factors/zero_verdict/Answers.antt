use Rattle.std.proofs.Common.{◌+◌, length, arith, rules, FitsSigned, to_z-of_z, ap, ◌∙◌}
use Rattle.std.proofs.lemmas.Int.{ints}
use Rattle.it_space.specs.Rows.{point_of}
use Rattle.it_elemental.specs.Generators.{generators}
use Rattle.it_elemental.proofs.GeneratorLemmas.{few_elementals, length-listed}
use Rattle.it_check.specs.declared.verdicts.Verdict.TheVariants.{Width}
use Rattle.it_report.specs.declared.factors.FactorVerdict.TheVariants.{Checked, NotZero}
use Rattle.it_report.proofs.ZeroLemmas.{not_zero, zero_there, zero_wide}
use Rattle.it_report.proofs.factors.zero_verdict.Goals as goal
use mir.Syntax.{w128}

pub overflow_add-place : goal.overflow_add-place
overflow_add-place c = omega (
  arith,
  c.generator_count-place.ensures,
  c.facts.ensures.few,
  few_elementals c.args.problem.now.space.variables c.facts.ensures.space.few,
  length-listed c.args.problem.now.space.variables c.args.problem.now.constraints,
)

pub returns-in_default-clause-verdict : goal.returns-in_default-clause-verdict
returns-in_default-clause-verdict c = ap (λ n. Checked (Width (n + 1))) c.generator_count-place.ensures
    ∙ zero_wide (length (generators c.args.problem.now) + 1) c.args.row.now
    (point_of c.args.point.now) c.value.result c.value.ensures c.in_default.field-0 c.in_default.is

pub returns-then-value-eq0-clause-verdict : goal.returns-then-value-eq0-clause-verdict
returns-then-value-eq0-clause-verdict c =
    let fits : FitsSigned w128 c.in-Ok.value = search rules in
    zero_there (length (generators c.args.problem.now) + 1) c.args.row.now
    (point_of c.args.point.now) c.value.result c.value.ensures c.in-Ok.value c.in-Ok.is (omega (arith, ints))

pub returns-else-value-eq0-clause-verdict : goal.returns-else-value-eq0-clause-verdict
returns-else-value-eq0-clause-verdict c =
    let fits : FitsSigned w128 c.in-Ok.value = search rules in
    ap NotZero (to_z-of_z fits)
    ∙ not_zero (length (generators c.args.problem.now) + 1) c.args.row.now
    (point_of c.args.point.now) c.value.result c.value.ensures c.in-Ok.value c.in-Ok.is (λ e. absurd (omega (arith, ints)))
