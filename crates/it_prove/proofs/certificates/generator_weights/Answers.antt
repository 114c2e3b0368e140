use Rattle.std.proofs.Common.{◌+◌, ◌++◌, ◌∙◌, ap, arith, rules, FitsSigned, to_z-of_z}
use Rattle.it_space.specs.Rows.{coefficient, single_term}
use Rattle.it_elemental.specs.Generators.{generators}
use Rattle.it_columns.proofs.ColumnLemmas.{few_generators}
use Rattle.it_prove.proofs.ColumnSteps.{weights_more, weights_done}
use Rattle.it_prove.proofs.certificates.generator_weights.Goals as goal
use mir.Syntax.{w128}

pub of_generator-requires : goal.of_generator-requires
of_generator-requires c = omega (
  arith,
  c.loop-index.invariant.0,
  c.generator_count-index-end.ensures,
  few_generators
      c.args.problem.now c.facts.ensures,
)

pub overflow_add-column : goal.overflow_add-column
overflow_add-column c = omega (
  arith,
  c.loop-index.invariant.0,
  c.generator_count-index-end.ensures,
  few_generators c.args.problem.now
      c.facts.ensures,
  c.column_count-column.ensures.value,
  c.column_count-column.ensures.few,
)

pub loop-index-preserved : goal.loop-index-preserved
loop-index-preserved c = (
  omega (arith, c.loop-index.invariant.0, c.column_count-column.ensures.value, c.column_count-column.ensures.few),
  (let fits : FitsSigned w128 c.of_generator.result = search rules in
      weights_more (generators c.args.problem.now) (coefficient c.args.columns.now) c.loop-index.index c.loop-index.column
      (c.loop-index.column + c.column_count-column.result) c.kind_at-kind.result c.of_generator.result c.loop-index.weights.items
      c.push_some.new.terms.items
      (omega (arith, c.generator_count-index-end.ensures)) c.kind_at-kind.ensures c.of_generator.ensures
      (ap (λ k. c.loop-index.column + k) c.column_count-column.ensures.value)
      (c.in_ok-push_some.ensures ∙ ap (λ x. c.loop-index.weights.items ++ single_term c.loop-index.index x) (to_z-of_z fits))
      c.loop-index.invariant.1),
)

pub returns : goal.returns
returns c = weights_done (generators c.args.problem.now) (coefficient c.args.columns.now) c.loop-index.index c.loop-index.column
    c.loop-index.weights.items (omega (arith, c.generator_count-index-end.ensures)) c.loop-index.invariant.1
