use Rattle.std.proofs.Common.{◌++◌, List, [], arith, subst, sym}
use Rattle.it_space.specs.declared.faults.RowFault.TheVariants.{Wide}
use Rattle.it_problems.specs.declared.problems.Kind.TheVariants.{Inequality}
use Rattle.it_elemental.specs.Generators.{generators}
use Rattle.it_closure.specs.declared.dependences.Dependence.{Dependence}
use Rattle.it_closure.specs.Reading.{dependences_of}
use Rattle.it_tableau.proofs.RowsLemmas.{fault_is_handed_on}
use Rattle.it_prove.specs.Steps.{GeneratorFits, GeneratorsFit}
use Rattle.it_prove.proofs.ColumnSteps.{columns_done, columns_more_by}
use Rattle.it_prove.proofs.closed.other_columns.Goals as goal

pub loop-index-preserved : goal.loop-index-preserved
loop-index-preserved c =
    let q = c.args.problem.now in
    columns_more_by q.space.variables (dependences_of q) (generators q) c.args.closed.now.dependences.list c.loop-index.index
    (c.args.closed.now.columns.items ++ c.loop-index.columns.items) (c.args.closed.now.columns.items ++ c.push_columns.new.columns.items)
    c.requires.closed.list (omega (arith, c.generator_count-index-end.ensures, c.loop-index-test.true))
    (c.in_ok-push_columns.ensures.added c.args.closed.now.columns.items) c.in_ok-push_columns.ensures.fits c.loop-index.invariant

pub returns-clause-fits : goal.returns-clause-fits
returns-clause-fits c =
    let q = c.args.problem.now in
    (columns_done q.space.variables (dependences_of q) (generators q) c.loop-index.index (c.args.closed.now.columns.items ++ c.loop-index.columns.items)
    (omega (arith, c.generator_count-index-end.ensures, c.loop-index-test.false)) c.loop-index.invariant).1

pub returns-in_err-push_columns-clause-wide : goal.returns-in_err-push_columns-clause-wide
returns-in_err-push_columns-clause-wide c =
    let q = c.args.problem.now in
    fault_is_handed_on c.from_residual.result c.in_err-push_columns.field-0.0 Wide (¬ (GeneratorsFit q)) c.from_residual.ensures.1
    (λ e all. c.in_err-push_columns.ensures.wide e (subst (λ (ds : List Dependence). GeneratorFits q ds c.loop-index.index) (sym c.requires.closed.list)
    (all c.loop-index.index (record { kind = Inequality; row = [] }) (omega (arith, c.generator_count-index-end.ensures, c.loop-index-test.true)))))
