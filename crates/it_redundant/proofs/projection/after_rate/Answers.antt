use Rattle.std.proofs.Common.{rules, ℕ, ◌^◌, List, subst, sym, All}
use Rattle.it_eliminate.specs.Elimination.{EliminationEnds, ordered_rows, Region}
use Rattle.it_eliminate.specs.Projections.{system_of}
use Rattle.it_eliminate.specs.Views.{StopsBy}
use Rattle.it_problems.specs.Problems.{IsSystem}
use Rattle.it_space.specs.declared.spaces.Space.{Space}
use Rattle.it_redundant.proofs.ProjectionLemmas.{region_up, stop_ends}
use Rattle.it_redundant.proofs.projection.after_rate.Goals as goal

pub rows_after-requires-clause-system : goal.rows_after-requires-clause-system
rows_after-requires-clause-system c = subst (λ (s : Space). IsSystem (system_of s c.args.rows)) (sym c.space-space.ensures.value) c.requires.givens.system

pub returns-in_err-left-clause-stop : goal.returns-in_err-left-clause-stop
returns-in_err-left-clause-stop c =
    let stops = stop_ends c.args.givens.now c.args.effort c.args.most (system_of c.space-space.result c.args.rows) c.args.rate c.space-space.ensures.value
    c.in_err-left.field-0.0
    (subst (λ (rates : List ℕ). StopsBy (EliminationEnds (2 ^ c.space-space.result.variables) c.args.most (ordered_rows c.args.rows.items) rates)
    c.in_err-left.field-0.0) c.as_slice.ensures c.in_err-left.ensures.stop) in
    search (rules, stops)

pub returns-clause-rows : goal.returns-clause-rows
returns-clause-rows c = region_up c.args.givens.now c.args.effort c.args.most (system_of c.space-space.result c.args.rows) c.args.rate
    c.space-space.ensures.value (system_of c.space-space.result c.in_ok-left.left) c.in_ok-reduced.reduced
    (subst (λ (rates : List ℕ). EliminationEnds (2 ^ c.space-space.result.variables) c.args.most (ordered_rows c.args.rows.items) rates
    (Region c.in_ok-left.left.items)) c.as_slice.ensures c.in_ok-left.ensures.ends)
    c.in_ok-reduced.ensures.reduces
    (subst (λ (s : Space). IsSystem (system_of s c.args.rows)) (sym c.space-space.ensures.value) c.requires.givens.system).rows
