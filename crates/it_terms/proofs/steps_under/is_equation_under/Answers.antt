use Rattle.std.proofs.Common.{All, List, false, map, pos, subst}
use Rattle.std.proofs.lemmas.Bool.{OnTrue_at, OnTrue_from}
use Rattle.it_space.specs.declared.spaces.Space.{Space}
use Rattle.it_problems.specs.declared.problems.Constraint.{Constraint}
use Rattle.it_space.specs.Rows.{value}
use Rattle.it_polymatroid.specs.Certificates.{IsAllowed}
use Rattle.it_elemental.specs.Generators.{forms_of, of_constraint}
use Rattle.it_syntax.specs.Meaning.{relation_view}
use Rattle.it_terms.specs.FunctionProofs.{AreSameUnder}
use Rattle.it_terms.specs.StepsUnder.{IsEquationUnder}
use Rattle.it_terms.specs.Sums.{IsExcess}
use Rattle.it_terms.proofs.PieceLemmas.{equation_by_excess}
use Rattle.it_terms.proofs.steps_under.is_equation_under.Goals as goal

pub returns : goal.returns
returns c =
    let under = c.args.under.now in
    let s : Space = under.problem.now.space in
    let cs : List Constraint = under.problem.now.constraints in
    let r = relation_view c.args.relation.now in
    let named = c.args.named.now in
    let ds = under.functions.now.list in
    let row = c.in-Some.row in
    let all = c.constraints-constraints.ensures.value in
    let space = c.space-space.ensures.value in
    let whole = c.if-not-is_whole_equation.ensures in
    OnTrue_from c.in_ok-is_nothing.is_nothing (IsEquationUnder s.variables under.lines.now r named (forms_of (map of_constraint cs))) (λ e.
    equation_by_excess s under.lines.now r named cs ds row whole.0 whole.1
    (subst (λ (xs : List Constraint). All (IsAllowed (forms_of (map of_constraint xs))) named) all c.if-not-are_allowed.ensures)
    c.requires.read.said
    (subst (λ (z : Space). IsExcess z r false cs named row) space (subst
    (λ (xs : List Constraint). IsExcess c.space-space.result r false xs named row) all (rw c.in-Some.is at c.in_ok-row.ensures)))
    (subst (λ (z : Space). AreSameUnder z.variables ds (value row) (λ p. pos 0)) c.requires.read.space (OnTrue_at e c.in_ok-is_nothing.ensures)))
