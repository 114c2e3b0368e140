use Rattle.std.proofs.Common.{All, List, ℕ, ℤ, map, pos, subst, subst₂, true}
use Rattle.std.proofs.lemmas.Bool.{OnTrue_at, OnTrue_from}
use Rattle.it_space.specs.declared.spaces.Space.{Space}
use Rattle.it_problems.specs.declared.problems.Constraint.{Constraint}
use Rattle.it_space.specs.Rows.{value}
use Rattle.it_polymatroid.specs.Certificates.{IsAllowed}
use Rattle.it_elemental.specs.Generators.{forms_of, of_constraint}
use Rattle.it_syntax.specs.Meaning.{relation_view}
use Rattle.it_terms.specs.FunctionProofs.{AreSameUnder, IsProofUnder}
use Rattle.it_terms.specs.Proposals.{IsProofFrom}
use Rattle.it_terms.specs.Sums.{IsExcess}
use Rattle.it_terms.proofs.UnderLemmas.{proof_by_excess}
use Rattle.it_terms.proofs.under_judging.is_proof_under.Goals as goal

pub returns : goal.returns
returns c =
    let s : Space = c.args.said.now.problem.now.space in
    let cs : List Constraint = c.args.said.now.problem.now.constraints in
    let r = relation_view c.args.relation.now in
    let named = c.args.sides.now.named.items in
    let ds = c.args.said.now.functions.now.list in
    let row = c.in-Some.row in
    let all = c.constraints-constraints.ensures.value in
    let weights = c.as_slice-named.ensures.value in
    let space = c.space-space.ensures.value in
    let whole = c.if-not-is_whole_equation.ensures in
    OnTrue_from c.in_ok-is_nothing.is_nothing (IsProofUnder s.variables c.args.said.now.lines.now r named (value c.args.target.now)
    (forms_of (map of_constraint cs))) (λ e.
    proof_by_excess s c.args.said.now.lines.now r named c.args.target.now cs ds row whole.0 whole.1
    (subst₂ (λ (xs : List Constraint) (z : Space). IsProofFrom z.variables r c.args.target.now xs) all space
    (OnTrue_at c.if-not-is_split.false c.in_ok-is_split.ensures))
    (subst₂ (λ (xs : List Constraint) (ws : List (ℕ × ℤ)). All (IsAllowed (forms_of (map of_constraint xs))) ws) all weights c.if-not-are_allowed.ensures)
    c.requires.there c.requires.said
    (subst (λ (z : Space). IsExcess z r true cs named row) space (subst₂
    (λ (xs : List Constraint) (ws : List (ℕ × ℤ)). IsExcess c.space-space.result r true xs ws row) all weights
    (rw c.in-Some.is at c.in_ok-row.ensures)))
    (subst (λ (z : Space). AreSameUnder z.variables ds (value row) (λ p. pos 0)) c.requires.space (OnTrue_at e c.in_ok-is_nothing.ensures)))
