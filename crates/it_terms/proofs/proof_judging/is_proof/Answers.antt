use Rattle.std.proofs.Common.{rules, ℕ, ℤ, pos, ◌≤◌, ◌≤ℤ◌, List, take, drop, map, All, ◌≡◌, subst, subst₂, ◌∙◌, ap}
use Rattle.std.proofs.lemmas.Bool.{OnTrue_at, OnTrue_from}
use Rattle.std.proofs.lemmas.List.Elements.{All-drop}
use Rattle.it_syntax.specs.declared.types.Term.{Term}
use Rattle.it_space.specs.declared.spaces.Space.{Space}
use Rattle.it_problems.specs.declared.problems.Constraint.{Constraint}
use Rattle.it_space.specs.Rows.{value}
use Rattle.it_polymatroid.specs.Certificates.{IsAllowed, combination}
use Rattle.it_elemental.specs.Generators.{forms_of, of_constraint}
use Rattle.it_demand.specs.Canonical.{IsRowOf}
use Rattle.it_syntax.specs.Meaning.{RelationView, relation_view, side_at}
use Rattle.it_syntax.proofs.MultipleLemmas.{left_denominators, right_denominators}
use Rattle.it_terms.specs.Proofs.{AreSame, IsPlusShannon, IsProofOf}
use Rattle.it_terms.specs.Sums.{constraint_value}
use Rattle.it_terms.proofs.EquationLemmas.{split_proves}
use Rattle.it_terms.proofs.proof_judging.is_proof.Goals as goal

pub side_row-requires-clause-denominators : goal.side_row-requires-clause-denominators
side_row-requires-clause-denominators c = let k = c.requires.within
    in rw c.as_slice.ensures.value (left_denominators (relation_view c.args.relation.now) (k.some_multiple, k.small_multiple))

pub side_row-requires-2-clause-denominators : goal.side_row-requires-2-clause-denominators
side_row-requires-2-clause-denominators c =
    let k = c.requires.within in
    let all : All (λ (t : Term). 1 ≤ t.denominator) c.as_slice-right.result.now = rw c.as_slice-right.ensures.value
    (right_denominators (relation_view c.args.relation.now) (k.some_multiple, k.small_multiple)) in
    rw c.split_at.ensures.back (All-drop (λ (t : Term). 1 ≤ t.denominator) c.args.split.now.shannon c.as_slice-right.result.now all)

pub returns : goal.returns
returns c =
    let s : Space = c.args.space in
    let n : ℕ = s.variables in
    let r : RelationView = relation_view c.args.relation.now in
    let cs : List Constraint = c.args.constraints.now in
    let count : ℕ = c.args.split.now.shannon in
    let ws : List (ℕ × ℤ) = c.args.split.now.weights.items in
    let scale : ℤ = c.args.split.now.target.1 in
    let front : c.split_at.result.0.now ≡ take count r.right = c.split_at.ensures.front
    ∙ ap (λ (ts : List Term). take count ts) c.as_slice-right.ensures.value in
    let back : c.split_at.result.1.now ≡ drop count r.right = c.split_at.ensures.back ∙ ap (λ (ts : List Term). drop count ts) c.as_slice-right.ensures.value in
    let one : pos 1 ≤ℤ scale = search (rules, c.if-split-lt1.false) in
    OnTrue_from c.in_ok-is_rest.is_rest (IsProofOf n r (value c.args.target.now) (forms_of (map of_constraint cs))) (λ e.
    split_proves s r c.args.target.now cs count c.in_ok-left.left c.in_ok-rest.rest scale ws
    (subst (λ (ts : List Term). All (IsPlusShannon n) ts) front c.if-not-are_plus.ensures)
    (subst (λ (us : List (ℕ × ℤ)). All (IsAllowed (forms_of (map of_constraint cs))) us) c.as_slice-weights.ensures.value c.if-not-are_allowed.ensures)
    one
    (subst₂ (λ (m : ℕ) (ts : List Term). IsRowOf s (λ p. side_at n p m ts) c.in_ok-left.left) c.common_denominator-multiple.ensures
    c.as_slice.ensures.value c.in_ok-left.ensures)
    (subst₂ (λ (m : ℕ) (ts : List Term). IsRowOf s (λ p. side_at n p m ts) c.in_ok-rest.rest) c.common_denominator-multiple.ensures back c.in_ok-rest.ensures)
    (OnTrue_at c.if-not-is_target.false c.in_ok-is_target.ensures)
    (subst (λ (us : List (ℕ × ℤ)). AreSame (value c.in_ok-rest.rest) (λ p. combination us (constraint_value cs p)))
    c.as_slice-weights.ensures.value (OnTrue_at e c.in_ok-is_rest.ensures)))
