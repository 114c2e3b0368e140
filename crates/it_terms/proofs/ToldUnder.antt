-- A proof that is told where functions hold proves.
use Rattle.std.proofs.Common.{◌≡◌, ℕ, ◌<◌, ℤ, pos, ◌+ℤ◌, ◌*ℤ◌, ◌≤ℤ◌, true, List, length, sym, ap, ◌∙◌, subst, arith}
use Rattle.std.proofs.lemmas.Int.{ints}
use Rattle.it_number.proofs.SignLemmas.{sum_least, least_by_multiple}
use Rattle.it_polymatroid.specs.Polymatroid.{IsPolymatroid}
use Rattle.it_polymatroid.specs.Certificates.{Form, Generators, combination}
use Rattle.it_syntax.specs.declared.types.Term.{Term}
use Rattle.it_syntax.specs.Meaning.{RelationView, common_denominator, side_at}
use Rattle.it_demand.specs.Demands.{Demand}
use Rattle.it_question.specs.ProblemLines.{problem_names, problem_lines}
use Rattle.it_canon.specs.TrueLines.{variable_count}
use Rattle.it_canon.specs.QuestionDemands.{question_demands}
use Rattle.it_terms.specs.Proofs.{constraints_of, demand_at, side_form}
use Rattle.it_terms.specs.FunctionProofs.{IsProofUnder, ToldUnderProves}
use Rattle.it_terms.proofs.ToldProofs.{side-append, weighted_least, terms_least, lines_satisfied, demand_satisfied, met_least, met_zero}
use Rattle.it_terms.proofs.UnderLemmas.{same_at}

-- the target of such a proof is at least 0 at each polymatroid that meets the constraints
proof_under_least : (n : ℕ) (lines : List ℕ) (r : RelationView) (named : List (ℕ × ℤ)) (target : Form) (g : Generators)
    → IsProofUnder n lines r named target g → (p : ℕ → ℤ) → IsPolymatroid n p
    → ((i : ℕ) → i < g.count → pos 0 ≤ℤ g.form i p) → ((i : ℕ) → i < g.count → g.is_equation i ≡ true → g.form i p ≡ pos 0) → pos 0 ≤ℤ target p
proof_under_least n lines r named target g u p h least zeros =
    let m = common_denominator r in
    let s = u.proves in
    let more : ℤ = combination named (λ i. g.form i p) in
    let a : pos 0 ≤ℤ side_at n p m s.shannon = terms_least n m p s.shannon h s.plus in
    let b : pos 0 ≤ℤ side_at n p m s.rest = subst (λ (x : ℤ). pos 0 ≤ℤ x) (sym (s.constraints_are p h.empty))
    (weighted_least g (λ i. g.form i p) least zeros s.weights s.allowed) in
    let c : pos 0 ≤ℤ more = weighted_least g (λ i. g.form i p) least zeros named u.allowed in
    let right : side_form n r r.right p ≡ side_at n p m s.shannon +ℤ side_at n p m s.rest = ap (λ (ts : List Term). side_at n p m ts)
    s.right ∙ side-append n m p s.shannon s.rest in
    let e : s.scale *ℤ target p ≡ side_at n p m s.shannon +ℤ side_at n p m s.rest +ℤ more =
    sym (s.target_is p h.empty)
    ∙ same_at n g lines u.functions (side_form n r r.left) (λ q. side_form n r r.right q +ℤ combination named (λ i. g.form i q)) p u.said h zeros u.adds_up
    ∙ ap (λ (x : ℤ). x +ℤ more) right in
    least_by_multiple s.scale (target p) (let o = s.scale_from_one in omega (arith, ints, o))
    (subst (λ (x : ℤ). pos 0 ≤ℤ x) (sym e) (sum_least (side_at n p m s.shannon +ℤ side_at n p m s.rest) more
    (sum_least (side_at n p m s.shannon) (side_at n p m s.rest) a b) c))

pub told_under_proves : ToldUnderProves
told_under_proves q lines named target text t p h =
    let ds : List Demand = question_demands q in
    let all = lines_satisfied (variable_count q) (problem_lines q) p h.1 in
    proof_under_least (length (problem_names q).variables) lines t.relation named target (constraints_of ds) t.proves p h.0
    (λ i within. met_least (demand_at ds i).kind ((demand_at ds i).form p) (demand_satisfied p ds i within all))
    (λ i within e. met_zero (demand_at ds i).kind ((demand_at ds i).form p) e (demand_satisfied p ds i within all))
