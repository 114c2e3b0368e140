-- The end of a run is right: the lift of weights certifies the target, and a point that is spread out refutes it.
use Rattle.std.proofs.Common.{◌≡◌, ◌⊎◌, inl, inr, ℕ, ℤ, pos, neg_ℤ, ◌≤ℤ◌, List, Option, Result, Ok, Err, length, sym, subst, arith}
use Rattle.std.proofs.lemmas.Int.{ints}
use Rattle.std.specs.Result.{IfOk}
use Rattle.it_rational.specs.Rational.{Rational}
use Rattle.it_rational.proofs.Field.{field_ℚ}
use Rattle.it_problems.specs.Problems.{ProblemView, IsProblem}
use Rattle.it_space.specs.Answers.{CertificateView}
use Rattle.it_space.specs.Rows.{Terms, IsOver, point_of, value}
use Rattle.it_space.specs.Spaces.{size_of}
use Rattle.it_tableau.specs.Problems.{feasibility_problem}
use Rattle.it_run.specs.Runs.{RunEndView}
use Rattle.it_run.specs.Runs.RunEndView.{Weights, Point, Pivots, Width}
use Rattle.it_run.specs.Solving.{StepFits}
use Rattle.it_run.proofs.BudgetLemmas.{right_by}
use Rattle.it_run.proofs.RunLemmas.{EndIsRight}
use Rattle.it_check.proofs.Truth.{yes_is_true}
use Rattle.it_prove.specs.Closed.{closed_places, closed_generators, closed_target}
use Rattle.it_columns.specs.Columns.{columns}
use Rattle.it_prove.specs.ProofViews.{ProofView, Yes, No, Undecided, Follows, RunEnds, EndsByRun, EndsWith, EndsAgree, IsRightProof, IsSettled, EndsAreRight, proof_view}
use Rattle.it_prove.specs.declared.types.Effort.{Effort}
use Rattle.it_prove.specs.declared.types.Proof.{Proof}
use Rattle.it_space.specs.declared.answers.Cause.TheVariants as causes
use Rattle.it_prove.proofs.LiftLemmas.{lifted_certifies}
use Rattle.it_prove.proofs.PointLemmas.{point_right}
use Rattle.it_prove.proofs.ProofLemmas.{quick_ends}

module _ (q : ProblemView) (target : Terms) where
  -- weights sum to the collapsed target, and a point separates it from the columns
  abbrev IsRightEnd : RunEndView (List (ℕ × Rational)) (List Rational) → Type 0
  IsRightEnd end = EndIsRight field_ℚ (length (closed_places q)) (length (columns (closed_generators q)))
      (feasibility_problem (closed_places q) (columns (closed_generators q)) (closed_target q target)) end

  right_run : (budget : Option ℕ) (end : RunEndView (List (ℕ × Rational)) (List Rational)) → RunEnds q target budget end → IsRightEnd end
  right_run budget end (inl a) = subst IsRightEnd (sym a.1) tt
  right_run budget end (inr (c, inl a)) = subst IsRightEnd (sym a.1) tt
  right_run budget end (inr (c, inr a)) =
      let m = length (closed_places q) in let n = length (columns (closed_generators q)) in
      right_by field_ℚ m n (StepFits m n) (feasibility_problem (closed_places q) (columns (closed_generators q)) (closed_target q target)) budget end a.1

  right_outcome : IsProblem q → IsOver (size_of q.space) target → (end : RunEndView (List (ℕ × Rational)) (List Rational)) (o : ProofView)
      → IsRightEnd end → Follows q target end o → IsRightProof q target o
  right_outcome k u (Weights ws) o r (inl (w, lift, fit, is)) = subst (IsRightProof q target) (sym is)
      (lifted_certifies q target k u ws r fit.0.numbers w lift, fit.1)
  right_outcome k u (Weights ws) o r (inr a) = subst (IsRightProof q target) (sym a.1) tt
  right_outcome k u (Point qs) o r (inl a) = subst (IsRightProof q target) (sym a.1) (point_right q target qs k u r, a.0.1)
  right_outcome k u (Point qs) o r (inr a) = subst (IsRightProof q target) (sym a.1) tt
  right_outcome k u (Pivots j) o r e = subst (IsRightProof q target) (sym e) tt
  right_outcome k u (Width j) o r e = subst (IsRightProof q target) (sym e) tt

run_right : (q : ProblemView) (target : Terms) (budget : Option ℕ) (o : ProofView) → IsProblem q → IsOver (size_of q.space) target
    → EndsByRun q target budget o → IsRightProof q target o
run_right q target budget o k u e = right_outcome q target k u e.end o (right_run q target budget e.end e.run) e.follows

-- what is settled is right
settled_right : (q : ProblemView) (target : Terms) (o : ProofView) → IsSettled q target o → IsRightProof q target o
settled_right q target (Yes w) (right, canonical, within) = right
settled_right q target (No values) (right, within) = right
settled_right q target (Undecided cause) s = tt

quick_right : (q : ProblemView) (target : Terms) (o : ProofView) → IsSettled q target o ⊎ (o ≡ Undecided (causes.Pivots 0)) → IsRightProof q target o
quick_right q target o (inl settled) = settled_right q target o settled
quick_right q target o (inr is) = subst (IsRightProof q target) (sym is) tt

pub ends_are_right : EndsAreRight
ends_are_right q target effort o k u (inl e) = run_right q target effort.pivots o k u e
ends_are_right q target effort o k u (inr e) = quick_right q target o (quick_ends effort.runs q target o e)

-- so is the result of the code
pub right_result : {E : Type 0} (q : ProblemView) (target : Terms) (effort : Effort) (r : Result Proof E) → IsProblem q → IsOver (size_of q.space) target
    → IfOk r (λ proof. EndsWith q target effort (proof_view proof)) → IfOk r (λ proof. IsRightProof q target (proof_view proof))
right_result q target effort (Err e) k u h = tt
right_result q target effort (Ok proof) k u h = ends_are_right q target effort (proof_view proof) k u h

not_at_least_zero : (x : ℤ) → x ≤ℤ neg_ℤ (pos 1) → pos 0 ≤ℤ x → ⊥
not_at_least_zero x h k = omega (arith, ints)

-- a right certificate and a right point exclude each other
right_agree : (q : ProblemView) (target : Terms) (w : CertificateView) (values : List ℤ) → IsProblem q → IsOver (size_of q.space) target
    → IsRightProof q target (Yes w) → IsRightProof q target (No values) → ⊥
right_agree q target w values k u proof refutation =
    let low : value target (point_of values) ≤ℤ neg_ℤ (pos 1) = refutation.0.violated in
    let high : pos 0 ≤ℤ value target (point_of values) = yes_is_true q target w k u proof.0 (point_of values) refutation.0.polymatroid refutation.0.met in
    not_at_least_zero (value target (point_of values)) low high

pub ends_agree : EndsAgree
ends_agree q target effort other w values k u a b = right_agree q target w values k u (ends_are_right q target effort (Yes w) k u a)
    (ends_are_right q target other (No values) k u b)
