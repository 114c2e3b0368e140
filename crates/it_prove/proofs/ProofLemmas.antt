-- From the ends of the run and the checker's verdict to the outcome.
use Rattle.std.proofs.Common.{◌≡◌, ◌≢◌, ◌⊎◌, inl, inr, ℕ, zero, suc, ℤ, List, [], ◌∷◌, map, length, get_or, All, Option, None, Result, Ok, Err, refl, sym, ap, subst, subst₂, ◌∙◌}
use Rattle.std.specs.Result.{IfOk}
use Rattle.it_number.specs.Limit.{IsWithin}
use Rattle.it_rational.specs.Rational.{Rational, integer}
use Rattle.it_rational.proofs.Field.{field_ℚ}
use Rattle.it_space.specs.declared.answers.Cause.{Cause}
use Rattle.it_space.specs.declared.answers.Cause.TheVariants.{Scale}
use Rattle.it_space.specs.declared.answers.Cause.TheVariants as causes
use Rattle.it_problems.specs.Problems.{ProblemView, IsProblem}
use Rattle.it_space.specs.Answers.{CertificateView}
use Rattle.it_space.specs.Rows.{Terms, IsCanonical, IsOver, coefficient, point_of}
use Rattle.it_space.specs.Spaces.{size_of}
use Rattle.it_polymatroid.specs.Elementals.{elementals}
use Rattle.std.specs.List.{AllByRecursion as Every}
use Rattle.it_space.proofs.EveryLemmas.{all_of, every-map}
use Rattle.it_tableau.specs.Operations.{rationals}
use Rattle.it_tableau.specs.Problems.{feasibility_problem}
use Rattle.it_run.specs.Readings.{SumsUp, Separates}
use Rattle.it_run.specs.Runs.{RunEndView}
use Rattle.it_run.specs.Runs.RunEndView.{Weights, Point, Pivots, Width}
use Rattle.it_run.specs.Solving.{RunsTo}
use Rattle.it_run.proofs.RunLemmas.{EndIsRight}
use Rattle.it_simplex.specs.Answers.{Solves, IsRightSolved as IsRightAnswer}
use Rattle.it_run.specs.Answers.{end_of_answer}
use Rattle.it_run.specs.declared.answering.Solved.{Solved}
use Rattle.it_run.specs.declared.answering.Solved.TheVariants.{Weights as OfWeights, Point as OfPoint, Pivots as OfPivots, Width as OfWidth}
use Rattle.it_tableau.specs.SimplexTables as simplex
use Rattle.it_tableau.specs.SimplexTables.{start}
use Rattle.it_tableau.specs.Fits.{StartFits}
use Rattle.it_simplex.proofs.AnswerLemmas.{ends_within_budget, ends_once as run_ends_once}
use Rattle.it_elemental.specs.Generators.{generators}
use Rattle.it_check.specs.Meaning.{CertifiesRow, CertificateFits, RefutesRow, PointFits}
use Rattle.it_check.specs.Verdicts.{yes_verdict, no_verdict}
use Rattle.it_check.specs.declared.verdicts.Verdict.TheVariants.{Valid}
use Rattle.it_check.proofs.Truth.{valid_yes_is, valid_no_is}
use Rattle.it_columns.specs.Columns.{columns}
use Rattle.it_prove.specs.ClosedProblems.{SameRows}
use Rattle.it_prove.specs.Closed.{closed_places, closed_generators, closed_target, CollapsesFit, spread_point}
use Rattle.it_columns.specs.Scaling.{NumbersFit, scaled_number}
use Rattle.it_prove.specs.ProofViews.{ProofView, Yes, No, Undecided, IsLifted, LiftedFit, Follows, RunEnds, EndsByRun, EndsWith, QuickEnds, IsSettled, IsUnbound, DefinedEndsMayCome, NeverOutOfSteps, OneProofView, ProvenAscends, proof_view}
use Rattle.it_prove.specs.declared.types.Effort.{Effort}
use Rattle.it_prove.specs.declared.types.Proof.{Proof}
use Rattle.it_prove.specs.declared.types.Runs.{Runs}
use Rattle.it_prove.specs.declared.types.Runs.TheVariants.{Defined, QuickFirst, QuickAlone}
use Rattle.it_prove.proofs.PointLemmas.{point_right}
use Rattle.it_prove.proofs.LiftLemmas.{one_lift}

module _ (q : ProblemView) (target : Terms) (k : IsProblem q) (u : IsOver (size_of q.space) target) where
  -- ---- weights

  module _ (ws : List (ℕ × Rational)) (w : CertificateView) (lift : IsLifted q target ws w) (certifies : CertifiesRow q target w) where
    pub proven_follows : LiftedFit q target ws → Valid ≡ yes_verdict (generators q) (size_of q.space) target w → Follows q target (Weights ws) (Yes w)
    proven_follows fit e = inl (w, lift, (fit, ((valid_yes_is q target w k u).0 (sym e)).1), refl)

    pub wide_certificate : (yes_verdict (generators q) (size_of q.space) target w ≡ Valid → ⊥) → Follows q target (Weights ws) (Undecided Scale)
    wide_certificate n = inr (
      (λ v l f. n ((valid_yes_is q target w k u).1 (certifies, subst (CertificateFits q target) (one_lift q target ws v w l lift) f.1))),
      refl,
    )

  -- ---- points

  module _ (qs : List Rational) (values : List ℤ) (same : values ≡ spread_point q qs) (fit : NumbersFit qs)
      (s : Separates rationals (length (closed_places q)) (length (columns (closed_generators q)))
      (feasibility_problem (closed_places q) (columns (closed_generators q)) (closed_target q target)) qs) where
    values_refute : RefutesRow q target values
    values_refute = subst (RefutesRow q target) (sym same) (point_right q target qs k u s)

    pub refuted_follows : Valid ≡ no_verdict (length (elementals q.space.variables)) (generators q) target (point_of values)
        → Follows q target (Point qs) (No values)
    refuted_follows e = inl ((fit, subst (PointFits q target) same ((valid_no_is q target values k u values_refute.complete).0 (sym e)).1), ap No same)

    pub wide_point : (no_verdict (length (elementals q.space.variables)) (generators q) target (point_of values) ≡ Valid → ⊥)
        → Follows q target (Point qs) (Undecided Scale)
    wide_point n = inr ((λ f. n ((valid_no_is q target values k u values_refute.complete).1 (values_refute, subst (PointFits q target) (sym same) f.1))), refl)

    pub point_size : length values ≡ size_of q.space
    point_size = values_refute.complete

-- scaled numbers that fit are within the limit
pub scaled_within : (l : ℕ) (qs : List Rational) (values : List ℤ) → values ≡ map (scaled_number l) qs
    → Every (λ q. IsWithin (scaled_number l q)) qs → All IsWithin values
scaled_within l qs values e f = subst (All IsWithin) (sym e) (all_of IsWithin (map (scaled_number l) qs) (every-map IsWithin (scaled_number l) qs f))

-- ---- the run

-- rows with the same coefficients make the same table
same_length : (rs ss : List Terms) → SameRows rs ss → length rs ≡ length ss
same_length [] [] s = refl
same_length [] (x ∷ xs) s = absurd s
same_length (r ∷ rs) [] s = absurd s
same_length (r ∷ rs) (x ∷ xs) s = ap suc (same_length rs xs s.1)

same_at : (rs ss : List Terms) → SameRows rs ss → (j c : ℕ) → coefficient (get_or rs j []) c ≡ coefficient (get_or ss j []) c
same_at [] [] s j c = refl
same_at [] (x ∷ xs) s j c = absurd s
same_at (r ∷ rs) [] s j c = absurd s
same_at (r ∷ rs) (x ∷ xs) s zero c = s.0 c
same_at (r ∷ rs) (x ∷ xs) s (suc j) c = same_at rs xs s.1 j c

module _ (coords : List ℕ) (rs ss : List Terms) (s : SameRows rs ss) (r t : Terms) (e : (c : ℕ) → coefficient r c ≡ coefficient t c) where
  same_problem : feasibility_problem coords rs r ≡ feasibility_problem coords ss t
  same_problem i = record {
    column = λ j k. integer (same_at rs ss s j (get_or coords k 0) i);
    target = λ k. integer (e (get_or coords k 0) i);
  }

  abbrev run_by : Option ℕ → RunEndView (List (ℕ × Rational)) (List Rational) → ℕ → simplex.FeasibilityProblem Rational → Type 0
  run_by budget end n p = (¬ (StartFits (length coords) n p) × (end ≡ Width zero))
      ⊎ (StartFits (length coords) n p × RunsTo (length coords) n p budget (start rationals (length coords) n p) end)

  pub same_run : (budget : Option ℕ) (end : RunEndView (List (ℕ × Rational)) (List Rational)) → Solves coords rs r budget end → Solves coords ss t budget end
  same_run budget end h = subst₂ (run_by budget end) (same_length rs ss s) same_problem h

  pub same_sums : (ws : List (ℕ × Rational)) → SumsUp rationals (length coords) (length rs) (feasibility_problem coords rs r) ws
      → SumsUp rationals (length coords) (length ss) (feasibility_problem coords ss t) ws
  same_sums ws h = subst₂ (λ (n : ℕ) (p : simplex.FeasibilityProblem Rational). SumsUp rationals (length coords) n p ws) (same_length rs ss s) same_problem h

  pub same_separates : (qs : List Rational) → Separates rationals (length coords) (length rs) (feasibility_problem coords rs r) qs
      → Separates rationals (length coords) (length ss) (feasibility_problem coords ss t) qs
  same_separates qs h = subst₂ (λ (n : ℕ) (p : simplex.FeasibilityProblem Rational). Separates rationals (length coords) n p qs)
      (same_length rs ss s) same_problem h

-- the run of the code's rows is that of the problem
module _ (q : ProblemView) (target : Terms) (coords : List ℕ) (at : coords ≡ closed_places q) (rs : List Terms)
    (s : SameRows rs (columns (closed_generators q)))
    (r : Terms) (e : (c : ℕ) → coefficient r c ≡ coefficient (closed_target q target) c) where
  pub ends_so : CollapsesFit q target → (budget : Option ℕ) (end : RunEndView (List (ℕ × Rational)) (List Rational)) (o : ProofView)
      → Solves coords rs r budget end → Follows q target end o → EndsByRun q target budget o
  ends_so fit budget end o h f = record {
    end = end;
    run = inr (
      fit,
      same_run (closed_places q) rs (columns (closed_generators q)) s r (closed_target q target) e budget end
          (subst (λ (cs : List ℕ). Solves cs rs r budget end) at h),
    );
    follows = f;
  }

  pub sums_so : (ws : List (ℕ × Rational)) → SumsUp rationals (length coords) (length rs) (feasibility_problem coords rs r) ws
      → SumsUp rationals (length (closed_places q)) (length (columns (closed_generators q)))
      (feasibility_problem (closed_places q) (columns (closed_generators q)) (closed_target q target)) ws
  sums_so ws h = same_sums (closed_places q) rs (columns (closed_generators q)) s r (closed_target q target) e ws
      (subst (λ (cs : List ℕ). SumsUp rationals (length cs) (length rs) (feasibility_problem cs rs r) ws) at h)

  pub separates_so : (qs : List Rational) → Separates rationals (length coords) (length rs) (feasibility_problem coords rs r) qs
      → Separates rationals (length (closed_places q)) (length (columns (closed_generators q)))
      (feasibility_problem (closed_places q) (columns (closed_generators q)) (closed_target q target)) qs
  separates_so qs h = same_separates (closed_places q) rs (columns (closed_generators q)) s r (closed_target q target) e qs
      (subst (λ (cs : List ℕ). Separates rationals (length cs) (length rs) (feasibility_problem cs rs r) qs) at h)

pub wide_start : (q : ProblemView) (target : Terms) (budget : Option ℕ) → ¬ (CollapsesFit q target) → EndsByRun q target budget (Undecided (causes.Width 0))
wide_start q target budget n = record { end = Width 0; run = inl (n, refl); follows = refl }

-- the outcome by the run's answer
abbrev IsRightEnd : List ℕ → List Terms → Terms → RunEndView (List (ℕ × Rational)) (List Rational) → Type 0
IsRightEnd coords rs r end = EndIsRight field_ℚ (length coords) (length rs) (feasibility_problem coords rs r) end

right_end : (coords : List ℕ) (rs : List Terms) (r : Terms) (x : Solved) → IsRightAnswer coords rs r x → IsRightEnd coords rs r (end_of_answer x)
right_end coords rs r (OfWeights ws) h = h
right_end coords rs r (OfPoint qs) h = h
right_end coords rs r (OfPivots k) h = tt
right_end coords rs r (OfWidth k) h = tt

-- the same with what the code has
module _ (q : ProblemView) (target : Terms) (coords items : List ℕ) (slice : coords ≡ items) (at : items ≡ closed_places q)
    (rs rows : List Terms) (same : rs ≡ rows) (s : SameRows rows (columns (closed_generators q))) (r : Terms)
    (e : (c : ℕ) → coefficient r c ≡ coefficient (closed_target q target) c) (x : Solved) where
  places_are : coords ≡ closed_places q
  places_are = slice ∙ at

  rows_are : SameRows rs (columns (closed_generators q))
  rows_are = subst (λ (xs : List Terms). SameRows xs (columns (closed_generators q))) (sym same) s

  pub answer_ends : CollapsesFit q target → (budget : Option ℕ) → Solves coords rs r budget (end_of_answer x)
      → (end : RunEndView (List (ℕ × Rational)) (List Rational)) (o : ProofView) → end_of_answer x ≡ end → Follows q target end o
      → EndsByRun q target budget o
  answer_ends fit budget h end o is f = ends_so q target coords places_are rs rows_are r e fit budget end o (subst (Solves coords rs r budget) is h) f

  pub answer_sums : IsRightAnswer coords rs r x → (part : List (ℕ × Rational)) → end_of_answer x ≡ Weights part
      → SumsUp rationals (length (closed_places q)) (length (columns (closed_generators q)))
      (feasibility_problem (closed_places q) (columns (closed_generators q)) (closed_target q target)) part
  answer_sums h part is = sums_so q target coords places_are rs rows_are r e part (subst (IsRightEnd coords rs r) is (right_end coords rs r x h))

  pub answer_separates : IsRightAnswer coords rs r x → (part : List Rational) → end_of_answer x ≡ Point part
      → Separates rationals (length (closed_places q)) (length (columns (closed_generators q)))
      (feasibility_problem (closed_places q) (columns (closed_generators q)) (closed_target q target)) part
  answer_separates h part is = separates_so q target coords places_are rs rows_are r e part (subst (IsRightEnd coords rs r) is (right_end coords rs r x h))

-- ---- one outcome

one_follows : (q : ProblemView) (target : Terms) (e : RunEndView (List (ℕ × Rational)) (List Rational)) (o p : ProofView)
    → Follows q target e o → Follows q target e p → o ≡ p
one_follows q target (Weights ws) o p (inl a) (inl b) = a.3 ∙ ap Yes (one_lift q target ws a.0 b.0 a.1 b.1) ∙ sym b.3
one_follows q target (Weights ws) o p (inl a) (inr b) = absurd (b.0 a.0 a.1 a.2)
one_follows q target (Weights ws) o p (inr a) (inl b) = absurd (a.0 b.0 b.1 b.2)
one_follows q target (Weights ws) o p (inr a) (inr b) = a.1 ∙ sym b.1
one_follows q target (Point qs) o p (inl a) (inl b) = a.1 ∙ sym b.1
one_follows q target (Point qs) o p (inl a) (inr b) = absurd (b.0 a.0)
one_follows q target (Point qs) o p (inr a) (inl b) = absurd (a.0 b.0)
one_follows q target (Point qs) o p (inr a) (inr b) = a.1 ∙ sym b.1
one_follows q target (Pivots k) o p a b = a ∙ sym b
one_follows q target (Width k) o p a b = a ∙ sym b

one_run : (q : ProblemView) (target : Terms) (budget : Option ℕ) (d e : RunEndView (List (ℕ × Rational)) (List Rational))
    → RunEnds q target budget d → RunEnds q target budget e → d ≡ e
one_run q target budget d e (inl a) (inl b) = a.1 ∙ sym b.1
one_run q target budget d e (inl a) (inr b) = absurd (a.0 b.0)
one_run q target budget d e (inr a) (inl b) = absurd (b.0 a.0)
one_run q target budget d e (inr a) (inr b) = run_ends_once (closed_places q) (columns (closed_generators q)) (closed_target q target) budget d e a.1 b.1

one_run_outcome : (q : ProblemView) (target : Terms) (budget : Option ℕ) (o p : ProofView) → EndsByRun q target budget o → EndsByRun q target budget p → o ≡ p
one_run_outcome q target budget o p a b =
    one_follows q target b.end o p (subst (λ e. Follows q target e o) (one_run q target budget a.end b.end a.run b.run) a.follows) b.follows

-- ---- what comes beside the defined run

-- it is settled, or left open without a step
pub quick_ends : (runs : Runs) (q : ProblemView) (target : Terms) (o : ProofView) → QuickEnds runs q target o
    → IsSettled q target o ⊎ (o ≡ Undecided (causes.Pivots 0))
quick_ends Defined q target o e = absurd e
quick_ends QuickFirst q target o e = inl e
quick_ends QuickAlone q target o e = e

pub quick_yes : (runs : Runs) (q : ProblemView) (target : Terms) (w : CertificateView) → QuickEnds runs q target (Yes w) → IsSettled q target (Yes w)
quick_yes runs q target w e = by_cases (quick_ends runs q target (Yes w) e)
  where
    by_cases : IsSettled q target (Yes w) ⊎ (Yes w ≡ Undecided (causes.Pivots 0)) → IsSettled q target (Yes w)
    by_cases (inl settled) = settled
    by_cases (inr is) = absurd (cc)

pub quick_no : (runs : Runs) (q : ProblemView) (target : Terms) (values : List ℤ) → QuickEnds runs q target (No values) → IsSettled q target (No values)
quick_no runs q target values e = by_cases (quick_ends runs q target (No values) e)
  where
    by_cases : IsSettled q target (No values) ⊎ (No values ≡ Undecided (causes.Pivots 0)) → IsSettled q target (No values)
    by_cases (inl settled) = settled
    by_cases (inr is) = absurd (cc)

pub quick_cause : (runs : Runs) (q : ProblemView) (target : Terms) (cause : Cause) → QuickEnds runs q target (Undecided cause) → cause ≡ causes.Pivots 0
quick_cause runs q target cause e = by_cases (quick_ends runs q target (Undecided cause) e)
  where
    by_cases : ⊥ ⊎ (Undecided cause ≡ Undecided (causes.Pivots 0)) → cause ≡ causes.Pivots 0
    by_cases (inl settled) = absurd settled
    by_cases (inr is) = cc

-- where the defined run alone is made, nothing does
none_beside : (q : ProblemView) (target : Terms) (runs : Runs) (o : ProofView) → runs ≡ Defined → QuickEnds runs q target o → ⊥
none_beside q target runs o defined e = subst (λ (r : Runs). QuickEnds r q target o) defined e

pub one_outcome : OneProofView
one_outcome q target effort o p e (inl a) (inl b) = one_run_outcome q target effort.pivots o p a b
one_outcome q target effort o p e (inl a) (inr b) = absurd (none_beside q target effort.runs p e b)
one_outcome q target effort o p e (inr a) b = absurd (none_beside q target effort.runs o e a)

-- the outcome of the defined run may come whichever runs are made
pub defined_ends_may_come : DefinedEndsMayCome
defined_ends_may_come q target runs budget o (inl a) = inl a
defined_ends_may_come q target runs budget o (inr b) = absurd b

-- weights of a proof ascend, and none is 0
run_ascends : (q : ProblemView) (target : Terms) (budget : Option ℕ) (w : CertificateView) → EndsByRun q target budget (Yes w) → IsCanonical w.weights
run_ascends q target budget w e = for_each e.end e.follows
  where
    same_certificate : (v : CertificateView) → Yes w ≡ Yes v → w ≡ v
    same_certificate v e = cc

    yes_not_no : {values : List ℤ} → Yes w ≡ No values → ⊥
    yes_not_no e = cc

    yes_not_undecided : {c : Cause} → Yes w ≡ Undecided c → ⊥
    yes_not_undecided e = cc

    for_each : (end : RunEndView (List (ℕ × Rational)) (List Rational)) → Follows q target end (Yes w) → IsCanonical w.weights
    for_each (Weights ws) (inl a) = subst (λ (x : CertificateView). IsCanonical x.weights) (sym (same_certificate a.0 a.3)) a.1.canonical
    for_each (Weights ws) (inr a) = absurd (yes_not_undecided a.1)
    for_each (Point qs) (inl a) = absurd (yes_not_no a.1)
    for_each (Point qs) (inr a) = absurd (yes_not_undecided a.1)
    for_each (Pivots k) a = absurd (yes_not_undecided a)
    for_each (Width k) a = absurd (yes_not_undecided a)

pub proven_ascends : ProvenAscends
proven_ascends q target effort w (inl e) = run_ascends q target effort.pivots w e
proven_ascends q target effort w (inr e) = (quick_yes effort.runs q target w e).1

-- ---- without a budget

run_within_budget : (q : ProblemView) (target : Terms) (e : RunEndView (List (ℕ × Rational)) (List Rational)) → RunEnds q target None e → (k : ℕ) → e ≢ Pivots k
run_within_budget q target e (inl a) = λ k p. let h = a.1 in cc
run_within_budget q target e (inr a) = ends_within_budget (closed_places q) (columns (closed_generators q)) (closed_target q target) e a.1

run_never_out : (q : ProblemView) (target : Terms) (k : ℕ) → EndsByRun q target None (Undecided (causes.Pivots k)) → ⊥
run_never_out q target k e = for_each e.end e.follows (run_within_budget q target e.end e.run)
  where
    pivots_not_yes : {w : CertificateView} → Undecided (causes.Pivots k) ≡ Yes w → ⊥
    pivots_not_yes e = cc

    pivots_not_no : {values : List ℤ} → Undecided (causes.Pivots k) ≡ No values → ⊥
    pivots_not_no e = cc

    pivots_not_scale : Undecided (causes.Pivots k) ≡ Undecided Scale → ⊥
    pivots_not_scale e = cc

    pivots_not_width : {j : ℕ} → Undecided (causes.Pivots k) ≡ Undecided (causes.Width j) → ⊥
    pivots_not_width e = cc

    for_each : (end : RunEndView (List (ℕ × Rational)) (List Rational)) → Follows q target end (Undecided (causes.Pivots k)) → ((j : ℕ) → end ≢ Pivots j) → ⊥
    for_each (Weights ws) (inl a) i = pivots_not_yes a.3
    for_each (Weights ws) (inr a) i = pivots_not_scale a.1
    for_each (Point qs) (inl a) i = pivots_not_no a.1
    for_each (Point qs) (inr a) i = pivots_not_scale a.1
    for_each (Pivots j) a i = i j refl
    for_each (Width j) a i = pivots_not_width a

-- where the defined run is made, no target is left open beside it
none_open : (q : ProblemView) (target : Terms) (runs : Runs) (cause : Cause) → runs ≢ QuickAlone → QuickEnds runs q target (Undecided cause) → ⊥
none_open q target Defined cause made e = e
none_open q target QuickFirst cause made e = e
none_open q target QuickAlone cause made e = made refl

pub never_out_of_steps : NeverOutOfSteps
never_out_of_steps q target effort k u (inl e) = run_never_out q target k (subst (λ b. EndsByRun q target b (Undecided (causes.Pivots k))) u.0 e)
never_out_of_steps q target effort k u (inr e) = none_open q target effort.runs (causes.Pivots k) u.1 e

-- so is the result of the code
pub never_pivots : {E : Type 0} (q : ProblemView) (target : Terms) (effort : Effort) (r : Result Proof E)
    → IfOk r (λ proof. EndsWith q target effort (proof_view proof))
    → IsUnbound effort → IfOk r (λ proof. (k : ℕ) → proof_view proof ≢ Undecided (causes.Pivots k))
never_pivots q target effort (Err fault) h u = tt
never_pivots q target effort (Ok proof) h u = λ k is. never_out_of_steps q target effort k u (subst (EndsWith q target effort) is h)

-- the result of the code by the defined run is a possible outcome about the target
pub defined_ends : {E : Type 0} (q : ProblemView) (target : Terms) (effort : Effort) (r : Result Proof E)
    → IfOk r (λ proof. EndsByRun q target effort.pivots (proof_view proof)) → IfOk r (λ proof. EndsWith q target effort (proof_view proof))
defined_ends q target effort (Err fault) h = tt
defined_ends q target effort (Ok proof) h = inl h
