-- An answer that shows what it says is true.
use Rattle.std.proofs.Common.{ℕ, ℤ, pos, neg_ℤ, ◌≤ℤ◌, List, [], ◌∷◌, map, flat_map, length, Bool, true, false, All, refl, sym, subst, arith}
use Rattle.std.specs.List.{AllByRecursion as Every}
use Rattle.std.proofs.lemmas.Int.{ints}
use Rattle.std.proofs.lemmas.List.Elements.{All-nil, All-cons, All-head, All-tail, All-append, All-weaker}
use Rattle.it_number.proofs.SignLemmas.{least_by_multiple}
use Rattle.it_problems.specs.declared.problems.Kind.TheVariants.{Inequality}
use Rattle.it_space.specs.Answers.{AnswerView, CertificateView}
use Rattle.it_space.specs.Answers.AnswerView.{Yes, No, Undecided, Region, Contained, Open}
use Rattle.it_space.specs.Rows.{point_of}
use Rattle.it_space.proofs.EveryLemmas.{every_of, every-append, every-map}
use Rattle.it_polymatroid.specs.Certificates.{Form, Generators, IsAllowed}
use Rattle.it_polymatroid.specs.Elementals.{elementals, elemental_value}
use Rattle.it_polymatroid.proofs.Certified.{weighted_least}
use Rattle.it_polymatroid.proofs.Generate.{elementals_generate}
use Rattle.it_syntax.specs.Meaning.{RelationView, common_denominator, side_at, Holds}
use Rattle.it_question.specs.Questions.{BodyView, VerbView, Prove, Eliminate, Contain}
use Rattle.it_demand.specs.Canonical.{form_of}
use Rattle.it_demand.specs.Demands.{Demand, demand_of, demands}
use Rattle.it_demand.specs.Targets.{targets}
use Rattle.it_canon.specs.QuestionDemands.{question_demands}
use Rattle.it_canon.specs.TrueLines.{variable_count, AreTrueTogether}
use Rattle.it_question.specs.ProblemLines.{problem_lines}
use Rattle.it_demand.proofs.MetLemmas.{IsSatisfied, givens_satisfied, rows_satisfied, targets_met}
use Rattle.it_elemental.specs.Generators.{is_equation}
use Rattle.it_elemental.proofs.GeneratorLemmas.{every_or}
use Rattle.it_check.proofs.Truth.{at_least, is_zero}
use Rattle.it_answer.specs.Forms.{CertifiesForm, CertifyAll, all_demands, demand_at, demand_of_elemental, IsAllowedWeight}
use Rattle.it_answer.proofs.FormLemmas.{inequality_unless_equation}
use Rattle.it_answer.specs.Shows.{Refutes, ShowsBy, WhatIsShownIsTrue}
use Rattle.it_answer.specs.Truth.{IsTrueBy, NeverYesAndNo}

-- ---- a certified form is at least 0

-- demands as what certificates are built from
abbrev generators_by : List Demand → Generators
generators_by ds = record {
  count = length ds;
  form = λ i p. (demand_at ds i).form p;
  is_equation = λ i. is_equation (demand_at ds i).kind;
}

module _ (q : BodyView) (m : ℕ → ℤ) (together : AreTrueTogether q m) where
  abbrev ds : List Demand
  ds = all_demands (variable_count q) (question_demands q)

  -- what the lines demand is met
  lines_satisfied : All (IsSatisfied m) (question_demands q)
  lines_satisfied =
      let n : ℕ = variable_count q in
      let own = problem_lines q in
      All-append (IsSatisfied m) (flat_map (demands n) own.givens) (map (demand_of n) own.rows)
      ((givens_satisfied n own.givens m).1 together.1.givens) ((rows_satisfied n own.rows m).1 together.1.rows)

  all_satisfied : Every (IsSatisfied m) (all_demands (variable_count q) (question_demands q))
  unfolding all_demands
  all_satisfied =
      let n : ℕ = variable_count q in
      every-append (IsSatisfied m) (map (demand_of_elemental n) (elementals n)) (question_demands q)
      (every-map (IsSatisfied m) (demand_of_elemental n) (elementals n) (every_of (λ e. pos 0 ≤ℤ elemental_value n m e) (elementals n)
      ((elementals_generate n m together.0.empty).1 together.0)))
      (every_of (IsSatisfied m) (question_demands q) lines_satisfied)

  satisfied_at : (i : ℕ) → IsSatisfied m (demand_at ds i)
  satisfied_at i = every_or (IsSatisfied m) ds i (record { kind = Inequality; form = λ p. pos 0 }) all_satisfied (omega (arith, ints))

  pub form_at_least_zero : (f : Form) (w : CertificateView) → CertifiesForm q f w → pos 0 ≤ℤ f m
  form_at_least_zero f w c = least_by_multiple w.scale (f m) (omega (arith, ints, c.scale_from_one))
      (subst (λ (x : ℤ). pos 0 ≤ℤ x) (sym (c.adds_up m together.0.empty))
      (weighted_least (generators_by ds) (λ i. (demand_at ds i).form m) (λ i l. at_least (demand_at ds i).kind ((demand_at ds i).form m) (satisfied_at i))
      (λ i l e. is_zero (demand_at ds i).kind ((demand_at ds i).form m) (satisfied_at i) e) w.weights
      (All-weaker (IsAllowedWeight ds) (IsAllowed (generators_by ds)) (λ x a.
      (a.0, λ e. a.1 (inequality_unless_equation (demand_at ds x.0).kind e))) w.weights c.allowed)))

  all_valid : (fs : List Form) (ws : List CertificateView) → CertifyAll q fs ws → All (λ f. pos 0 ≤ℤ f m) fs
  all_valid [] [] c = All-nil (λ (f : Form). pos 0 ≤ℤ f m)
  all_valid [] (w ∷ ws) c = absurd c
  all_valid (f ∷ fs) [] c = absurd c
  all_valid (f ∷ fs) (w ∷ ws) c = All-cons (λ (f : Form). pos 0 ≤ℤ f m) f fs (form_at_least_zero f w c.0) (all_valid fs ws c.1)

-- ---- what each answer means

module _ (q : BodyView) (r : RelationView) where
  abbrev sides_at : (ℕ → ℤ) → ℤ × ℤ
  sides_at p = (side_at (variable_count q) p (common_denominator r) r.left, side_at (variable_count q) p (common_denominator r) r.right)

  yes_is_true : (ws : List CertificateView) → CertifyAll q (targets (variable_count q) r) ws → (p : ℕ → ℤ) → AreTrueTogether q p → Holds (variable_count q) p r
  yes_is_true ws c p together =
      (targets_met r.sign (sides_at p).0 (sides_at p).1 (form_of (variable_count q) r) p refl).0 (all_valid q p together (targets (variable_count q) r) ws c)

  not_at_least_zero : (x : ℤ) → x ≤ℤ neg_ℤ (pos 1) → pos 0 ≤ℤ x → ⊥
  not_at_least_zero x h k = omega (arith, ints)

  -- the values are a polymatroid and rates at which the lines are true and some target is below 0
  violates : (fs : List Form) (is_back : Bool) (values : List ℤ) → Refutes q fs is_back values
      → AreTrueTogether q (point_of values) × (All (λ (f : Form). pos 0 ≤ℤ f (point_of values)) fs → ⊥)
  violates [] is_back values c = absurd c
  violates (f ∷ fs) false values c = (
    (c.polymatroid, c.lines_hold),
    λ all. not_at_least_zero (f (point_of values)) c.violated
        (All-head (λ (f : Form). pos 0 ≤ℤ f (point_of values)) f fs all),
  )
  violates (f ∷ []) true values c = absurd c
  violates (f ∷ g ∷ fs) true values c = (
    (c.1.polymatroid, c.1.lines_hold),
    λ all. not_at_least_zero (g (point_of values)) c.1.violated
        (All-head (λ (f : Form). pos 0 ≤ℤ f (point_of values)) g fs (All-tail (λ (f : Form). pos 0 ≤ℤ f (point_of values)) f
        (g ∷ fs) all)),
  )

  no_is_true : (is_back : Bool) (values : List ℤ) → Refutes q (targets (variable_count q) r) is_back values
      → AreTrueTogether q (point_of values) × ¬ (Holds (variable_count q) (point_of values) r)
  no_is_true is_back values c =
      let v = violates (targets (variable_count q) r) is_back values c in
      let p = point_of values in
      (v.0, λ holds. v.1 ((targets_met r.sign (sides_at p).0 (sides_at p).1 (form_of (variable_count q) r) p refl).1 holds))

-- ---- by the table of verbs and answers

true_by : (q : BodyView) (verb : VerbView) (answer : AnswerView) → ShowsBy q verb answer → IsTrueBy q verb answer
true_by q (Prove r) (Yes ws) s = yes_is_true q r ws s
true_by q (Prove r) (No is_back values) s = no_is_true q r is_back values s
true_by q (Prove r) (Undecided cause) s = tt
true_by q (Prove r) (Region rows) s = absurd s
true_by q (Prove r) (Contained parts ws) s = absurd s
true_by q (Prove r) (Open tried) s = absurd s
true_by q (Eliminate rates) (Yes ws) s = absurd s
true_by q (Eliminate rates) (No is_back values) s = absurd s
true_by q (Eliminate rates) (Undecided cause) s = tt
true_by q (Eliminate rates) (Region rows) s = s
true_by q (Eliminate rates) (Contained parts ws) s = absurd s
true_by q (Eliminate rates) (Open tried) s = absurd s
true_by q (Contain a b tries) (Yes ws) s = absurd s
true_by q (Contain a b tries) (No is_back values) s = absurd s
true_by q (Contain a b tries) (Undecided cause) s = absurd s
true_by q (Contain a b tries) (Region rows) s = absurd s
true_by q (Contain a b tries) (Contained parts ws) s = s.lies
true_by q (Contain a b tries) (Open tried) s = tt

pub what_is_shown_is_true : WhatIsShownIsTrue
what_is_shown_is_true q answer s = true_by q q.verb answer s

never_both : (q : BodyView) (verb : VerbView) (ws : List CertificateView) (is_back : Bool) (values : List ℤ) → IsTrueBy q verb (Yes ws)
    → IsTrueBy q verb (No is_back values) → ⊥
never_both q (Prove r) ws is_back values holds fails = fails.1 (holds (point_of values) fails.0)
never_both q (Eliminate rates) ws is_back values holds fails = holds
never_both q (Contain a b tries) ws is_back values holds fails = holds

pub never_yes_and_no : NeverYesAndNo
never_yes_and_no q ws is_back values holds fails = never_both q q.verb ws is_back values holds fails
