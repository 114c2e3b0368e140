-- The answer of the phases is right, and there is one; without a budget steps never run out; and the third phase never ends by a point.
use Rattle.std.proofs.Common.{◌≡◌, ◌≢◌, inl, inr, ℕ, ◌+◌, ℤ, pos, neg_ℤ, ◌≤ℤ◌, List, [], ◌∷◌, length, Option, None, refl, sym, ap, subst, ◌∙◌, arith, slice_index_or, map}
use Rattle.std.specs.List.{AllByRecursion as Every}
use Rattle.std.proofs.lemmas.Int.{ints}
use Rattle.it_number.proofs.Ring.{ring, v}
use Rattle.it_number.proofs.Ring as S
use Rattle.it_rational.specs.Rational.{Rational, integer, times}
use Rattle.it_rational.proofs.RationalLaws.{ring_ℚ}
use Rattle.it_rational.proofs.Field.{field_ℚ}
use Rattle.it_problems.specs.Problems.{ProblemView, IsProblem, AreMet}
use Rattle.it_space.specs.Rows.{Terms, IsOver, coefficient, point_of, value, negated_terms}
use Rattle.it_space.specs.Spaces.{size_of}
use Rattle.it_space.proofs.TermLemmas.{coefficient-negated_terms, value-negated_terms, value-one_at}
use Rattle.it_polymatroid.specs.Certificates.{IsCertificate}
use Rattle.it_polymatroid.specs.Elementals.{span}
use Rattle.it_polymatroid.specs.Polymatroid.{IsPolymatroid}
use Rattle.it_tableau.specs.Problems.{feasibility_problem}
use Rattle.it_run.specs.Runs.RunEndView.{Weights, Point, Pivots, Width}
use Rattle.it_run.specs.Solving.{StepFits}
use Rattle.it_run.proofs.BudgetLemmas.{right_by}
use Rattle.it_run.proofs.RunLemmas.{EndIsRight}
use Rattle.it_simplex.proofs.AnswerLemmas.{ends_within_budget, ends_once}
use Rattle.it_elemental.specs.Generators.{Generator, generators, generators_of}
use Rattle.it_elemental.proofs.GeneratorLemmas.{rows_of_space}
use Rattle.it_check.proofs.NoMeaning.{listed_met}
use Rattle.it_columns.specs.Columns.{columns, numbers_from}
use Rattle.it_columns.specs.Scaling.{scaled_point}
use Rattle.it_ratio.specs.declared.types.BestCause.TheVariants as causes
use Rattle.it_ratio.specs.declared.types.BestCause.TheVariants.{Scale, Size}
use Rattle.it_best.specs.Numbers.{numbers, weights_certificate, column_weight}
use Rattle.it_best.specs.Phases.{third_phase, third_target, right_equation}
use Rattle.it_ratio.specs.BestViews.{BestView, Undecided, Never, Least, Unbounded}
use Rattle.it_best.specs.Ends.{PhaseEnds, EndsWith, FirstFollows, SecondFollows, ThirdFollows, OrScale, LeastFits, UnboundedFits, NeverFits, least_view, unbounded_view, first, third}
use Rattle.it_best.specs.Factors.{IsRightBest, ground_of}
use Rattle.it_best.specs.PhaseSteps.{End}
use Rattle.it_best.specs.Theorems.{BestIsRight, OneBest, BestNeverOutOfSteps}
use Rattle.it_best.proofs.NumberLemmas.{numbers_sum_up, numbers_signed, length-numbers_from}
use Rattle.it_best.proofs.FactorLemmas.{multiple_sum}
use Rattle.it_best.proofs.CertificateLemmas.{certifies_form, factor_holds}
use Rattle.it_best.proofs.PhaseLemmas as phases
use Rattle.it_best.proofs.AnswerLemmas.{third_right, never_right}
use Rattle.it_best.proofs.RowLemmas.{negated_up, third_up, third_target_up}
use Rattle.it_best.proofs.ThirdPoint.{no_third_point}
use Rattle.it_best.proofs.WholePoints.{unknowns_met, target_below}

-- ---- the ends of a phase are right

abbrev IsRightEnd : ℕ → List Generator → Terms → End → Type 0
IsRightEnd m us target e = EndIsRight field_ℚ (length (span 1 m)) (length (columns us)) (feasibility_problem (span 1 m) (columns us) target) e

pub right_end : (m : ℕ) (us : List Generator) (target : Terms) (budget : Option ℕ) (e : End) → PhaseEnds m us target budget e → IsRightEnd m us target e
right_end m us target budget e (inl a) = subst (IsRightEnd m us target) (sym a.1) tt
right_end m us target budget e (inr a) = right_by field_ℚ (length (span 1 m)) (length (columns us))
    (StepFits (length (span 1 m)) (length (columns us))) (feasibility_problem (span 1 m) (columns us) target) budget e a.1

module _ (q : ProblemView) (left right : Terms) (k : IsProblem q) (l : IsOver (size_of q.space) left) (r : IsOver (size_of q.space) right) where
  abbrev size : ℕ
  size = size_of q.space

  abbrev gs : List Generator
  gs = generators q

  rows : Every (λ g. IsOver size g.row) gs
  rows = rows_of_space q.space.variables size q.constraints (omega arith) k.rows

  -- ---- the second phase

  -- its weights certify that the left side is at most 0
  pub second_certifies : (ws : List (ℕ × Rational)) → IsRightEnd size gs (negated_terms left) (Weights ws)
      → IsCertificate (size + 1) (generators_of q) (λ p. neg_ℤ (value left p)) (weights_certificate (pos 1) (numbers gs ws))
  second_certifies ws s = certifies_form size gs (λ p. neg_ℤ (value left p)) 1 (numbers gs ws) (length-numbers_from gs 0 (column_weight ws))
      (numbers_signed gs (length (columns gs)) ws s.ordered)
      (λ c h m. multiple_sum c (pos 1) (numbers gs ws) gs ∙ ap (times (integer (pos 1))) (numbers_sum_up size gs (negated_terms left) ws s c h m)
      ∙ ring ring_ℚ (integer (coefficient (negated_terms left) c) ∷ []) (S.times S.one (v 0)) (v 0) refl
      ∙ ap integer (coefficient-negated_terms c left ∙ ap neg_ℤ (sym (value-one_at left c))))

  -- its point, made whole, meets the problem with a left side above 0
  second_meets : (qs : List Rational) → IsRightEnd size gs (negated_terms left) (Point qs)
      → (IsPolymatroid q.space.variables (point_of (scaled_point qs)) × AreMet (point_of (scaled_point qs)) q.constraints)
      × (pos 1 ≤ℤ value left (point_of (scaled_point qs)))
  second_meets qs s = (
    listed_met q.space.variables q.constraints (point_of (scaled_point qs)) refl (unknowns_met size gs (negated_terms left) qs rows (negated_up size left l) s),
    above_zero (value left (point_of (scaled_point qs))) (value (negated_terms left) (point_of (scaled_point qs)))
        (value-negated_terms left (point_of (scaled_point qs))) (target_below size gs (negated_terms left) qs rows
        (negated_up size left l) s),
  )
    where
      above_zero : (x y : ℤ) → y ≡ neg_ℤ x → y ≤ℤ neg_ℤ (pos 1) → pos 1 ≤ℤ x
      above_zero x y e h = omega (arith, ints, e, h)

  -- ---- the third phase

  pub no_third_end : (ws : List (ℕ × Rational)) (qs ps : List Rational) → IsRightEnd size (first q left right) right (Weights ws)
      → IsRightEnd size gs (negated_terms left) (Point qs)
      → IsRightEnd (right_equation size gs) (third q left right) (third_target size gs right) (Point ps) → ⊥
  no_third_end ws qs ps a b c =
      let one = phases.first_right q left right ws a in
      let two = second_meets qs b in
      let up : Every (λ u. IsOver (right_equation size gs) u.row) (third q left right) = third_up q.space.variables size gs left right rows l in
      let t_up : IsOver (right_equation size gs) (third_target size gs right) = third_target_up size gs right r in
      no_third_point q left right k l r (point_of (scaled_point ps)) refl
      (unknowns_met (right_equation size gs) (third q left right) (third_target size gs right) ps up t_up c)
      (target_below (right_equation size gs) (third q left right) (third_target size gs right) ps up t_up c)
      (slice_index_or (numbers (first q left right) ws) 0 (integer (pos 0))).num
      (pos (slice_index_or (numbers (first q left right) ws) 0 (integer (pos 0))).den) one.from_one
      (factor_holds q left right _ _ _ k l r one)
      (point_of (scaled_point qs)) refl two.0.0 two.0.1 two.1

  -- ---- the answers are right

  abbrev Right : BestView → Type 0
  Right o = IsRightBest (ground_of q) (value left) (value right) o

  or_scale_right : (Fits : Type 0) (answer o : BestView) → Right answer → OrScale q left right Fits answer o → Right o
  or_scale_right Fits answer o h (inl a) = subst Right (sym a.1) h
  or_scale_right Fits answer o h (inr a) = subst Right (sym a.1) tt

  third_is_right : (e : End) (o : BestView) → IsRightEnd (right_equation size gs) (third q left right) (third_target size gs right) e
      → ThirdFollows q left right e o → Right o
  unfolding numbers_from third_phase
  third_is_right (Weights ws) o s f = or_scale_right (LeastFits q left right ws) (least_view q left right ws) o right_view f
    where
      right_view : Right (least_view q left right ws)
      right_view = third_right q left right k l r ws s
  third_is_right (Point ps) o s f = absurd f
  third_is_right (Pivots j) o s f = subst Right (sym f) tt
  third_is_right (Width j) o s f = subst Right (sym f) tt

  second_is_right : (budget : Option ℕ) (ws : List (ℕ × Rational)) (e : End) (o : BestView)
      → IsRightEnd size (first q left right) right (Weights ws) → IsRightEnd size gs (negated_terms left) e
      → SecondFollows q left right budget ws e o → Right o
  second_is_right budget ws (Weights below) o a s f = or_scale_right (UnboundedFits q left right ws below) (unbounded_view q left right ws below) o
      (phases.first_right q left right ws a, second_certifies below s) f
  second_is_right budget ws (Point qs) o a s f = third_is_right f.0 o (right_end (right_equation size gs) (third q left right)
      (third_target size gs right) budget f.0 f.1) f.2
  second_is_right budget ws (Pivots j) o a s f = subst Right (sym f) tt
  second_is_right budget ws (Width j) o a s f = subst Right (sym f) tt

  first_is_right : (budget : Option ℕ) (e : End) (o : BestView) → IsRightEnd size (first q left right) right e → FirstFollows q left right budget e o → Right o
  first_is_right budget (Weights ws) o s f = second_is_right budget ws f.0 o s (right_end size gs (negated_terms left) budget f.0 f.1) f.2
  first_is_right budget (Point qs) o s f = or_scale_right (NeverFits q left right qs) (Never (map neg_ℤ (scaled_point qs))) o
      (never_right q left right qs k l r s) f
  first_is_right budget (Pivots j) o s f = subst Right (sym f) tt
  first_is_right budget (Width j) o s f = subst Right (sym f) tt

  ends_right : (budget : Option ℕ) (o : BestView) → EndsWith q left right budget o → Right o
  ends_right budget o (inl a) = subst Right (sym a.1) tt
  ends_right budget o (inr a) = first_is_right budget a.1.0 o (right_end size (first q left right) right budget a.1.0 a.1.1) a.1.2

pub best_is_right : BestIsRight
best_is_right q left right budget o k l r e = ends_right q left right k l r budget o e

-- ---- one answer

module _ (q : ProblemView) (left right : Terms) where
  or_scale_once : (Fits : Type 0) (answer o p : BestView) → OrScale q left right Fits answer o → OrScale q left right Fits answer p → o ≡ p
  or_scale_once Fits answer o p (inl a) (inl b) = a.1 ∙ sym b.1
  or_scale_once Fits answer o p (inl a) (inr b) = absurd (b.0 a.0)
  or_scale_once Fits answer o p (inr a) (inl b) = absurd (a.0 b.0)
  or_scale_once Fits answer o p (inr a) (inr b) = a.1 ∙ sym b.1

  phase_once : (m : ℕ) (us : List Generator) (target : Terms) (budget : Option ℕ) (d e : End) → PhaseEnds m us target budget d
      → PhaseEnds m us target budget e → d ≡ e
  phase_once m us target budget d e a b = ends_once (span 1 m) (columns us) target budget d e a b

  third_once : (e : End) (o p : BestView) → ThirdFollows q left right e o → ThirdFollows q left right e p → o ≡ p
  third_once (Weights ws) o p a b = or_scale_once (LeastFits q left right ws) (least_view q left right ws) o p a b
  third_once (Point ps) o p a b = absurd a
  third_once (Pivots j) o p a b = a ∙ sym b
  third_once (Width j) o p a b = a ∙ sym b

  second_once : (budget : Option ℕ) (ws : List (ℕ × Rational)) (e : End) (o p : BestView) → SecondFollows q left right budget ws e o
      → SecondFollows q left right budget ws e p → o ≡ p
  second_once budget ws (Weights below) o p a b = or_scale_once (UnboundedFits q left right ws below) (unbounded_view q left right ws below) o p a b
  second_once budget ws (Point qs) o p a b = third_once b.0 o p
      (subst (λ (e : End). ThirdFollows q left right e o) (phase_once (right_equation (size_of q.space) (generators q)) (third q left right)
      (third_target (size_of q.space) (generators q) right) budget a.0 b.0 a.1 b.1) a.2) b.2
  second_once budget ws (Pivots j) o p a b = a ∙ sym b
  second_once budget ws (Width j) o p a b = a ∙ sym b

  first_once : (budget : Option ℕ) (e : End) (o p : BestView) → FirstFollows q left right budget e o → FirstFollows q left right budget e p → o ≡ p
  first_once budget (Weights ws) o p a b = second_once budget ws b.0 o p
      (subst (λ (e : End). SecondFollows q left right budget ws e o) (phase_once (size_of q.space) (generators q)
      (negated_terms left) budget a.0 b.0 a.1 b.1) a.2) b.2
  first_once budget (Point qs) o p a b = or_scale_once (NeverFits q left right qs) (Never (map neg_ℤ (scaled_point qs))) o p a b
  first_once budget (Pivots j) o p a b = a ∙ sym b
  first_once budget (Width j) o p a b = a ∙ sym b

pub one_best : OneBest
one_best q left right budget o p (inl a) (inl b) = a.1 ∙ sym b.1
one_best q left right budget o p (inl a) (inr b) = absurd (b.0 a.0)
one_best q left right budget o p (inr a) (inl b) = absurd (a.0 b.0)
one_best q left right budget o p (inr a) (inr b) = first_once q left right budget b.1.0 o p
    (subst (λ (e : End). FirstFollows q left right budget e o) (phase_once q left right (size_of q.space)
    (first q left right) right budget a.1.0 b.1.0 a.1.1 b.1.1) a.1.2) b.1.2

-- ---- without a budget

abbrev IsNotForSteps : BestView → Type 0
IsNotForSteps (Least num den proof values) = Unit {0}
IsNotForSteps (Never values) = Unit {0}
IsNotForSteps (Unbounded num den proof below) = Unit {0}
IsNotForSteps (Undecided (causes.Pivots j phase)) = ⊥
IsNotForSteps (Undecided (causes.Width j phase)) = Unit {0}
IsNotForSteps (Undecided Scale) = Unit {0}
IsNotForSteps (Undecided Size) = Unit {0}

module _ (q : ProblemView) (left right : Terms) where
  phase_within : (m : ℕ) (us : List Generator) (target : Terms) (e : End) → PhaseEnds m us target None e → (k : ℕ) → e ≢ Pivots k
  phase_within m us target e a = ends_within_budget (span 1 m) (columns us) target e a

  or_scale_steps : (Fits : Type 0) (answer o : BestView) → IsNotForSteps answer → OrScale q left right Fits answer o → IsNotForSteps o
  or_scale_steps Fits answer o h (inl a) = subst IsNotForSteps (sym a.1) h
  or_scale_steps Fits answer o h (inr a) = subst IsNotForSteps (sym a.1) tt

  third_steps : (e : End) (o : BestView) → ((k : ℕ) → e ≢ Pivots k) → ThirdFollows q left right e o → IsNotForSteps o
  third_steps (Weights ws) o w f = or_scale_steps (LeastFits q left right ws) (least_view q left right ws) o tt f
  third_steps (Point ps) o w f = absurd f
  third_steps (Pivots j) o w f = absurd (w j refl)
  third_steps (Width j) o w f = subst IsNotForSteps (sym f) tt

  second_steps : (ws : List (ℕ × Rational)) (e : End) (o : BestView) → ((k : ℕ) → e ≢ Pivots k) → SecondFollows q left right None ws e o → IsNotForSteps o
  second_steps ws (Weights below) o w f = or_scale_steps (UnboundedFits q left right ws below) (unbounded_view q left right ws below) o tt f
  second_steps ws (Point qs) o w f = third_steps f.0 o (phase_within (right_equation (size_of q.space) (generators q)) (third q left right)
      (third_target (size_of q.space) (generators q) right) f.0 f.1) f.2
  second_steps ws (Pivots j) o w f = absurd (w j refl)
  second_steps ws (Width j) o w f = subst IsNotForSteps (sym f) tt

  first_steps : (e : End) (o : BestView) → ((k : ℕ) → e ≢ Pivots k) → FirstFollows q left right None e o → IsNotForSteps o
  first_steps (Weights ws) o w f = second_steps ws f.0 o (phase_within (size_of q.space) (generators q) (negated_terms left) f.0 f.1) f.2
  first_steps (Point qs) o w f = or_scale_steps (NeverFits q left right qs) (Never (map neg_ℤ (scaled_point qs))) o tt f
  first_steps (Pivots j) o w f = absurd (w j refl)
  first_steps (Width j) o w f = subst IsNotForSteps (sym f) tt

  not_for_steps : (o : BestView) → EndsWith q left right None o → IsNotForSteps o
  not_for_steps o (inl a) = subst IsNotForSteps (sym a.1) tt
  not_for_steps o (inr a) = first_steps a.1.0 o (phase_within (size_of q.space) (first q left right) right a.1.0 a.1.1) a.1.2

pub best_never_out_of_steps : BestNeverOutOfSteps
best_never_out_of_steps q left right j phase e = not_for_steps q left right (Undecided (causes.Pivots j phase)) e
