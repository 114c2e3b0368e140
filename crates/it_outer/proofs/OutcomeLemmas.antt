-- The certificates that are kept of proved rows.
use Rattle.std.proofs.Common.{◌≡◌, ℕ, ℤ, List, [], ◌∷◌, Bool, true, false, ◌&&◌, cond, if◌then◌else◌, nat_eq, Some, Vec, Global, All, refl, sym, ap, ap₂, subst, ◌∙◌}
use Rattle.std.specs.Ordering.{int_eq}
use Rattle.std.specs.Cmp.Lexicographic.{pointwise}
use Rattle.std.proofs.lemmas.List.Elements.{All-nil, All-cons, All-head, All-tail}
use Rattle.std.proofs.lemmas.Bool.Decides.{Decides-eqb, Decides-int_eq}
use Rattle.std.specs.Map.{lookup}
use Rattle.indexmap.specs.IndexMap.{insert_entry}
use Rattle.it_space.specs.declared.answers.Certificate.{Certificate}
use Rattle.it_space.specs.Answers.{certificate_view}
use Rattle.it_problems.specs.Problems.{ProblemView}
use Rattle.it_space.specs.Rows.{Terms}
use Rattle.it_space.proofs.BoolLemmas.{both_true}
use Rattle.it_space.proofs.OptionLemmas.{some_same}
use Rattle.it_prove.specs.ClosedProblems.{IsClosedProblem}
use Rattle.it_prove.specs.ProofViews.{Yes, EndsWith}
use Rattle.it_prove.specs.declared.types.Effort.{Effort}
use Rattle.it_outer.specs.declared.outcomes.Outcomes.{Outcomes}
use Rattle.it_outer.specs.Rounds.{AreOutcomes}

-- how the terms of rows are compared
abbrev pub ComparesTerms : (ℕ × ℤ → ℕ × ℤ → Bool) → Type 0
ComparesTerms eq = (s t : ℕ × ℤ) → eq s t ≡ (nat_eq s.0 t.0 && int_eq s.1 t.1)

same_term : (s t : ℕ × ℤ) → (nat_eq s.0 t.0 && int_eq s.1 t.1) ≡ true → s ≡ t
same_term s t e =
    let h = both_true (nat_eq s.0 t.0) (int_eq s.1 t.1) e in
    ap₂ (λ c x. (c, x)) ((Decides-eqb s.0 t.0).0 h.0) ((Decides-int_eq s.1 t.1).0 h.1)

same_terms : (eq : ℕ × ℤ → ℕ × ℤ → Bool) → ComparesTerms eq → (xs ys : Terms) → pointwise eq xs ys ≡ true → xs ≡ ys
same_terms eq is [] [] e = refl
same_terms eq is [] (y ∷ ys) e = absurd (cc)
same_terms eq is (x ∷ xs) [] e = absurd (cc)
same_terms eq is (x ∷ xs) (y ∷ ys) e =
    let h = both_true (eq x y) (pointwise eq xs ys) e in
    ap₂ (λ t ts. t ∷ ts) (same_term x y (sym (is x y) ∙ h.0)) (same_terms eq is xs ys h.1)

abbrev Row : Type 0
Row = Vec (ℕ × ℤ) Global

abbrev Entry : Type 0
Entry = Row × Certificate

module _ (q : ProblemView) (effort : Effort) where
  abbrev IsKept : Entry → Type 0
  IsKept e = EndsWith q e.0.items effort (Yes (certificate_view e.1))

  found_ends : (test : Row → Bool) (t : Terms) → ((v : Row) → test v ≡ true → t ≡ v.items) → (es : List Entry) (c : Certificate)
      → All IsKept es → lookup test es ≡ Some c → EndsWith q t effort (Yes (certificate_view c))
  found_ends test t same [] c a e = absurd (cc)
  found_ends test t same (x ∷ es) c a e = by_test (λ rest. found_ends test t same es c (All-tail IsKept x es a) rest) (test x.0) refl
    where
      by_test : (lookup test es ≡ Some c → EndsWith q t effort (Yes (certificate_view c))) → (b : Bool) → test x.0 ≡ b
          → EndsWith q t effort (Yes (certificate_view c))
      by_test later true is = subst (λ (d : Certificate). EndsWith q t effort (Yes (certificate_view d)))
          (some_same x.1 c (sym (ap (λ b. cond b (Some x.1) (lookup test es)) is) ∙ e))
          (subst (λ (u : Terms). EndsWith q u effort (Yes (certificate_view x.1))) (sym (same x.0 is)) (All-head IsKept x es a))
      by_test later false is = later (sym (ap (λ b. cond b (Some x.1) (lookup test es)) is) ∙ e)

  stay_kept : (eq : Row → Row → Bool) (v : Row) → ((w : Row) → eq v w ≡ true → v.items ≡ w.items) → (c : Certificate) (es : List Entry)
      → All IsKept es → EndsWith q v.items effort (Yes (certificate_view c)) → All IsKept (insert_entry eq es v c)
  stay_kept eq v same c [] a h = All-cons IsKept (v, c) [] h (All-nil IsKept)
  stay_kept eq v same c (x ∷ es) a h = by_test (stay_kept eq v same c es (All-tail IsKept x es a) h) (eq v x.0) refl
    where
      by_test : All IsKept (insert_entry eq es v c) → (b : Bool) → eq v x.0 ≡ b → All IsKept (if eq v x.0 then (x.0, c) ∷ es else x ∷ insert_entry eq es v c)
      by_test later true is = subst (λ (b : Bool). All IsKept (if b then (x.0, c) ∷ es else x ∷ insert_entry eq es v c)) (sym is)
          (All-cons IsKept (x.0, c) es (subst (λ (u : Terms). EndsWith q u effort (Yes (certificate_view c))) (same x.0 is) h) (All-tail IsKept x es a))
      by_test later false is = subst (λ (b : Bool). All IsKept (if b then (x.0, c) ∷ es else x ∷ insert_entry eq es v c)) (sym is)
          (All-cons IsKept x (insert_entry eq es v c) (All-head IsKept x es a) later)

pub no_outcomes : (q : ProblemView) (effort : Effort) (m : Outcomes) → m.by_row.entries ≡ [] → IsClosedProblem q m.closed → AreOutcomes q effort m
unfolding AreOutcomes
no_outcomes q effort m e h = (subst (λ (es : List Entry). All (λ x. EndsWith q x.0.items effort (Yes (certificate_view x.1))) es) (sym e) (All-nil _), h)

pub one_more : (q : ProblemView) (effort : Effort) (eq : ℕ × ℤ → ℕ × ℤ → Bool) → ComparesTerms eq → (m n : Outcomes) (v : Row) (c : Certificate)
    → n.by_row.entries ≡ insert_entry (λ x y. pointwise eq x.items y.items) m.by_row.entries v c → n.closed ≡ m.closed
    → AreOutcomes q effort m → EndsWith q v.items effort (Yes (certificate_view c)) → AreOutcomes q effort n
unfolding AreOutcomes
one_more q effort eq is m n v c e f r h = (
  subst (λ (es : List Entry). All (λ x. EndsWith q x.0.items effort (Yes (certificate_view x.1))) es) (sym e)
      (stay_kept q effort (λ x y. pointwise eq x.items y.items) v (λ w t. same_terms eq is v.items w.items t) c m.by_row.entries r.0 h),
  subst (IsClosedProblem q) (sym f) r.1,
)

pub kept_ends : (q : ProblemView) (effort : Effort) (eq : ℕ × ℤ → ℕ × ℤ → Bool) → ComparesTerms eq → (m : Outcomes) (t : Terms) (c : Certificate)
    → Some c ≡ lookup (λ v. pointwise eq t v.items) m.by_row.entries → AreOutcomes q effort m → EndsWith q t effort (Yes (certificate_view c))
unfolding AreOutcomes
kept_ends q effort eq is m t c e r = found_ends q effort (λ v. pointwise eq t v.items) t (λ v h. same_terms eq is t v.items h) m.by_row.entries c r.0 (sym e)

-- the closed problem is that of the problem
pub closed_of : (q : ProblemView) (effort : Effort) (m : Outcomes) → AreOutcomes q effort m → IsClosedProblem q m.closed
unfolding AreOutcomes
closed_of q effort m r = r.1

-- the certificates stay when the closed problem changes
pub outcomes_stay : (q : ProblemView) (effort : Effort) (m n : Outcomes) → n.by_row ≡ m.by_row → IsClosedProblem q n.closed
    → AreOutcomes q effort m → AreOutcomes q effort n
unfolding AreOutcomes
outcomes_stay q effort m n e h r = (subst (λ x. All (λ y. EndsWith q y.0.items effort (Yes (certificate_view y.1))) x.entries) (sym e) r.0, h)
