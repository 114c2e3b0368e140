-- What is kept of obligations.
use Rattle.std.proofs.Common.{◌≡◌, ℕ, ℤ, List, [], ◌∷◌, Bool, true, false, ◌&&◌, cond, if◌then◌else◌, nat_eq, Option, Some, None, Vec, Global, All, refl, sym, ap, ap₂, subst, ◌∙◌}
use Rattle.std.specs.Option.{option_map}
use Rattle.std.specs.Ordering.{int_eq}
use Rattle.std.specs.Cmp.Lexicographic.{pointwise}
use Rattle.std.proofs.lemmas.List.Elements.{All-nil, All-cons, All-head, All-tail}
use Rattle.std.proofs.lemmas.Bool.Decides.{Decides-eqb, Decides-int_eq}
use Rattle.std.specs.Map.{lookup}
use Rattle.indexmap.specs.IndexMap.{insert_entry}
use Rattle.it_space.specs.declared.answers.Certificate.{Certificate}
use Rattle.it_space.specs.Answers.{CertificateView, certificate_view}
use Rattle.it_problems.specs.Problems.{ProblemView}
use Rattle.it_space.specs.Rows.{Terms}
use Rattle.it_space.proofs.BoolLemmas.{both_true}
use Rattle.it_space.proofs.OptionLemmas.{some_same}
use Rattle.it_prove.specs.ClosedProblems.{IsClosedProblem}
use Rattle.it_prove.specs.ProofViews.{Yes, EndsWith}
use Rattle.it_prove.specs.declared.types.Effort.{Effort}
use Rattle.it_contain.specs.declared.outcomes.Outcomes.{Outcomes}
use Rattle.it_contain.specs.SearchSteps.{ProvesOne, AreOutcomes}

-- an outcome says the same once it is copied
pub same_outcome : (q : ProblemView) (effort : Effort) (t : Terms) (o p : Option Certificate)
    → option_map certificate_view o ≡ option_map certificate_view p → ProvesOne q effort t p → ProvesOne q effort t o
same_outcome q effort t None None e h = h
same_outcome q effort t None (Some c) e h = absurd (cc)
same_outcome q effort t (Some c) None e h = absurd (cc)
same_outcome q effort t (Some c) (Some d) e h = subst (λ (w : CertificateView). EndsWith q t effort (Yes w)) (sym (same_certificate e)) h
  where
    same_certificate : Some (certificate_view c) ≡ Some (certificate_view d) → certificate_view c ≡ certificate_view d
    same_certificate e = cc

-- ---- equal rows

-- how the terms of rows are compared
abbrev pub ComparesTerms : (ℕ × ℤ → ℕ × ℤ → Bool) → Type 0
ComparesTerms eq = (s t : ℕ × ℤ) → eq s t ≡ (nat_eq s.0 t.0 && int_eq s.1 t.1)

same_term : (s t : ℕ × ℤ) → (nat_eq s.0 t.0 && int_eq s.1 t.1) ≡ true → s ≡ t
same_term s t e =
    let h = both_true (nat_eq s.0 t.0) (int_eq s.1 t.1) e in
    ap₂ (λ c x. (c, x)) ((Decides-eqb s.0 t.0).0 h.0) ((Decides-int_eq s.1 t.1).0 h.1)

same_terms : (eq : ℕ × ℤ → ℕ × ℤ → Bool) → ComparesTerms eq → (xs ys : Terms) → pointwise eq xs ys ≡ true → xs ≡ ys
same_terms eq is [] [] e = refl
same_terms eq is [] (y ∷ ys) e = absurd (cc)
same_terms eq is (x ∷ xs) [] e = absurd (cc)
same_terms eq is (x ∷ xs) (y ∷ ys) e =
    let h = both_true (eq x y) (pointwise eq xs ys) e in
    ap₂ (λ t ts. t ∷ ts) (same_term x y (sym (is x y) ∙ h.0)) (same_terms eq is xs ys h.1)

-- ---- what is kept

abbrev pub Row : Type 0
Row = Vec (ℕ × ℤ) Global

abbrev pub Entry : Type 0
Entry = Row × Option Certificate

module _ (q : ProblemView) (effort : Effort) where
  abbrev pub IsKept : Entry → Type 0
  IsKept e = ProvesOne q effort e.0.items e.1

  pub lookup_proves : (test : Row → Bool) (t : Terms) → ((v : Row) → test v ≡ true → t ≡ v.items)
      → (es : List Entry) (o : Option Certificate) → All IsKept es → lookup test es ≡ Some o → ProvesOne q effort t o
  lookup_proves test t same [] o a e = absurd (cc)
  lookup_proves test t same (x ∷ es) o a e = by_test (λ rest. lookup_proves test t same es o (All-tail IsKept x es a) rest) (test x.0) refl
    where
      by_test : (lookup test es ≡ Some o → ProvesOne q effort t o) → (b : Bool) → test x.0 ≡ b → ProvesOne q effort t o
      by_test later true is = subst (λ (p : Option Certificate). ProvesOne q effort t p)
          (some_same x.1 o (sym (ap (λ b. cond b (Some x.1) (lookup test es)) is) ∙ e))
          (subst (λ (u : Terms). ProvesOne q effort u x.1) (sym (same x.0 is)) (All-head IsKept x es a))
      by_test later false is = later (sym (ap (λ b. cond b (Some x.1) (lookup test es)) is) ∙ e)

  pub entries_stay_kept : (eq : Row → Row → Bool) (v : Row) → ((w : Row) → eq v w ≡ true → v.items ≡ w.items)
      → (o : Option Certificate) (es : List Entry) → All IsKept es → ProvesOne q effort v.items o → All IsKept (insert_entry eq es v o)
  entries_stay_kept eq v same o [] a h = All-cons IsKept (v, o) [] h (All-nil IsKept)
  entries_stay_kept eq v same o (x ∷ es) a h = by_test (entries_stay_kept eq v same o es (All-tail IsKept x es a) h) (eq v x.0) refl
    where
      by_test : All IsKept (insert_entry eq es v o) → (b : Bool) → eq v x.0 ≡ b → All IsKept (if eq v x.0 then (x.0, o) ∷ es else x ∷ insert_entry eq es v o)
      by_test later true is = subst (λ (b : Bool). All IsKept (if b then (x.0, o) ∷ es else x ∷ insert_entry eq es v o)) (sym is)
          (All-cons IsKept (x.0, o) es (subst (λ (u : Terms). ProvesOne q effort u o) (same x.0 is) h) (All-tail IsKept x es a))
      by_test later false is = subst (λ (b : Bool). All IsKept (if b then (x.0, o) ∷ es else x ∷ insert_entry eq es v o)) (sym is)
          (All-cons IsKept x (insert_entry eq es v o) (All-head IsKept x es a) later)

-- ---- of all outcomes

pub empty_outcomes : (q : ProblemView) (effort : Effort) (m : Outcomes) → m.by_row.entries ≡ [] → IsClosedProblem q m.closed → AreOutcomes q effort m
unfolding AreOutcomes
empty_outcomes q effort m e h = (subst (λ (es : List Entry). All (λ x. ProvesOne q effort x.0.items x.1) es) (sym e) (All-nil _), h)

pub one_outcome_more : (q : ProblemView) (effort : Effort) (eq : ℕ × ℤ → ℕ × ℤ → Bool) → ComparesTerms eq → (m n : Outcomes) (v : Row) (o : Option Certificate)
    → n.by_row.entries ≡ insert_entry (λ x y. pointwise eq x.items y.items) m.by_row.entries v o → n.closed ≡ m.closed
    → AreOutcomes q effort m → ProvesOne q effort v.items o → AreOutcomes q effort n
unfolding AreOutcomes
one_outcome_more q effort eq is m n v o e f r h = (
  subst (λ (es : List Entry). All (λ x. ProvesOne q effort x.0.items x.1) es) (sym e)
      (entries_stay_kept q effort (λ x y. pointwise eq x.items y.items) v
      (λ w t. same_terms eq is v.items w.items t) o m.by_row.entries r.0 h),
  subst (IsClosedProblem q) (sym f) r.1,
)

pub outcome_of_row : (q : ProblemView) (effort : Effort) (eq : ℕ × ℤ → ℕ × ℤ → Bool) → ComparesTerms eq → (m : Outcomes) (t : Terms) (o : Option Certificate)
    → Some o ≡ lookup (λ v. pointwise eq t v.items) m.by_row.entries → AreOutcomes q effort m → ProvesOne q effort t o
unfolding AreOutcomes
outcome_of_row q effort eq is m t o e r = lookup_proves q effort (λ v. pointwise eq t v.items) t
    (λ v h. same_terms eq is t v.items h) m.by_row.entries o r.0 (sym e)

-- what is made of the problem is of it
pub closed_of_outcomes : (q : ProblemView) (effort : Effort) (m : Outcomes) → AreOutcomes q effort m → IsClosedProblem q m.closed
unfolding AreOutcomes
closed_of_outcomes q effort m r = r.1

-- the outcomes stay where something else is made of the problem
pub outcomes_stay : (q : ProblemView) (effort : Effort) (m n : Outcomes) → n.by_row ≡ m.by_row → IsClosedProblem q n.closed
    → AreOutcomes q effort m → AreOutcomes q effort n
unfolding AreOutcomes
outcomes_stay q effort m n e h r = (subst (λ x. All (λ y. ProvesOne q effort y.0.items y.1) x.entries) (sym e) r.0, h)
