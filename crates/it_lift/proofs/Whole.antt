-- The lift as a whole.
use Rattle.std.proofs.Common.{◌≤ℤ◌, ◌≢◌, negsuc, ◌≡◌, ◌↔◌, ◌⊎◌, inl, inr, ℕ, zero, suc, ◌+◌, ◌^◌, ◌<◌, ◌≤◌, ℤ, pos, ◌+ℤ◌, ◌*ℤ◌, List, [], ◌∷◌, ◌++◌, length, Bool, true, false, cond, nat_eq, refl, sym, ap, subst, ◌∙◌, arith, All, ne_eqb}
use Rattle.it_space.specs.Rows.{single_term, Terms, Ascends, coefficient, value, IsOver}
use Rattle.it_space.specs.Sums.{number_at, terms_from}
use Rattle.it_polymatroid.specs.Certificates.{IsAllowed, IsLinear, combination}
use Rattle.std.proofs.lemmas.Int.{ints}
use Rattle.std.proofs.lemmas.Bool.{cases_lt, eqb-true, false≢true}
use Rattle.std.proofs.lemmas.Nat.{pow_pos}
use Rattle.it_problems.specs.Problems.{ProblemView, IsProblem}
use Rattle.it_space.specs.Answers.{CertificateView}
use Rattle.it_space.specs.Spaces.{size_of}
use Rattle.it_polymatroid.specs.Elementals.{elementals, elemental_at, elemental_value}
use Rattle.it_polymatroid.proofs.Forms.{value_linear}
use Rattle.std.specs.List.{AllByRecursion as Every}
use Rattle.it_number.proofs.SignLemmas.{sum_least}
use Rattle.it_space.proofs.EveryLemmas.{every_of, all_of, every-append, every-same}
use Rattle.it_closure.specs.declared.dependences.Dependence.{Dependence}
use Rattle.it_closure.specs.DependencesViews.{DependencesView, AreOfSpace}
use Rattle.it_closure.proofs.ClosingLoop.{of_space}
use Rattle.it_lift.specs.Fits.{WeightSumsFit, EmptyFits}
use Rattle.it_elemental.specs.Generators.{generators, generator_at, generators_of}
use Rattle.it_space.proofs.SumLemmas.{terms_from_zero}
use Rattle.it_polymatroid.proofs.Coefficients.{weighted_same}
use Rattle.it_lift.specs.Lifts.{excess, moves, lifted_weights, HaveDependences}
use Rattle.it_lift.specs.LiftedCertificates.{AreDependencesOf, WeightsAscend, IsCertificateOverClosed, IsLiftOf, FitsLift}
use Rattle.it_lift.specs.Sums.{AreWeightsAdded}
use Rattle.it_lift.proofs.AddsUp.{lift_adds_up}
use Rattle.it_lift.proofs.Directions.{Goes, goes_up, goes-total, moves_go, moves_placed, weight_sums_fit_as_end}
use Rattle.it_lift.proofs.GeneratorLemmas.{form_own, row_of_space, total_is}
use Rattle.it_lift.proofs.StartSteps.{weights_order, parts_within}
use Rattle.it_lift.proofs.SumSteps.{after-total}
use Rattle.it_space.proofs.CanonicalRows.{head_is, other_is}
use Rattle.it_space.proofs.TermLemmas.{coefficient-append}

sets_of : (q : ProblemView) → IsProblem q → 2 ^ q.space.variables ≤ size_of q.space + 1
sets_of q p = omega (arith, pow_pos q.space.variables)

pub form_linear : (q : ProblemView) (i : ℕ) → IsProblem q → IsLinear (size_of q.space + 1) ((generators_of q).form i)
form_linear q i p = value_linear (size_of q.space) (generator_at (generators q) i).row (row_of_space q i p (sets_of q p))

pub have_dependences : (q : ProblemView) (d : DependencesView) → AreDependencesOf q d → HaveDependences d.space.variables d.list (generators_of q)
have_dependences q d a = record {
  elemental = λ i l h z.
      let n : q.space.variables ≡ d.space.variables = ap (λ s. s.variables) (sym a.space) in
      let l' : i < length (elementals q.space.variables) = omega (arith, ap (λ m. length (elementals m)) n) in
      form_own q i h z l' ∙ ap (λ m. elemental_value m h (elemental_at m i)) n;
  equation = a.equations;
}

parts_least : (i : ℕ) (ws : List (ℕ × ℤ)) → Every (λ w. w.0 ≡ i → pos 0 ≤ℤ w.1) ws → pos 0 ≤ℤ coefficient ws i
parts_least i [] e = omega (arith, ints)
parts_least i (w ∷ ws) e = sum_least (cond (nat_eq w.0 i) w.1 (pos 0)) (coefficient ws i) (by_test (nat_eq w.0 i) refl) (parts_least i ws e.1)
  where
    by_test : (b : Bool) → nat_eq w.0 i ≡ b → pos 0 ≤ℤ cond b w.1 (pos 0)
    by_test true q = e.0 (eqb-true w.0 i q)
    by_test false q = omega (arith, ints)

none_goes : (i : ℕ) (ds : List Dependence) → Every (λ d. d.generator ≢ i) ds → goes_up ds i ≡ true
none_goes i [] e = refl
none_goes i (d ∷ ds) e = ap (λ b. cond b d.negated (goes_up ds i)) (ne_eqb d.generator i e.0) ∙ none_goes i ds e.1

weights_parts : (first : ℕ) (xs : List ℤ) (P : ℕ → ℤ → Type 0) → ((k : ℕ) → k < length xs → P (first + k) (number_at xs k))
    → Every (λ w. P w.0 w.1) (terms_from first xs)
weights_parts first [] P f = tt
weights_parts first (x ∷ xs) P f =
    let z : first + 0 ≡ first = omega arith in
    first_and_rest x (subst (λ (m : ℕ). P m x) z (f 0 (omega arith))) (weights_parts (first + 1) xs P
    (λ k l. let e : first + suc k ≡ first + 1 + k = omega arith in subst (λ (m : ℕ). P m (number_at xs k)) e (f (suc k) (omega arith))))
  where
    first_and_rest : (y : ℤ) → P first y → Every (λ w. P w.0 w.1) (terms_from (first + 1) xs)
        → Every (λ w. P w.0 w.1) (single_term first y ++ terms_from (first + 1) xs)
    first_and_rest (pos zero) p e = e
    first_and_rest (pos (suc y)) p e = (p, e)
    first_and_rest (negsuc y) p e = (p, e)

pub sets_here : (q : ProblemView) (d : DependencesView) → IsProblem q → AreDependencesOf q d → 2 ^ d.space.variables ≤ size_of q.space + 1
sets_here q d p a = subst (λ (m : ℕ). 2 ^ m ≤ size_of q.space + 1) (ap (λ s. s.variables) (sym a.space)) (sets_of q p)

-- canonical weights are in order
pub canonical_weights_ascend : (from : ℕ) (ts : Terms) → Ascends from ts → WeightsAscend from ts
canonical_weights_ascend from [] a = tt
canonical_weights_ascend from (t ∷ ts) a = (a.0, canonical_weights_ascend (t.0 + 1) ts a.3)

-- ---- what is lifted may stand in a certificate, and adds up

module _ (q : ProblemView) (d : DependencesView) (target : Terms) (old : CertificateView) (p : IsProblem q) (a : AreDependencesOf q d)
    (t : IsOver (size_of q.space) target) (c : IsCertificateOverClosed q d target old) where
  abbrev lifted_parts : List (ℕ × ℤ)
  lifted_parts = lifted_weights d.space.variables d.list (value target) (generators_of q) old

  abbrev moved_parts : List (ℕ × ℤ)
  moved_parts = moves d.space.variables d.list (excess old (value target) (generators_of q))

  pub lifted_least : (i : ℕ) → (generators_of q).is_equation i ≡ false → pos 0 ≤ℤ coefficient lifted_parts i
  lifted_least i e = subst (λ (x : ℤ). pos 0 ≤ℤ x) (sym (coefficient-append old.weights moved_parts i))
      (sum_least (coefficient old.weights i) (coefficient moved_parts i)
      (parts_least i old.weights (every-same (IsAllowed (generators_of q)) (λ w. w.0 ≡ i → pos 0 ≤ℤ w.1) old.weights
      (λ w v q'. v.1 (ap (generators_of q).is_equation q' ∙ e)) (every_of (IsAllowed (generators_of q)) old.weights c.allowed)))
      (subst (λ (b : Bool). Goes b (coefficient moved_parts i))
      (none_goes i d.list (every-same (λ x. (generators_of q).is_equation x.generator ≡ true) (λ x. x.generator ≢ i) d.list
      (λ x v q'. false≢true (sym e ∙ ap (generators_of q).is_equation (sym q') ∙ v))
      (every_of (λ x. (generators_of q).is_equation x.generator ≡ true) d.list a.kinds)))
      (goes-total (goes_up d.list) moved_parts (moves_go d.space.variables d.list (excess old (value target) (generators_of q))
      (of_space d a.shape) a.numbered) i)))

  pub lifted_adds_up : (ws : List (ℕ × ℤ)) → ((i : ℕ) → coefficient ws i ≡ coefficient lifted_parts i) → (h : ℕ → ℤ) → h 0 ≡ pos 0
      → old.scale *ℤ value target h ≡ combination ws (λ i. (generators_of q).form i h)
  lifted_adds_up ws same h z =
      lift_adds_up (size_of q.space + 1) d.space.variables d.list (value target) (generators_of q) old (sets_here q d p a)
      (of_space d a.shape) (have_dependences q d a) (value_linear (size_of q.space) target t)
      (λ i l. form_linear q i p) (λ i x l. (c.allowed i x l).0) c.sums h z ∙ weighted_same lifted_parts ws (λ i. (generators_of q).form i h) (λ i. sym (same i))

  -- so canonical weights that have the coefficients of the lifted ones are a lift
  pub canonical_lift : (new : CertificateView) → new.scale ≡ old.scale → Ascends 0 new.weights
      → ((i : ℕ) → coefficient new.weights i ≡ coefficient lifted_parts i) → IsLiftOf q d target old new
  canonical_lift new scale up same = record {
    scale = scale;
    order = canonical_weights_ascend 0 new.weights up;
    allowed = all_of (IsAllowed (generators_of q)) new.weights (each_is_allowed 0 new.weights up (λ i h. refl));
    weights = same;
    adds_up = λ h z. ap (λ x. x *ℤ value target h) scale ∙ lifted_adds_up new.weights same h z;
  }
    where
      none_from : (i : ℕ) (ws : List (ℕ × ℤ)) → Every (λ w. w.0 < (generators_of q).count) ws → (generators_of q).count ≤ i → coefficient ws i ≡ pos 0
      none_from i [] e h = refl
      none_from i (w ∷ ws) e h = other_is w ws i (λ is. omega (arith, e.0, is)) ∙ none_from i ws e.1 h

      lifted_below_count : Every (λ w. w.0 < (generators_of q).count) lifted_parts
      lifted_below_count = every-append (λ w. w.0 < (generators_of q).count) old.weights moved_parts
          (every-same (IsAllowed (generators_of q)) (λ w. w.0 < (generators_of q).count) old.weights (λ w v. v.0)
          (every_of (IsAllowed (generators_of q)) old.weights c.allowed))
          (moves_placed d.space.variables (generators_of q).count d.list (excess old (value target) (generators_of q)) (of_space d a.shape)
          (omega (arith, total_is q, ap (λ s. length (elementals s.variables)) a.space))
          (every_of (λ x. x.generator < (generators_of q).count) d.list a.placed))

      some_allowed : (i : ℕ) (x : ℤ) → x ≢ pos 0 → coefficient lifted_parts i ≡ x → IsAllowed (generators_of q) (i, x)
      some_allowed i x some is = (by_cases (cases_lt i (generators_of q).count), λ e. subst (λ (y : ℤ). pos 0 ≤ℤ y) is (lifted_least i e))
        where
          by_cases : (i < (generators_of q).count) ⊎ ((generators_of q).count ≤ i) → i < (generators_of q).count
          by_cases (inl l) = l
          by_cases (inr l) = absurd (some (sym is ∙ none_from i lifted_parts lifted_below_count l))

      -- the first term's coefficient is that of the whole
      each_is_allowed : (from : ℕ) (ws : List (ℕ × ℤ)) → Ascends from ws → ((i : ℕ) → from ≤ i
          → coefficient ws i ≡ coefficient new.weights i) → Every (IsAllowed (generators_of q)) ws
      each_is_allowed from [] u is = tt
      each_is_allowed from (w ∷ ws) u is = (
        some_allowed w.0 w.1 u.1 (sym (same w.0) ∙ sym (is w.0 u.0) ∙ head_is from w ws u),
        each_is_allowed (w.0 + 1) ws u.3 (λ i h. sym (other_is w ws i (λ e. omega (arith, e))) ∙ is i (omega (arith, u.0))),
      )

-- what the code gives
pub is_lift : (q : ProblemView) (d : DependencesView) (target : Terms) (old : CertificateView) (start end : List ℤ) → IsProblem q
    → AreDependencesOf q d → IsOver (size_of q.space) target → IsCertificateOverClosed q d target old
    → length start ≡ (generators_of q).count → number_at start ≡ coefficient old.weights
    → AreWeightsAdded start end (moves d.space.variables d.list (excess old (value target) (generators_of q)))
    → IsLiftOf q d target old (record { scale = old.scale; weights = terms_from 0 end })
is_lift q d target old start end p a t c len is added = record {
  scale = refl;
  order = weights_order 0 end;
  allowed = all_of (IsAllowed (generators_of q)) (terms_from 0 end) (weights_parts 0 end (λ i x. IsAllowed (generators_of q) (i, x)) (λ k l. allowed_at k l));
  weights = same_coefficients;
  adds_up = lifted_adds_up q d target old p a t c (terms_from 0 end) same_coefficients;
}
  where
    same_coefficients : (i : ℕ) → coefficient (terms_from 0 end) i
        ≡ coefficient (lifted_weights d.space.variables d.list (value target) (generators_of q) old) i
    same_coefficients i = terms_from_zero end i ∙ ap (λ (f : ℕ → ℤ). f i) added.same
        ∙ after-total (number_at start) (moves d.space.variables d.list (excess old (value target) (generators_of q))) i
        ∙ ap (λ (f : ℕ → ℤ). f i +ℤ coefficient (moves d.space.variables d.list (excess old (value target) (generators_of q))) i) is
        ∙ sym (coefficient-append old.weights (moves d.space.variables d.list (excess old (value target) (generators_of q))) i)

    allowed_at : (k : ℕ) → k < length end → IsAllowed (generators_of q) (0 + k, number_at end k)
    allowed_at k l =
        let z : 0 + k ≡ k = omega arith in
        subst (λ (m : ℕ). IsAllowed (generators_of q) (m, number_at end k)) (sym z) (
          omega (arith, len, added.complete),
          λ e. subst (λ (x : ℤ). pos 0 ≤ℤ x) (sym (same_coefficients k) ∙ terms_from_zero end k)
              (lifted_least q d target old p a t c k e),
        )

-- where all numbers are within the limit, and where they aren't
pub lift_fits : (q : ProblemView) (d : DependencesView) (target : Terms) (old : CertificateView) (start : List ℤ) → AreOfSpace d
    → AreDependencesOf q d → IsCertificateOverClosed q d target old → number_at start ≡ coefficient old.weights
    → (EmptyFits d.space.variables d.list (value target) (generators_of q) old
    × WeightSumsFit (number_at start) (moves d.space.variables d.list (excess old (value target) (generators_of q)))) ↔ FitsLift q d target
    old
lift_fits q d target old start s a c is =
    let both = weight_sums_fit_as_end d.space.variables d.list (value target) (generators_of q) old (of_space d s) a.numbered
    (parts_within old.weights c.order c.within) in (
      λ e. record {
        before = e.0;
        weights = both.0 (subst (λ (f : ℕ → ℤ). WeightSumsFit f
            (moves d.space.variables d.list (excess old (value target) (generators_of q)))) is e.1);
      },
      λ l. (
        l.before,
        subst (λ (f : ℕ → ℤ). WeightSumsFit f (moves d.space.variables d.list (excess old (value target) (generators_of q))))
            (sym is) (both.1 l.weights),
      ),
    )

-- none of the weights is 0
pub weights_some : (first : ℕ) (xs : List ℤ) → All (λ (w : ℕ × ℤ). w.1 ≢ pos 0) (terms_from first xs)
weights_some first xs = all_of (λ (w : ℕ × ℤ). w.1 ≢ pos 0) (terms_from first xs) (none_is_zero first xs)
  where
    first_and_rest : (first : ℕ) (y : ℤ) (rest : List (ℕ × ℤ)) → Every (λ (w : ℕ × ℤ). w.1 ≢ pos 0) rest
        → Every (λ (w : ℕ × ℤ). w.1 ≢ pos 0) (single_term first y ++ rest)
    first_and_rest first (pos zero) rest e = e
    first_and_rest first (pos (suc y)) rest e = (λ z. omega (arith, ints, z), e)
    first_and_rest first (negsuc y) rest e = (λ z. omega (arith, ints, z), e)

    none_is_zero : (first : ℕ) (xs : List ℤ) → Every (λ (w : ℕ × ℤ). w.1 ≢ pos 0) (terms_from first xs)
    none_is_zero first [] = tt
    none_is_zero first (x ∷ xs) = first_and_rest first x (terms_from (first + 1) xs) (none_is_zero (first + 1) xs)
