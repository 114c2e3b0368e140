-- Without dependences nothing is moved.
use Rattle.std.proofs.Common.{◌≡◌, ℕ, zero, suc, ◌+◌, ◌^◌, ◌<◌, ℤ, pos, negsuc, List, [], ◌++◌, refl, sym, ap, ap₂, subst, ◌∙◌, arith, append-nil, nat_eq}
use Rattle.std.specs.List.{flat_map}
use Rattle.std.proofs.lemmas.Nat.Bits.{bit_at-zero}
use Rattle.std.specs.Int.Bits.{and_self}
use Rattle.it_problems.specs.Problems.{ProblemView, IsProblem}
use Rattle.it_space.specs.Answers.{CertificateView}
use Rattle.it_space.specs.Rows.{Terms, coefficient, value, IsOver}
use Rattle.it_space.specs.Sets.{has_member}
use Rattle.it_space.specs.Spaces.{size_of}
use Rattle.it_polymatroid.specs.Elementals.{span}
use Rattle.it_elemental.specs.Expansions.{members, conditional_expansion}
use Rattle.it_elemental.proofs.Spans.{keep_none}
use Rattle.it_closure.specs.declared.dependences.Dependence.{Dependence}
use Rattle.it_closure.specs.DependencesViews.{DependencesView}
use Rattle.it_closure.proofs.Ways.{way-end}
use Rattle.it_elemental.specs.Generators.{generators_of}
use Rattle.it_lift.specs.Lifts.{excess, set_difference, each_weight, turn_moves, moves_at, moves_of, moves, lifted_weights}
use Rattle.it_lift.specs.LiftedCertificates.{AreDependencesOf, IsCertificateOverClosed, IsLiftOf}
use Rattle.it_lift.proofs.MoveLemmas.{own_closure}
use Rattle.it_lift.proofs.Whole.{lifted_adds_up}

at-none : (n s : ℕ) (x : ℤ) → s < 2 ^ n → moves_at n [] s x ≡ []
at-none n s (pos zero) l = refl
at-none n s (pos (suc k)) l = ap (flat_map (turn_moves n (pos (suc k)))) (way-end n [] s l refl)
at-none n s (negsuc k) l =
    ap (λ m. each_weight n (pos (suc k)) (conditional_expansion n (members n m) s))
    (ap (λ c. set_difference c s) (own_closure n [] s (λ i d h. absurd (omega arith)) l refl) ∙ difference_is_empty)
    ∙ ap (λ ms. each_weight n (pos (suc k)) (conditional_expansion n ms s)) (keep_none (has_member 0) 0 n (λ i h. ap (λ b. nat_eq b 1) (bit_at-zero (0 + i))))
  where
    difference_is_empty : set_difference s s ≡ 0
    difference_is_empty = omega (arith, and_self s)

flat-none : (F : ℕ → List (ℕ × ℤ)) (a m : ℕ) → ((s : ℕ) → s < a + m → F s ≡ []) → flat_map F (span a m) ≡ []
flat-none F a zero f = refl
flat-none F a (suc m) f = ap₂ (λ xs ys. xs ++ ys) (f a (omega arith)) (flat-none F (a + 1) m (λ s h. f s (omega arith)))

moves-none : (n : ℕ) (ds : List Dependence) (e : ℕ → ℤ) → ds ≡ [] → moves n ds e ≡ []
moves-none n ds e q = subst (λ (es : List Dependence). moves n es e ≡ []) (sym q) (flat-none (moves_of n [] e) 0 (2 ^ n) (λ s h. at-none n s _ (omega arith)))

pub is_own_lift : (q : ProblemView) (d : DependencesView) (target : Terms) (w : CertificateView) → IsProblem q → AreDependencesOf q d
    → IsOver (size_of q.space) target → IsCertificateOverClosed q d target w → d.list ≡ [] → IsLiftOf q d target w w
is_own_lift q d target w p a t c none =
    let same : lifted_weights d.space.variables d.list (value target) (generators_of q) w ≡ w.weights =
    ap (λ ms. w.weights ++ ms) (moves-none d.space.variables d.list (excess w (value target) (generators_of q)) none) ∙ append-nil w.weights in
    record {
      scale = refl;
      order = c.order;
      allowed = c.allowed;
      weights = λ i. sym (ap (λ ms. coefficient ms i) same);
      adds_up = lifted_adds_up q d target w p a t c w.weights (λ i. sym (ap (λ ms. coefficient ms i) same));
    }
