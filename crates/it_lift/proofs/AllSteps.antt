-- The loop over all sets.
use Rattle.std.proofs.Common.{◌≡◌, ℕ, zero, suc, ◌+◌, ◌-◌, ◌^◌, ◌<◌, ◌≤◌, ℤ, List, [], ◌∷◌, ◌++◌, refl, sym, ap, ap₂, subst, ◌∙◌, arith, append-nil}
use Rattle.std.specs.List.{flat_map}
use Rattle.std.proofs.lemmas.List.Concat.{flat_map-append}
use Rattle.std.proofs.lemmas.Nat.{pow_pos}
use Rattle.it_polymatroid.specs.Elementals.{span}
use Rattle.it_polymatroid.proofs.Spans.{span-append}
use Rattle.it_closure.specs.declared.dependences.Dependence.{Dependence}
use Rattle.it_lift.specs.Lifts.{with_empty, moves_at, moves_of}
use Rattle.it_lift.specs.Fits.{WeightSumsFit}
use Rattle.it_space.specs.Sums.{number_at}
use Rattle.it_lift.specs.Sums.{AreWeightsAdded}
use Rattle.it_lift.proofs.AddsUp.{span-last}
use Rattle.it_lift.proofs.SumSteps.{added-append, stops-after, stops-before}

pub others-more : (F : ℕ → List (ℕ × ℤ)) (m : ℕ) (a b c : List ℤ) → 1 ≤ m → AreWeightsAdded a b (flat_map F (span 1 (m - 1)))
    → AreWeightsAdded b c (F m) → AreWeightsAdded a c (flat_map F (span 1 (m + 1 - 1)))
others-more F m a b c h k l =
    let e : m + 1 - 1 ≡ suc (m - 1) = omega arith in
    let f : 1 + (m - 1) ≡ m = omega arith in
    let split : flat_map F (span 1 (m + 1 - 1)) ≡ flat_map F (span 1 (m - 1)) ++ F m =
    ap (λ x. flat_map F (span 1 x)) e ∙ ap (flat_map F) (span-last 1 (m - 1) ∙ ap (λ x. span 1 (m - 1) ++ x ∷ []) f)
    ∙ flat_map-append F (span 1 (m - 1)) (m ∷ [])
    ∙ ap (λ y. flat_map F (span 1 (m - 1)) ++ y) (append-nil (F m)) in
    subst (AreWeightsAdded a c) (sym split) (added-append a b c (flat_map F (span 1 (m - 1))) (F m) k l)

pub others-stop : (F : ℕ → List (ℕ × ℤ)) (m n : ℕ) (a b : List ℤ) → 1 ≤ m → m < 2 ^ n → AreWeightsAdded a b (flat_map F (span 1 (m - 1)))
    → ¬ (WeightSumsFit (number_at b) (F m)) → ¬ (WeightSumsFit (number_at a) (flat_map F (span 1 (2 ^ n - 1))))
others-stop F m n a b h l k w =
    let e : 2 ^ n - 1 ≡ (m - 1) + suc (2 ^ n - (m + 1)) = omega arith in
    let f : 1 + (m - 1) ≡ m = omega arith in
    let rest : List (ℕ × ℤ) = flat_map F (span (m + 1) (2 ^ n - (m + 1))) in
    let split : flat_map F (span 1 (2 ^ n - 1)) ≡ flat_map F (span 1 (m - 1)) ++ (F m ++ rest) =
    ap (λ x. flat_map F (span 1 x)) e ∙ ap (flat_map F) (span-append 1 (m - 1) (suc (2 ^ n - (m + 1)))
    ∙ ap (λ x. span 1 (m - 1) ++ span x (suc (2 ^ n - (m + 1)))) f)
    ∙ flat_map-append F (span 1 (m - 1)) (span m (suc (2 ^ n - (m + 1)))) in
    subst (λ (ms : List (ℕ × ℤ)). ¬ (WeightSumsFit (number_at a) ms)) (sym split)
    (stops-after a b (flat_map F (span 1 (m - 1))) (F m ++ rest) k (stops-before (number_at b) (F m) rest w))

all-split : (F : ℕ → List (ℕ × ℤ)) (n : ℕ) → flat_map F (span 0 (2 ^ n)) ≡ F 0 ++ flat_map F (span 1 (2 ^ n - 1))
all-split F n = let e : 2 ^ n ≡ suc (2 ^ n - 1) = omega (arith, pow_pos n) in ap (λ x. flat_map F (span 0 x)) e

pub all-added : (F : ℕ → List (ℕ × ℤ)) (n : ℕ) (a b c : List ℤ) → AreWeightsAdded a b (F 0)
    → AreWeightsAdded b c (flat_map F (span 1 (2 ^ n - 1))) → AreWeightsAdded a c (flat_map F (span 0 (2 ^ n)))
all-added F n a b c h k = subst (AreWeightsAdded a c) (sym (all-split F n)) (added-append a b c (F 0) (flat_map F (span 1 (2 ^ n - 1))) h k)

pub first-stops : (F : ℕ → List (ℕ × ℤ)) (n : ℕ) (a : List ℤ) (E : Type 0) → ¬ (WeightSumsFit (number_at a) (F 0))
    → ¬ (E × WeightSumsFit (number_at a) (flat_map F (span 0 (2 ^ n))))
first-stops F n a E h w = stops-before (number_at a) (F 0) (flat_map F (span 1 (2 ^ n - 1))) h
    (subst (λ (ms : List (ℕ × ℤ)). WeightSumsFit (number_at a) ms) (all-split F n) w.1)

pub later-stops : (F : ℕ → List (ℕ × ℤ)) (n : ℕ) (a b : List ℤ) (E : Type 0) → AreWeightsAdded a b (F 0)
    → ¬ (WeightSumsFit (number_at b) (flat_map F (span 1 (2 ^ n - 1)))) → ¬ (E × WeightSumsFit (number_at a) (flat_map F (span 0 (2 ^ n))))
later-stops F n a b E k h w = stops-after a b (F 0) (flat_map F (span 1 (2 ^ n - 1))) k h
    (subst (λ (ms : List (ℕ × ℤ)). WeightSumsFit (number_at a) ms) (all-split F n) w.1)

-- what the code adds at a set
pub moves_found : (n : ℕ) (ds : List Dependence) (e : ℕ → ℤ) (m s : ℕ) (x : ℤ) → 1 ≤ m → s ≡ m → x ≡ e s → moves_at n ds s x ≡ moves_of n ds e m
moves_found n ds e m s x h i k = ap₂ (moves_at n ds) i (k ∙ ap e i) ∙ ap (moves_at n ds m) (sym (value_stays m h))
  where
    value_stays : (m : ℕ) → 1 ≤ m → with_empty n ds e m ≡ e m
    value_stays zero h = absurd (omega arith)
    value_stays (suc m) h = refl

pub first_found : (n : ℕ) (ds : List Dependence) (e : ℕ → ℤ) (s : ℕ) (x : ℤ) → s ≡ 0 → x ≡ with_empty n ds e 0 → moves_at n ds s x ≡ moves_of n ds e 0
first_found n ds e s x i k = ap₂ (moves_at n ds) i k
