-- The verdict on a certificate is `Valid` exactly if it certifies the target and its numbers are within the limit.
use Rattle.std.proofs.Common.{◌≡◌, ℕ, zero, suc, ◌+◌, ◌<◌, ◌≤◌, ◌⊎◌, inl, inr, ℤ, pos, ◌+ℤ◌, ◌*ℤ◌, ◌≤ℤ◌, List, [], ◌∷◌, length, Bool, true, false, cond, not, ◌&&◌, ltb, Option, Some, None, All, refl, sym, ap, ap₂, subst, ◌∙◌, arith}
use Rattle.std.specs.Option.{option_or}
use Rattle.std.specs.Bool.{Decides}
use Rattle.std.specs.Int.Signed.{lt_z}
use Rattle.std.specs.Ordering.{int_eq}
use Rattle.std.proofs.lemmas.Int.{ints}
use Rattle.std.proofs.lemmas.Bool.Decides.{Decides-ltb, Decides-int_eq}
use Rattle.it_number.specs.Limit.{IsWithin}
use Rattle.it_space.specs.Answers.{CertificateView}
use Rattle.it_space.specs.Rows.{Terms, ValueFits, coefficient, value, one_at}
use Rattle.it_polymatroid.specs.Certificates.{IsAllowed, IsCertificate, combination}
use Rattle.it_polymatroid.proofs.Spans.{same_or_more}
use Rattle.std.specs.List.{AllByRecursion as Every}
use Rattle.std.proofs.Math.IntN.{+ℤ_idl}
use Rattle.it_space.proofs.EveryLemmas.{every_of, all_of}
use Rattle.it_space.proofs.TermLemmas.{value-one_at}
use Rattle.it_elemental.specs.Generators.{Generator, generator_at, forms_of, is_equation}
use Rattle.it_check.specs.Sums.{product_within, sum_within}
use Rattle.it_check.specs.Verdicts.{column, valid_unless, of_scale, of_weight, of_weights, of_numbers, of_coordinate, of_coordinates, yes_verdict}
use Rattle.it_check.specs.declared.verdicts.Verdict.{Verdict}
use Rattle.it_check.specs.declared.verdicts.Verdict.TheVariants.{Valid, BadScale, UnknownGenerator, NegativeWeight, Mismatch}
use Rattle.it_check.proofs.SumLemmas.{product_told, product_fits, sum_told, sum_fits}
use Rattle.it_check.proofs.FindingLemmas.{first_part, last_part, clean_or, none_both, least_by_test, not_below}

-- ---- the scale

least_one : (x : ℤ) → lt_z x (pos 1) ≡ false → pos 1 ≤ℤ x
least_one x e = grind (arith, ints)

from_one : (x : ℤ) → pos 1 ≤ℤ x → lt_z x (pos 1) ≡ false
from_one x e = grind (arith, ints)

scale_clean : (s : ℤ) → of_scale s ≡ Some Valid → ⊥
scale_clean s e = by_test (lt_z s (pos 1)) e
  where
    by_test : (b : Bool) → cond b (Some (BadScale s)) None ≡ Some Valid → ⊥
    by_test true e = cc
    by_test false e = cc

scale_none : (s : ℤ) → of_scale s ≡ None → pos 1 ≤ℤ s
scale_none s e = by_test (lt_z s (pos 1)) (λ f. least_one s f) e
  where
    by_test : (b : Bool) → (b ≡ false → pos 1 ≤ℤ s) → cond b (Some (BadScale s)) None ≡ None → pos 1 ≤ℤ s
    by_test true f e = absurd (cc)
    by_test false f e = f refl

none_scale : (s : ℤ) → pos 1 ≤ℤ s → of_scale s ≡ None
none_scale s h = ap (λ b. cond b (Some (BadScale s)) None) (from_one s h)

-- ---- weights

module _ (gs : List Generator) where
  abbrev finding_by_tests : ℕ × ℤ → Bool → Bool → Bool → Option Verdict
  finding_by_tests w a b e = cond a (cond (b && not e) (Some (NegativeWeight w.0)) None) (Some (UnknownGenerator w.0))

  weight_clean : (w : ℕ × ℤ) → of_weight gs w ≡ Some Valid → ⊥
  weight_clean w q = by_test (ltb w.0 (length gs)) (lt_z w.1 (pos 0) && not (is_equation (generator_at gs w.0).kind)) q
    where
      by_test : (a b : Bool) → cond a (cond b (Some (NegativeWeight w.0)) None) (Some (UnknownGenerator w.0)) ≡ Some Valid → ⊥
      by_test true true q = cc
      by_test true false q = cc
      by_test false b q = cc

  weight_none : (w : ℕ × ℤ) → of_weight gs w ≡ None → IsAllowed (forms_of gs) w
  weight_none w q = by_test (ltb w.0 (length gs)) (lt_z w.1 (pos 0)) (is_equation (generator_at gs w.0).kind) (Decides-ltb w.0 (length gs))
      (λ f. least_by_test w.1 f) q
    where
      by_test : (a b e : Bool) → Decides a (w.0 < length gs) → (b ≡ false → pos 0 ≤ℤ w.1) → finding_by_tests w a b e ≡ None
          → (w.0 < length gs) × (e ≡ false → pos 0 ≤ℤ w.1)
      by_test true true true d f q = (d.0 refl, λ r. absurd (cc))
      by_test true true false d f q = absurd (cc)
      by_test true false e d f q = (d.0 refl, λ r. f refl)
      by_test false b e d f q = absurd (cc)

  none_weight : (w : ℕ × ℤ) → IsAllowed (forms_of gs) w → of_weight gs w ≡ None
  none_weight w h = ap (λ a. finding_by_tests w a (lt_z w.1 (pos 0)) (is_equation (generator_at gs w.0).kind)) ((Decides-ltb w.0 (length gs)).1 h.0)
      ∙ by_test (is_equation (generator_at gs w.0).kind) h.1
    where
      by_test : (e : Bool) → (e ≡ false → pos 0 ≤ℤ w.1) → finding_by_tests w true (lt_z w.1 (pos 0)) e ≡ None
      by_test true f = by_sign_test (lt_z w.1 (pos 0))
        where
          by_sign_test : (b : Bool) → finding_by_tests w true b true ≡ None
          by_sign_test true = refl
          by_sign_test false = refl
      by_test false f = ap (λ b. finding_by_tests w true b false) (not_below w.1 (f refl))

  weights_clean : (ws : List (ℕ × ℤ)) → of_weights gs ws ≡ Some Valid → ⊥
  unfolding of_weights
  weights_clean [] q = cc
  weights_clean (w ∷ ws) q = clean_or (of_weight gs w) (of_weights gs ws) (weight_clean w) (weights_clean ws) q

  weights_none : (ws : List (ℕ × ℤ)) → of_weights gs ws ≡ None → Every (IsAllowed (forms_of gs)) ws
  unfolding of_weights
  weights_none [] q = tt
  weights_none (w ∷ ws) q = let both = none_both (of_weight gs w) (of_weights gs ws) q in (weight_none w both.0, weights_none ws both.1)

  none_weights : (ws : List (ℕ × ℤ)) → Every (IsAllowed (forms_of gs)) ws → of_weights gs ws ≡ None
  unfolding of_weights
  none_weights [] h = refl
  none_weights (w ∷ ws) h = ap (λ o. option_or o (of_weights gs ws)) (none_weight w h.0) ∙ none_weights ws h.1

-- ---- coordinates

-- the two numbers at a coordinate fit and are one
pub record Agrees (gs : List Generator) (target : Terms) (w : CertificateView) (c : ℕ) : Type 0 where
  pub left : IsWithin (w.scale *ℤ coefficient target c)
  pub right : ValueFits w.weights (column gs c)
  pub same : w.scale *ℤ coefficient target c ≡ value w.weights (column gs c)

module _ (gs : List Generator) (target : Terms) (w : CertificateView) where
  numbers_clean : (c : ℕ) (l r : Option ℤ) → of_numbers c l r ≡ Some Valid → ⊥
  numbers_clean c None r q = cc
  numbers_clean c (Some x) None q = cc
  numbers_clean c (Some x) (Some y) q = by_test (int_eq x y) q
    where
      by_test : (b : Bool) → cond b None (Some (Mismatch c x y)) ≡ Some Valid → ⊥
      by_test true q = cc
      by_test false q = cc

  coordinate_none : (c : ℕ) → of_coordinate gs target w c ≡ None → Agrees gs target w c
  coordinate_none c q = by_option (product_within w.scale (coefficient target c)) (sum_within (pos 0) w.weights (column gs c))
      (λ x e. product_told w.scale (coefficient target c) x e) (λ y e. sum_told (pos 0) w.weights (column gs c) y e) q
    where
      numbers_agree : (x y : ℤ) (b : Bool) → Decides b (x ≡ y) → cond b None (Some (Mismatch c x y)) ≡ None → x ≡ y
      numbers_agree x y true d q = d.0 refl
      numbers_agree x y false d q = absurd (cc)

      sides_are_equal : (x y v u : ℤ) → x ≡ u → y ≡ pos 0 +ℤ v → x ≡ y → u ≡ v
      sides_are_equal x y v u p q r = omega (arith, ints, p, q, r)

      by_option : (l r : Option ℤ) → ((x : ℤ) → l ≡ Some x → IsWithin (w.scale *ℤ coefficient target c) × (x ≡ w.scale *ℤ coefficient target c))
          → ((y : ℤ) → r ≡ Some y → ValueFits w.weights (column gs c) × (y ≡ pos 0 +ℤ value w.weights (column gs c)))
          → of_numbers c l r ≡ None → Agrees gs target w c
      by_option None r f g q = absurd (cc)
      by_option (Some x) None f g q = absurd (cc)
      by_option (Some x) (Some y) f g q = record {
        left = (f x refl).0;
        right = (g y refl).0;
        same = sides_are_equal x y (value w.weights (column gs c)) (w.scale *ℤ coefficient target c) (f x refl).1 (g y refl).1
            (numbers_agree x y (int_eq x y) (Decides-int_eq x y) q);
      }

  none_coordinate : (c : ℕ) → Agrees gs target w c → of_coordinate gs target w c ≡ None
  none_coordinate c a =
      ap (λ l. of_numbers c l (sum_within (pos 0) w.weights (column gs c))) (product_fits w.scale (coefficient target c) a.left)
      ∙ ap (of_numbers c (Some (w.scale *ℤ coefficient target c))) (sum_fits (pos 0) w.weights (column gs c) a.right)
      ∙ ap (λ b. cond b None (Some (Mismatch c (w.scale *ℤ coefficient target c) (pos 0 +ℤ value w.weights (column gs c)))))
      ((Decides-int_eq (w.scale *ℤ coefficient target c) (pos 0 +ℤ value w.weights (column gs c))).1 (a.same ∙ sym (+ℤ_idl (value w.weights (column gs c)))))

  coordinates_clean : (c left : ℕ) → of_coordinates gs target w c left ≡ Some Valid → ⊥
  unfolding of_coordinates
  coordinates_clean c zero q = cc
  coordinates_clean c (suc left) q = clean_or (of_coordinate gs target w c) (of_coordinates gs target w (c + 1) left)
      (numbers_clean c (product_within w.scale (coefficient target c)) (sum_within (pos 0) w.weights (column gs c))) (coordinates_clean (c + 1) left) q

  coordinates_none : (c left : ℕ) → of_coordinates gs target w c left ≡ None → (k : ℕ) → c ≤ k → k < c + left → Agrees gs target w k
  unfolding of_coordinates
  coordinates_none c zero q k h l = absurd (omega arith)
  coordinates_none c (suc left) q k h l =
      let both = none_both (of_coordinate gs target w c) (of_coordinates gs target w (c + 1) left) q in
      by_cases (same_or_more c k h) both.0 (λ m. coordinates_none (c + 1) left both.1 k m (omega arith))
    where
      by_cases : (c ≡ k) ⊎ (c + 1 ≤ k) → of_coordinate gs target w c ≡ None → (c + 1 ≤ k → Agrees gs target w k) → Agrees gs target w k
      by_cases (inl e) q f = subst (Agrees gs target w) e (coordinate_none c q)
      by_cases (inr m) q f = f m

  none_coordinates : (c left : ℕ) → ((k : ℕ) → c ≤ k → k < c + left → Agrees gs target w k) → of_coordinates gs target w c left ≡ None
  unfolding of_coordinates
  none_coordinates c zero f = refl
  none_coordinates c (suc left) f = ap (λ o. option_or o (of_coordinates gs target w (c + 1) left)) (none_coordinate c (f c (omega arith) (omega arith)))
      ∙ none_coordinates (c + 1) left (λ k h l. f k (omega arith) (omega arith))

-- ---- the sums of a certificate, by coefficients

weighted_is : (gs : List Generator) (ws : List (ℕ × ℤ)) (c : ℕ) → combination ws (λ i. value (generator_at gs i).row (one_at c)) ≡ value ws (column gs c)
weighted_is gs [] c = refl
weighted_is gs (w ∷ ws) c = ap₂ (λ x y. w.1 *ℤ x +ℤ y) (value-one_at (generator_at gs w.0).row c) (weighted_is gs ws c)

-- what is added up by coefficients is added up at the maps that are 1 at a coordinate
pub to_certificate : (gs : List Generator) (size : ℕ) (target : Terms) (w : CertificateView) → pos 1 ≤ℤ w.scale → All (IsAllowed (forms_of gs)) w.weights
    → ((c : ℕ) → 1 ≤ c → c ≤ size → w.scale *ℤ coefficient target c ≡ value w.weights (column gs c)) → IsCertificate (size + 1) (forms_of gs) (value target) w
to_certificate gs size target w s a f = record {
  scale_from_one = s;
  allowed = a;
  adds_up = λ c h l. ap (λ x. w.scale *ℤ x) (value-one_at target c) ∙ f c (omega arith) (omega arith) ∙ sym (weighted_is gs w.weights c);
}

pub by_coefficients : (gs : List Generator) (size : ℕ) (target : Terms) (w : CertificateView) → IsCertificate (size + 1) (forms_of gs) (value target) w
    → (c : ℕ) → 1 ≤ c → c ≤ size → w.scale *ℤ coefficient target c ≡ value w.weights (column gs c)
by_coefficients gs size target w k c h l = sym (ap (λ x. w.scale *ℤ x) (value-one_at target c)) ∙ k.adds_up c (omega arith) (omega arith)
    ∙ weighted_is gs w.weights c

-- ---- all of it

module _ (gs : List Generator) (size : ℕ) (target : Terms) (w : CertificateView) where
  abbrev Fits : Type 0
  Fits = (c : ℕ) → 1 ≤ c → c ≤ size → IsWithin (w.scale *ℤ coefficient target c) × ValueFits w.weights (column gs c)

  pub valid_yes : yes_verdict gs size target w ≡ Valid → IsCertificate (size + 1) (forms_of gs) (value target) w × Fits
  unfolding yes_verdict
  valid_yes e =
      let one = first_part (of_scale w.scale) (option_or (of_weights gs w.weights) (of_coordinates gs target w 1 size)) (scale_clean w.scale) e in
      let two = first_part (of_weights gs w.weights) (of_coordinates gs target w 1 size) (weights_clean gs w.weights) one.1 in
      let three = last_part (of_coordinates gs target w 1 size) (coordinates_clean gs target w 1 size) two.1 in (
        to_certificate gs size target w (scale_none w.scale one.0) (all_of (IsAllowed (forms_of gs)) w.weights
            (weights_none gs w.weights two.0)) (λ c h l. (coordinates_none gs target w 1 size three c h (omega arith)).same),
        λ c h l. let a = coordinates_none gs target w 1 size three c h (omega arith) in (a.left, a.right),
      )

  pub yes_valid : IsCertificate (size + 1) (forms_of gs) (value target) w → Fits → yes_verdict gs size target w ≡ Valid
  unfolding yes_verdict
  yes_valid k f =
      ap (λ o. valid_unless (option_or o (option_or (of_weights gs w.weights) (of_coordinates gs target w 1 size)))) (none_scale w.scale k.scale_from_one)
      ∙ ap (λ o. valid_unless (option_or o (of_coordinates gs target w 1 size)))
      (none_weights gs w.weights (every_of (IsAllowed (forms_of gs)) w.weights k.allowed))
      ∙ ap valid_unless (none_coordinates gs target w 1 size (λ c h l. let b = f c h (omega arith)
      in record { left = b.0; right = b.1; same = by_coefficients gs size target w k c h (omega arith) }))
