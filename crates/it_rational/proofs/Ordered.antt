-- Laws of ordered fields.
use Rattle.std.proofs.Common.{◌≡◌, ◌≢◌, ◌⊎◌, inl, inr, [], ◌∷◌, refl, sym, ap, subst, ◌∙◌}
use Rattle.std.proofs.lemmas.Bool.{false≢true, cases_Bool}
use Rattle.it_number.proofs.Ring.{ring, neg-null, neg-neg, v, plus, times, minus, nil, one}
use Rattle.it_rational.specs.OrderedFields.{OrderedField, IsAtLeastZero, IsBelowZero, IsAboveZero}

module _ {A : Type 0} (F : OrderedField A) where
  pub not_both : (a : A) → IsBelowZero F a → IsAtLeastZero F a → ⊥
  not_both a h k = false≢true (sym h ∙ k)

  pub null-least : IsAtLeastZero F F.ring.null
  null-least = by_cases (F.order.total F.ring.null)
    where
      by_cases : (IsAtLeastZero F F.ring.null) ⊎ (IsAtLeastZero F (F.ring.neg F.ring.null)) → IsAtLeastZero F F.ring.null
      by_cases (inl h) = h
      by_cases (inr h) = subst (IsAtLeastZero F) (neg-null F.ring) h

  pub unit-least : IsAtLeastZero F F.ring.unit
  unit-least = by_cases (F.order.total F.ring.unit)
    where
      by_cases : (IsAtLeastZero F F.ring.unit) ⊎ (IsAtLeastZero F (F.ring.neg F.ring.unit)) → IsAtLeastZero F F.ring.unit
      by_cases (inl h) = h
      by_cases (inr h) = subst (IsAtLeastZero F) (ring F.ring [] (times (minus one) (minus one)) one refl)
          (F.order.mul-least (F.ring.neg F.ring.unit) (F.ring.neg F.ring.unit) h h)

  -- what is below 0 has a negation of at least 0
  pub below-neg : (a : A) → IsBelowZero F a → IsAtLeastZero F (F.ring.neg a)
  below-neg a h = by_cases (F.order.total a)
    where
      by_cases : (IsAtLeastZero F a) ⊎ (IsAtLeastZero F (F.ring.neg a)) → IsAtLeastZero F (F.ring.neg a)
      by_cases (inl k) = absurd (not_both a h k)
      by_cases (inr k) = k

  pub neg-above : (a : A) → IsBelowZero F a → IsAboveZero F (F.ring.neg a)
  neg-above a h = ap F.order.is_least (neg-neg F.ring a) ∙ h

  pub above-least : (a : A) → IsAboveZero F a → IsAtLeastZero F a
  above-least a h = subst (IsAtLeastZero F) (neg-neg F.ring a) (below-neg (F.ring.neg a) h)

  pub above-apart : (a : A) → IsAboveZero F a → a ≢ F.ring.null
  above-apart a h e = not_both (F.ring.neg a) h (subst (IsAtLeastZero F) (sym (ap F.ring.neg e ∙ neg-null F.ring)) null-least)

  pub below-apart : (a : A) → IsBelowZero F a → a ≢ F.ring.null
  below-apart a h e = not_both a h (subst (IsAtLeastZero F) (sym e) null-least)

  -- at least 0, and not 0
  pub above-from : (a : A) → IsAtLeastZero F a → a ≢ F.ring.null → IsAboveZero F a
  above-from a h n = by_cases (cases_Bool (F.order.is_least (F.ring.neg a)))
    where
      by_cases : (IsAtLeastZero F (F.ring.neg a)) ⊎ (IsAboveZero F a) → IsAboveZero F a
      by_cases (inl k) = absurd (n (F.order.strict a h k))
      by_cases (inr k) = k

  -- at most 0, and not 0
  pub below-from : (a : A) → IsAtLeastZero F (F.ring.neg a) → a ≢ F.ring.null → IsBelowZero F a
  below-from a h n = by_cases (cases_Bool (F.order.is_least a))
    where
      by_cases : (IsAtLeastZero F a) ⊎ (IsBelowZero F a) → IsBelowZero F a
      by_cases (inl k) = absurd (n (F.order.strict a k h))
      by_cases (inr k) = k

  pub inv-above : (a : A) → IsAboveZero F a → F.ring.mul a (F.order.inv a) ≡ F.ring.unit
  inv-above a h = F.order.mul-inv a (above-apart a h)

  pub inv-least : (a : A) → IsAboveZero F a → IsAtLeastZero F (F.order.inv a)
  inv-least a h = by_cases (F.order.total (F.order.inv a))
    where
      by_cases : (IsAtLeastZero F (F.order.inv a)) ⊎ (IsAtLeastZero F (F.ring.neg (F.order.inv a))) → IsAtLeastZero F (F.order.inv a)
      by_cases (inl k) = k
      by_cases (inr k) = absurd (F.order.apart (F.order.strict F.ring.unit unit-least
          (subst (IsAtLeastZero F) (ring F.ring (a ∷ F.order.inv a ∷ []) (times (v 0) (minus (v 1))) (minus (times (v 0) (v 1))) refl
          ∙ ap F.ring.neg (inv-above a h))
          (F.order.mul-least a (F.ring.neg (F.order.inv a)) (above-least a h) k))))

  -- a sum of what is at least 0 and what is above 0
  pub add-above : (a b : A) → IsAtLeastZero F a → IsAboveZero F b → IsAboveZero F (F.ring.add a b)
  add-above a b h k = above-from (F.ring.add a b) (F.order.add-least a b h (above-least b k))
      (λ e. not_both (F.ring.neg b) k (subst (IsAtLeastZero F) (ring F.ring (a ∷ b ∷ []) (v 0) (plus (plus (v 0) (v 1)) (minus (v 1))) refl
      ∙ ap (λ z. F.ring.add z (F.ring.neg b)) e ∙ F.ring.null-add (F.ring.neg b)) h))

  -- a product of two numbers above 0
  pub mul-above : (a b : A) → IsAboveZero F a → IsAboveZero F b → IsAboveZero F (F.ring.mul a b)
  mul-above a b h k = above-from (F.ring.mul a b) (F.order.mul-least a b (above-least a h) (above-least b k))
      (λ e. above-apart a h (ring F.ring (a ∷ []) (v 0) (times (v 0) one) refl ∙ ap (F.ring.mul a) (sym (inv-above b k))
      ∙ ring F.ring (a ∷ b ∷ F.order.inv b ∷ []) (times (v 0) (times (v 1) (v 2))) (times (times (v 0) (v 1)) (v 2)) refl
      ∙ ap (λ z. F.ring.mul z (F.order.inv b)) e ∙ ring F.ring (F.order.inv b ∷ []) (times nil (v 0)) nil refl))
