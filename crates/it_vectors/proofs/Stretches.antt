-- Stretches of 8 places outside of which a row is 0.
use Rattle.std.proofs.Common.{Bool, true, false, ◌≡◌, ◌⊎◌, inl, inr, ℕ, zero, suc, ◌+◌, ◌<◌, ◌≤◌, ℤ, pos, ◌+ℤ◌, ◌*ℤ◌, neg_ℤ, List, [], ◌∷◌, ◌++◌, length, slice_index_or, refl, sym, ap, subst, ◌∙◌, arith, ◌-◌}
use Rattle.std.specs.Bool.{OnTrue}
use Rattle.std.proofs.lemmas.Bool.{cases_eq, cases_lt}
use Rattle.std.proofs.lemmas.List.{get_or_append_left, get_or_push, length-append}
use Rattle.it_space.specs.Sums.{number_at}
use Rattle.it_vectors.specs.Stretches.{AreStretches, end_of_stretches}
use Rattle.it_vectors.specs.StretchesUpTo.{AreStretchesUpTo}
use Rattle.it_vectors.specs.Places.{IsNextPlace}
use Rattle.it_vectors.proofs.Places.{next_here, nulls_are_passed}

-- zeros after zeros
next_after_next : (row : List ℤ) (from mid to : ℕ) → IsNextPlace row from mid → IsNextPlace row mid to → IsNextPlace row from to
next_after_next row from mid to m n = record { after = omega (arith, m.after, n.after); within = n.within; nulls = λ k h l. by_cases k h l (cases_lt k mid) }
  where
    by_cases : (k : ℕ) → from ≤ k → k < to → (k < mid) ⊎ (mid ≤ k) → number_at row k ≡ pos 0
    by_cases k h l (inl a) = m.nulls k h a
    by_cases k h l (inr b) = n.nulls k b l

length_with_one_more : (starts : List ℕ) (k : ℕ) → length (starts ++ k ∷ []) ≡ suc (length starts)
length_with_one_more starts k = omega (arith, length-append starts (k ∷ []))

-- the earlier stretches end where they did
ends_stay : (starts : List ℕ) (k j : ℕ) → j ≤ length starts → end_of_stretches (starts ++ k ∷ []) j ≡ end_of_stretches starts j
ends_stay starts k zero h = refl
ends_stay starts k (suc j) h = ap (λ s. s + 8) (get_or_append_left starts (k ∷ []) 0 j (omega (arith, h)))

-- at first there are none
pub no_stretches : (row : List ℤ) → AreStretchesUpTo row [] 0
no_stretches row = record { each = λ j l. absurd (omega (arith, l)); last = next_here row 0 (omega arith) }

-- places where the row is 0
pub stretches_and_nulls : (row : List ℤ) (starts : List ℕ) (k to : ℕ) → AreStretchesUpTo row starts k → IsNextPlace row k to → AreStretchesUpTo row starts to
stretches_and_nulls row starts k to r n = record { each = r.each; last = next_after_next row (end_of_stretches starts (length starts)) k to r.last n }

-- the last place is noted
pub stretches_and_rest : (row : List ℤ) (starts : List ℕ) (k : ℕ) → AreStretchesUpTo row starts k → AreStretches row (starts ++ k ∷ [])
stretches_and_rest row starts k r = record { some = omega (arith, length_with_one_more starts k); each = λ j l. by_cases j l (cases_eq j (length starts)) }
  where
    IsNoted : ℕ → Type 0
    IsNoted j = IsNextPlace row (end_of_stretches (starts ++ k ∷ []) j) (slice_index_or (starts ++ k ∷ []) j 0)

    by_cases : (j : ℕ) → j < length (starts ++ k ∷ []) → (j ≡ length starts) ⊎ (j ≡ length starts → ⊥) → IsNoted j
    by_cases j l (inl e) = subst IsNoted (sym e)
        (subst (IsNextPlace row (end_of_stretches (starts ++ k ∷ []) (length starts))) (sym (get_or_push starts k 0 (length starts) refl))
        (subst (λ (s : ℕ). IsNextPlace row s k) (sym (ends_stay starts k (length starts) (omega arith))) r.last))
    by_cases j l (inr d) =
        let h : j < length starts = omega (arith, l, d, length_with_one_more starts k) in
        subst (IsNextPlace row (end_of_stretches (starts ++ k ∷ []) j)) (sym (get_or_append_left starts (k ∷ []) 0 j h))
        (subst (λ (s : ℕ). IsNextPlace row s (slice_index_or starts j 0)) (sym (ends_stay starts k j (omega (arith, h)))) (r.each j h))

-- a further stretch
pub stretches_and_stretch : (row : List ℤ) (starts : List ℕ) (k : ℕ) → k + 8 ≤ length row → AreStretchesUpTo row starts k
    → AreStretchesUpTo row (starts ++ k ∷ []) (k + 8)
stretches_and_stretch row starts k h r = record {
  each = (stretches_and_rest row starts k r).each;
  last = subst (λ (n : ℕ). IsNextPlace row (end_of_stretches (starts ++ k ∷ []) n) (k + 8)) (sym (length_with_one_more starts k))
      (subst (λ (s : ℕ). IsNextPlace row (s + 8) (k + 8)) (sym (get_or_push starts k 0 (length starts) refl)) (next_here row (k + 8) h));
}

-- where a further place is noted
pub stretch_is_noted : (b : Bool) (row : List ℤ) (starts new : List ℕ) (k : ℕ) → k + 8 ≤ length row → AreStretchesUpTo row starts k
    → OnTrue b (new ≡ starts ++ k ∷ []) → OnTrue b (AreStretchesUpTo row new (k + 8))
stretch_is_noted true row starts new k h r e = subst (λ (s : List ℕ). AreStretchesUpTo row s (k + 8)) (sym e) (stretches_and_stretch row starts k h r)
stretch_is_noted false row starts new k h r e = record {}

pub rest_is_noted : (b : Bool) (row : List ℤ) (starts new : List ℕ) (k to : ℕ) → AreStretchesUpTo row starts k → IsNextPlace row k to
    → OnTrue b (new ≡ starts ++ to ∷ []) → OnTrue b (AreStretches row new)
rest_is_noted true row starts new k to r n e = subst (AreStretches row) (sym e) (stretches_and_rest row starts to (stretches_and_nulls row starts k to r n))
rest_is_noted false row starts new k to r n e = record {}

pub next_stretch : (row : List ℤ) (starts : List ℕ) (j : ℕ) → AreStretches row starts → j + 1 < length starts
    → IsNextPlace row (slice_index_or starts j 0 + 8) (slice_index_or starts (j + 1) 0)
next_stretch row starts j r h = subst (λ (i : ℕ). IsNextPlace row (end_of_stretches starts i) (slice_index_or starts (j + 1) 0)) one_more (r.each (j + 1) h)
  where
    one_more : j + 1 ≡ suc j
    one_more = omega arith

-- a row less another times b, of which a part was done, is done up to the end of one more part
module _ (now old by new : List ℤ) (b : ℤ) (from to : ℕ)
    (done : (k : ℕ) → k < from → number_at now k ≡ number_at old k +ℤ neg_ℤ (number_at by k *ℤ b))
    (rest : (k : ℕ) → from ≤ k → number_at now k ≡ number_at old k)
    (before : (k : ℕ) → k < from → number_at new k ≡ number_at now k)
    (part : (k : ℕ) → from ≤ k → k < to → number_at new k ≡ number_at now k +ℤ neg_ℤ (number_at by k *ℤ b)) where
  pub part_is_done : (k : ℕ) → k < to → number_at new k ≡ number_at old k +ℤ neg_ℤ (number_at by k *ℤ b)
  part_is_done k l = by_cases (cases_lt k from)
    where
      by_cases : (k < from) ⊎ (from ≤ k) → number_at new k ≡ number_at old k +ℤ neg_ℤ (number_at by k *ℤ b)
      by_cases (inl h) = before k h ∙ done k h
      by_cases (inr h) = part k h l ∙ ap (λ z. z +ℤ neg_ℤ (number_at by k *ℤ b)) (rest k h)

  module _ (next : ℕ) (order : from ≤ to) (n : IsNextPlace by to next) (after : (k : ℕ) → to ≤ k → number_at new k ≡ number_at now k) where
    pub rest_stays : (k : ℕ) → next ≤ k → number_at new k ≡ number_at old k
    rest_stays k h = after k (omega (arith, h, n.after)) ∙ rest k (omega (arith, h, n.after, order))

    pub stretch_is_done : (k : ℕ) → k < next → number_at new k ≡ number_at old k +ℤ neg_ℤ (number_at by k *ℤ b)
    stretch_is_done = nulls_are_passed new old by b to next n part_is_done (λ k h. after k h ∙ rest k (omega (arith, h, order)))

-- what holds at the places of a stretch, counted from its first, holds at the places themselves
pub at_places : (P : ℕ → Type 0) (from : ℕ) → ((j : ℕ) → j < 8 → P (from + j)) → (k : ℕ) → from ≤ k → k < from + 8 → P k
at_places P from h k l m = subst P place_is (h (k - from) (omega (arith, l, m)))
  where
    place_is : from + (k - from) ≡ k
    place_is = omega (arith, l)
