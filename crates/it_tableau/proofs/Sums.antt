-- Finite sums: equal terms, sums of sums, one term changed, and over an ordered field their signs.
use Rattle.std.proofs.Common.{◌≡◌, ℕ, zero, suc, ◌<◌, Bool, true, false, cond, eqb, [], ◌∷◌, refl, sym, ap, ap₂, ◌∙◌, ◌⊎◌, inl, inr, arith}
use Rattle.std.proofs.lemmas.Bool.{eq-eqb, ne_eqb, eqb-true, cases_eq}
use Rattle.it_number.proofs.Ring.{ring, mul-null, v, plus, times, minus, nil}
use Rattle.it_number.specs.Rings.{Ring}
use Rattle.it_rational.proofs.Ordered.{null-least, not_both}
use Rattle.it_rational.specs.OrderedFields.{OrderedField, IsAtLeastZero, IsBelowZero}
use Rattle.it_tableau.specs.FieldOperations.{sum_to}
use native.Mathlib.Nat.{eq-or-lt_of_le, le_of_suc-le-suc}

pub eqb_comm : (a b : ℕ) → eqb a b ≡ eqb b a
eqb_comm a b = by_cases (cases_eq a b)
  where
    by_cases : (a ≡ b) ⊎ (a ≡ b → ⊥) → eqb a b ≡ eqb b a
    by_cases (inl e) = eq-eqb a b e ∙ sym (eq-eqb b a (sym e))
    by_cases (inr n) = ne_eqb a b n ∙ sym (ne_eqb b a (λ e. n (sym e)))

module _ {A : Type 0} (R : Ring A) where
  pub sum_same : (n : ℕ) (f g : ℕ → A) → ((k : ℕ) → k < n → f k ≡ g k) → sum_to R n f ≡ sum_to R n g
  sum_same zero f g h = refl
  sum_same (suc n) f g h = ap₂ R.add (h n (omega arith)) (sum_same n f g (λ k l. h k (omega arith)))

  pub sum_null : (n : ℕ) → sum_to R n (λ k. R.null) ≡ R.null
  sum_null zero = refl
  sum_null (suc n) = R.null-add (sum_to R n (λ k. R.null)) ∙ sum_null n

  pub sum_add : (n : ℕ) (f g : ℕ → A) → sum_to R n (λ k. R.add (f k) (g k)) ≡ R.add (sum_to R n f) (sum_to R n g)
  sum_add zero f g = sym (R.null-add R.null)
  sum_add (suc n) f g = ap (R.add (R.add (f n) (g n))) (sum_add n f g)
      ∙ ring R (f n ∷ g n ∷ sum_to R n f ∷ sum_to R n g ∷ []) (plus (plus (v 0) (v 1)) (plus (v 2) (v 3))) (plus (plus (v 0) (v 2)) (plus (v 1) (v 3))) refl

  pub sum_times : (n : ℕ) (f : ℕ → A) (q : A) → sum_to R n (λ k. R.mul (f k) q) ≡ R.mul (sum_to R n f) q
  sum_times zero f q = sym (R.mul_comm R.null q ∙ mul-null R q)
  sum_times (suc n) f q = ap (R.add (R.mul (f n) q)) (sum_times n f q)
      ∙ ring R (f n ∷ q ∷ sum_to R n f ∷ []) (plus (times (v 0) (v 1)) (times (v 2) (v 1))) (times (plus (v 0) (v 2)) (v 1)) refl

  pub sum_times_left : (n : ℕ) (f : ℕ → A) (q : A) → sum_to R n (λ k. R.mul q (f k)) ≡ R.mul q (sum_to R n f)
  sum_times_left n f q = sum_same n (λ k. R.mul q (f k)) (λ k. R.mul (f k) q) (λ k l. R.mul_comm q (f k)) ∙ sum_times n f q ∙ R.mul_comm (sum_to R n f) q

  pub sum_swap : (n k : ℕ) (f : ℕ → ℕ → A) → sum_to R n (λ i. sum_to R k (λ j. f i j)) ≡ sum_to R k (λ j. sum_to R n (λ i. f i j))
  sum_swap zero k f = sym (sum_null k)
  sum_swap (suc n) k f = ap (R.add (sum_to R k (λ j. f n j))) (sum_swap n k f) ∙ sym (sum_add k (λ j. f n j) (λ j. sum_to R n (λ i. f i j)))

  -- a sum with one term changed
  pub sum_changed : (n : ℕ) (f : ℕ → A) (r : ℕ) (x : A) → r < n → sum_to R n (λ i. cond (eqb i r) x (f i)) ≡ R.add (sum_to R n f) (R.add x (R.neg (f r)))
  sum_changed zero f r x h = absurd (omega arith)
  sum_changed (suc n) f r x h = by_cases (eq-or-lt_of_le (le_of_suc-le-suc h)) (λ l. sum_changed n f r x l)
    where
      by_cases : (r ≡ n) ⊎ (r < n) → (r < n → sum_to R n (λ i. cond (eqb i r) x (f i)) ≡ R.add (sum_to R n f) (R.add x (R.neg (f r))))
          → sum_to R (suc n) (λ i. cond (eqb i r) x (f i)) ≡ R.add (sum_to R (suc n) f) (R.add x (R.neg (f r)))
      by_cases (inl e) ih =
          ap₂ (λ b y. R.add (cond b x (f n)) y) (eq-eqb n r (sym e))
          (sum_same n (λ i. cond (eqb i r) x (f i)) f (λ k l. ap (λ b. cond b x (f k)) (ne_eqb k r (omega arith))))
          ∙ ring R (x ∷ f n ∷ sum_to R n f ∷ []) (plus (v 0) (v 2)) (plus (plus (v 1) (v 2)) (plus (v 0) (minus (v 1)))) refl
          ∙ ap (λ m. R.add (R.add (f n) (sum_to R n f)) (R.add x (R.neg (f m)))) (sym e)
      by_cases (inr l) ih =
          ap₂ (λ b y. R.add (cond b x (f n)) y) (ne_eqb n r (omega arith)) (ih l)
          ∙ ring R (x ∷ f n ∷ sum_to R n f ∷ f r ∷ []) (plus (v 1) (plus (v 2) (plus (v 0) (minus (v 3)))))
          (plus (plus (v 1) (v 2)) (plus (v 0) (minus (v 3)))) refl

  -- a sum of one term alone
  pub sum_one : (n : ℕ) (f : ℕ → A) (k : ℕ) → k < n → sum_to R n (λ i. cond (eqb i k) (f i) R.null) ≡ f k
  sum_one n f k h =
      sum_same n (λ i. cond (eqb i k) (f i) R.null) (λ i. cond (eqb i k) (f k) R.null) (λ i l. for_each i (eqb i k) (eqb-true i k))
      ∙ sum_changed n (λ i. R.null) k (f k) h
      ∙ ap (λ z. R.add z (R.add (f k) (R.neg R.null))) (sum_null n)
      ∙ ring R (f k ∷ []) (plus nil (plus (v 0) (minus nil))) (v 0) refl
    where
      for_each : (i : ℕ) (b : Bool) → (b ≡ true → i ≡ k) → cond b (f i) R.null ≡ cond b (f k) R.null
      for_each i true e = ap f (e refl)
      for_each i false e = refl

  pub sum_unit : (m : ℕ) (f : ℕ → A) (k : ℕ) → k < m → sum_to R m (λ i. R.mul (f i) (cond (eqb i k) R.unit R.null)) ≡ f k
  sum_unit m f k h = sum_same m (λ i. R.mul (f i) (cond (eqb i k) R.unit R.null)) (λ i. cond (eqb i k) (f i) R.null)
      (λ i l. for_each i (eqb i k)) ∙ sum_one m f k h
    where
      for_each : (i : ℕ) (b : Bool) → R.mul (f i) (cond b R.unit R.null) ≡ cond b (f i) R.null
      for_each i true = R.mul_comm (f i) R.unit ∙ R.unit-mul (f i)
      for_each i false = mul-null R (f i)

module _ {A : Type 0} (F : OrderedField A) where
  -- a sum of terms of at least 0 is at least 0
  pub sum_least : (n : ℕ) (f : ℕ → A) → ((k : ℕ) → k < n → IsAtLeastZero F (f k)) → IsAtLeastZero F (sum_to F.ring n f)
  sum_least zero f h = null-least F
  sum_least (suc n) f h = F.order.add-least (f n) (sum_to F.ring n f) (h n (omega arith)) (sum_least n f (λ k l. h k (omega arith)))

  -- where terms of at least 0 sum to 0, each is 0
  pub all_null : (n : ℕ) (f : ℕ → A) → ((k : ℕ) → k < n → IsAtLeastZero F (f k)) → sum_to F.ring n f ≡ F.ring.null → (k : ℕ) → k < n → f k ≡ F.ring.null
  all_null zero f h e k l = absurd (omega arith)
  all_null (suc n) f h e k l = by_cases (eq-or-lt_of_le (le_of_suc-le-suc l))
      (all_null n f (λ k l. h k (omega arith)) (sum_is_null (f n) (sum_to F.ring n f) last_null e) k)
    where
      second_is_negation : (a b : A) → F.ring.add a b ≡ F.ring.null → b ≡ F.ring.neg a
      second_is_negation a b e = ring F.ring (a ∷ b ∷ []) (v 1) (plus (plus (v 0) (v 1)) (minus (v 0))) refl
          ∙ ap (λ z. F.ring.add z (F.ring.neg a)) e ∙ F.ring.null-add (F.ring.neg a)

      last_null : f n ≡ F.ring.null
      last_null = F.order.strict (f n) (h n (omega arith)) (rw (← second_is_negation (f n) (sum_to F.ring n f) e) (sum_least n f (λ k l. h k (omega arith))))

      sum_is_null : (a b : A) → a ≡ F.ring.null → F.ring.add a b ≡ F.ring.null → b ≡ F.ring.null
      sum_is_null a b h e = sym (F.ring.null-add b) ∙ ap (λ z. F.ring.add z b) (sym h) ∙ e

      by_cases : (k ≡ n) ⊎ (k < n) → (k < n → f k ≡ F.ring.null) → f k ≡ F.ring.null
      by_cases (inl e) g = ap f e ∙ last_null
      by_cases (inr l) g = g l

  -- a sum below 0 has a term below 0
  pub some_below : (n : ℕ) (f : ℕ → A) → IsBelowZero F (sum_to F.ring n f) → (k : ℕ) × (k < n) × IsBelowZero F (f k)
  some_below zero f h = absurd (not_both F F.ring.null h (null-least F))
  some_below (suc n) f h = by_test (F.order.is_least (f n)) (F.order.is_least (sum_to F.ring n f)) refl refl (λ b. some_below n f b)
    where
      by_test : (a b : Bool) → F.order.is_least (f n) ≡ a → F.order.is_least (sum_to F.ring n f) ≡ b
          → (IsBelowZero F (sum_to F.ring n f) → (k : ℕ) × (k < n) × IsBelowZero F (f k)) → (k : ℕ) × (k < suc n) × IsBelowZero F (f k)
      by_test false b e d g = (n, omega arith, e)
      by_test true false e d g = let p = g d in (p.0, omega (arith, p.1), p.2)
      by_test true true e d g = absurd (not_both F (sum_to F.ring (suc n) f) h (F.order.add-least (f n) (sum_to F.ring n f) e d))
