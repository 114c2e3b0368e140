-- Sums of rows and cancelled rows: the value at every point, and the coefficient at every coordinate.
use Rattle.std.proofs.Common.{◌≡◌, ap₂, ℕ, zero, suc, ◌+◌, ◌<◌, ◌≤◌, ℤ, pos, negsuc, neg_ℤ, ◌+ℤ◌, ◌*ℤ◌, unsigned_abs, refl, sym, ap, subst, ◌∙◌, arith, [], ◌∷◌, ◌++◌, Bool, true, false, cond, nat_eq, nat_lt, if◌then◌else◌}
use Rattle.std.proofs.lemmas.Int.{ints}
use Rattle.std.proofs.lemmas.Bool.Decides.{nat_tests}
use Rattle.std.proofs.lemmas.Bool.{eqb-true, ltb-true}
use Rattle.std.proofs.Math.IntN.{+ℤ_idr}
use Rattle.it_number.proofs.Integers.{zring}
use Rattle.it_number.specs.Limit.{IsWithin}
use Rattle.it_number.proofs.SignLemmas.{size_negated, zero_by_multiple}
use Rattle.it_space.specs.Rows.{Terms, coefficient, value, Ascends, single_term, negated_terms, one_at, row_mass}
use Rattle.it_space.proofs.CanonicalRows.{Rises, ascends_rise}
use Rattle.it_space.specs.Cancelling.{times_up, times_down, with_term, row_sum, row_multiple, cancelled_row}
use Rattle.it_space.specs.Mixing.{mix}

-- ---- terms, and rows put together

pub ascends_lower : (from to : ℕ) (ts : Terms) → from ≤ to → Ascends to ts → Ascends from ts
ascends_lower from to [] h a = tt
ascends_lower from to (t ∷ ts) h a = (omega (arith, a.0), a.1, a.2, a.3)

pub value-append : (xs ys : Terms) (p : ℕ → ℤ) → value (xs ++ ys) p ≡ value xs p +ℤ value ys p
value-append [] ys p = omega (arith, ints)
value-append (x ∷ xs) ys p = omega (arith, ints, value-append xs ys p)

pub coefficient-append : (xs ys : Terms) (c : ℕ) → coefficient (xs ++ ys) c ≡ coefficient xs c +ℤ coefficient ys c
coefficient-append [] ys c = omega (arith, ints)
coefficient-append (x ∷ xs) ys c = omega (arith, ints, coefficient-append xs ys c)

pub coefficient-single_term : (c : ℕ) (x : ℤ) (d : ℕ) → coefficient (single_term c x) d ≡ cond (nat_eq c d) x (pos 0)
coefficient-single_term c (pos zero) d = by_test (nat_eq c d)
  where
    by_test : (b : Bool) → pos 0 ≡ cond b (pos 0) (pos 0)
    by_test true = refl
    by_test false = refl
coefficient-single_term c (pos (suc n)) d = +ℤ_idr (cond (nat_eq c d) (pos (suc n)) (pos 0))
coefficient-single_term c (negsuc n) d = +ℤ_idr (cond (nat_eq c d) (negsuc n) (pos 0))

pub ascends-single_term : (from c : ℕ) (x : ℤ) (ts : Terms) → from ≤ c → IsWithin x → Ascends (c + 1) ts → Ascends from (single_term c x ++ ts)
ascends-single_term from c (pos zero) ts h w a = ascends_lower from (c + 1) ts (omega arith) a
ascends-single_term from c (pos (suc n)) ts h w a = (h, (λ e. omega (arith, ints, e)), w, a)
ascends-single_term from c (negsuc n) ts h w a = (h, (λ e. omega (arith, ints, e)), w, a)

pub value-single_term : (c : ℕ) (x : ℤ) (ts : Terms) (p : ℕ → ℤ) → value (single_term c x ++ ts) p ≡ x *ℤ p c +ℤ value ts p
value-single_term c (pos zero) ts p = omega (arith, ints)
value-single_term c (pos (suc n)) ts p = refl
value-single_term c (negsuc n) ts p = refl

pub value-with_term : (c : ℕ) (x : ℤ) (ts : Terms) (p : ℕ → ℤ) → value (with_term c x ts) p ≡ x *ℤ p c +ℤ value ts p
value-with_term c (pos zero) [] p = omega (arith, ints)
value-with_term c (pos (suc n)) [] p = refl
value-with_term c (negsuc n) [] p = refl
value-with_term c x (t ∷ ts) p = by_test (nat_lt c t.0) (nat_eq c t.0) (eqb-true c t.0) (value-with_term c x ts p)
  where
    value_with_front : value (single_term c x ++ t ∷ ts) p ≡ x *ℤ p c +ℤ value (t ∷ ts) p
    value_with_front = value-single_term c x (t ∷ ts) p

    value_at_term : c ≡ t.0 → value (single_term c (x +ℤ t.1) ++ ts) p ≡ x *ℤ p c +ℤ value (t ∷ ts) p
    value_at_term e = let q : t.1 *ℤ p c ≡ t.1 *ℤ p t.0 = ap (λ n. t.1 *ℤ p n) e in value-single_term c (x +ℤ t.1) ts p ∙ omega (arith, zring, q)

    by_test : (a b : Bool) → (b ≡ true → c ≡ t.0) → value (with_term c x ts) p ≡ x *ℤ p c +ℤ value ts p
        → value (if a then single_term c x ++ t ∷ ts else if b then single_term c (x +ℤ t.1) ++ ts else t ∷ with_term c x ts) p ≡ x *ℤ p c +ℤ value (t ∷ ts) p
    by_test true b f ih = value_with_front
    by_test false true f ih = value_at_term (f refl)
    by_test false false f ih = omega (arith, ints, ih)

pub value-row_sum : (xs ys : Terms) (p : ℕ → ℤ) → value (row_sum xs ys) p ≡ value xs p +ℤ value ys p
value-row_sum [] ys p = omega (arith, ints)
value-row_sum (x ∷ xs) ys p = value-with_term x.0 x.1 (row_sum xs ys) p ∙ omega (arith, ints, value-row_sum xs ys p)

pub value-row_multiple : (a : ℕ) (ts : Terms) (p : ℕ → ℤ) → value (row_multiple a ts) p ≡ pos a *ℤ value ts p
value-row_multiple a [] p = omega (arith, ints)
value-row_multiple a (t ∷ ts) p = omega (arith, zring, value-row_multiple a ts p)

pub value-cancelled_row : (at : ℕ) (up down : Terms) (p : ℕ → ℤ) → value (cancelled_row at up down) p
    ≡ pos (times_up at up down) *ℤ value up p +ℤ pos (times_down at up down) *ℤ value down p
unfolding cancelled_row
value-cancelled_row at up down p = value-row_sum (row_multiple (times_up at up down) up) (row_multiple (times_down at up down) down) p
    ∙ omega (arith, ints, value-row_multiple (times_up at up down) up p, value-row_multiple (times_down at up down) down p)

-- the coefficient at a coordinate is the value at the map that is 1 there
pub value-one_at : (terms : Terms) (c : ℕ) → value terms (one_at c) ≡ coefficient terms c
value-one_at [] c = refl
value-one_at (t ∷ ts) c = ap₂ (λ x y. x +ℤ y) (by_test (nat_eq t.0 c)) (value-one_at ts c)
  where
    by_test : (b : Bool) → t.1 *ℤ cond b (pos 1) (pos 0) ≡ cond b t.1 (pos 0)
    by_test true = omega (arith, ints)
    by_test false = omega (arith, ints)

-- ---- the sum of the absolute values

pub mass-append : (xs ys : Terms) → row_mass (xs ++ ys) ≡ row_mass xs + row_mass ys
mass-append [] ys = let e : row_mass ys ≡ 0 + row_mass ys = omega arith in e
mass-append (x ∷ xs) ys = omega (arith, mass-append xs ys)

pub mass-negated_terms : (row : Terms) → row_mass (negated_terms row) ≡ row_mass row
mass-negated_terms [] = refl
mass-negated_terms (t ∷ ts) = ap₂ (λ (a b : ℕ). a + b) (size_negated t.1) (mass-negated_terms ts)

-- no coefficient is above it
pub coefficient-small : (row : Terms) (c : ℕ) → unsigned_abs (coefficient row c) ≤ row_mass row
coefficient-small [] c = omega arith
coefficient-small (t ∷ ts) c = by_test (nat_eq t.0 c) t.1 (coefficient ts c) (row_mass ts) (coefficient-small ts c)
  where
    by_test : (b : Bool) (x y : ℤ) (m : ℕ) → unsigned_abs y ≤ m → unsigned_abs (cond b x (pos 0) +ℤ y) ≤ unsigned_abs x + m
    by_test true x y m h = omega (arith, ints, h)
    by_test false x y m h = omega (arith, ints, h)

-- ---- negated rows

pub value-negated_terms : (row : Terms) (p : ℕ → ℤ) → value (negated_terms row) p ≡ neg_ℤ (value row p)
value-negated_terms [] p = refl
value-negated_terms (t ∷ ts) p = negation_of_sum t.1 (p t.0) (value (negated_terms ts) p) (value ts p) (value-negated_terms ts p)
  where
    negation_of_sum : (x y z s : ℤ) → z ≡ neg_ℤ s → neg_ℤ x *ℤ y +ℤ z ≡ neg_ℤ (x *ℤ y +ℤ s)
    negation_of_sum x y z s e = omega (arith, zring, e)

pub coefficient-negated_terms : (c : ℕ) (row : Terms) → coefficient (negated_terms row) c ≡ neg_ℤ (coefficient row c)
coefficient-negated_terms c row = sym (value-one_at (negated_terms row) c) ∙ value-negated_terms row (one_at c) ∙ ap neg_ℤ (value-one_at row c)

pub ascends-negated_terms : (from : ℕ) (row : Terms) → Ascends from row → Ascends from (negated_terms row)
ascends-negated_terms from [] a = tt
ascends-negated_terms from (t ∷ ts) a = (a.0, λ e. a.1 (zero_negation t.1 e), negation_within t.1 a.2, ascends-negated_terms (t.0 + 1) ts a.3)
  where
    zero_negation : (x : ℤ) → neg_ℤ x ≡ pos 0 → x ≡ pos 0
    zero_negation x e = omega (arith, ints, e)

    negation_within : (x : ℤ) → IsWithin x → IsWithin (neg_ℤ x)
    negation_within x h = omega (arith, ints, h)

-- ---- cancelled rows

pub coefficient-cancelled_row : (at : ℕ) (up down : Terms) (c : ℕ) → coefficient (cancelled_row at up down) c
    ≡ mix (times_up at up down) up (times_down at up down) down c
coefficient-cancelled_row at up down c = sym (value-one_at (cancelled_row at up down) c) ∙ value-cancelled_row at up down (one_at c)
    ∙ omega (arith, ints, ap (λ z. pos (times_up at up down) *ℤ z) (value-one_at up c), ap (λ z. pos (times_down at up down) *ℤ z) (value-one_at down c))

-- ---- ascending terms without a limit

rises_lower : (lo from : ℕ) (ts : Terms) → lo ≤ from → Rises from ts → Rises lo ts
rises_lower lo from [] h a = tt
rises_lower lo from (t ∷ ts) h a = (omega (arith, a.0), a.1, a.2)

rises-single_term : (lo c : ℕ) (x : ℤ) (ts : Terms) → lo ≤ c → Rises (c + 1) ts → Rises lo (single_term c x ++ ts)
rises-single_term lo c (pos zero) ts h a = rises_lower lo (c + 1) ts (omega arith) a
rises-single_term lo c (pos (suc n)) ts h a = (h, (λ e. omega (arith, ints, e)), a)
rises-single_term lo c (negsuc n) ts h a = (h, (λ e. omega (arith, ints, e)), a)

rises-with_term : (lo c : ℕ) (x : ℤ) (ts : Terms) → lo ≤ c → Rises lo ts → Rises lo (with_term c x ts)
rises-with_term lo c (pos zero) [] h a = tt
rises-with_term lo c (pos (suc n)) [] h a = (h, (λ e. omega (arith, ints, e)), tt)
rises-with_term lo c (negsuc n) [] h a = (h, (λ e. omega (arith, ints, e)), tt)
rises-with_term lo c x (t ∷ ts) h a = by_test (nat_lt c t.0) (nat_eq c t.0) refl refl (λ k. rises-with_term (t.0 + 1) c x ts k a.2)
  where
    is_above : (m n : ℕ) → nat_lt m n ≡ false → nat_eq m n ≡ false → n < m
    is_above m n e f = grind (arith, nat_tests)

    by_test : (p q : Bool) → nat_lt c t.0 ≡ p → nat_eq c t.0 ≡ q → (t.0 + 1 ≤ c → Rises (t.0 + 1) (with_term c x ts))
        → Rises lo (if p then single_term c x ++ t ∷ ts else if q then single_term c (x +ℤ t.1) ++ ts else t ∷ with_term c x ts)
    by_test true q e f ih = rises-single_term lo c x (t ∷ ts) h (omega (arith, ltb-true c t.0 e), a.1, a.2)
    by_test false true e f ih = rises-single_term lo c (x +ℤ t.1) ts h (subst (λ (n : ℕ). Rises (n + 1) ts) (sym (eqb-true c t.0 f)) a.2)
    by_test false false e f ih = (a.0, a.1, ih (omega (arith, is_above c t.0 e f)))

rises-row_sum : (lo : ℕ) (xs ys : Terms) → Rises lo xs → Rises lo ys → Rises lo (row_sum xs ys)
rises-row_sum lo [] ys a b = b
rises-row_sum lo (x ∷ xs) ys a b = rises-with_term lo x.0 x.1 (row_sum xs ys) a.0
    (rises-row_sum lo xs ys (rises_lower lo (x.0 + 1) xs (omega (arith, a.0)) a.2) b)

rises-row_multiple : (lo k : ℕ) (ts : Terms) → 0 < k → Rises lo ts → Rises lo (row_multiple k ts)
rises-row_multiple lo k [] h a = tt
rises-row_multiple lo k (t ∷ ts) h a = (a.0, (λ e. a.1 (zero_by_multiple k t.1 h e)), rises-row_multiple (t.0 + 1) k ts h a.2)

pub rises-cancelled_row : (at : ℕ) (up down : Terms) → 0 < times_up at up down → 0 < times_down at up down → Ascends 0 up → Ascends 0 down
    → Rises 0 (cancelled_row at up down)
unfolding cancelled_row
rises-cancelled_row at up down h k a b = rises-row_sum 0 (row_multiple (times_up at up down) up) (row_multiple (times_down at up down) down)
    (rises-row_multiple 0 (times_up at up down) up h (ascends_rise 0 up a)) (rises-row_multiple 0 (times_down at up down) down k (ascends_rise 0 down b))
