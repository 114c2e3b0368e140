-- The value of a row at points that agree where the row has a coordinate, and at sums of points.
use Rattle.std.proofs.Common.{◌≡◌, ◌⊎◌, inl, inr, ⊎_elim, ℕ, ℤ, pos, neg_ℤ, ◌+ℤ◌, ◌-ℤ◌, ◌*ℤ◌, List, [], ◌∷◌, map, Bool, true, false, cond, nat_eq, refl, ap, subst, ◌∙◌, arith}
use Rattle.std.specs.Prelude.{Contains, Result, Ok, Err, OkIff}
use Rattle.std.proofs.lemmas.Int.{ints}
use Rattle.std.proofs.lemmas.Bool.{eqb-true, eqb-false}
use Rattle.std.proofs.Math.IntN.{*ℤ-zero, zero-*ℤ}
use Rattle.it_number.proofs.Integers.{zring}
use Rattle.it_number.specs.Limit.{IsWithin}
use Rattle.it_space.specs.Rows.{Terms, FitsOnTop, ValueFits, coefficient, value}
use Rattle.it_eliminate.proofs.MemberLemmas.{Member, contains_of, member_of}
use Rattle.it_eliminate.proofs.StepLemmas.{value_apart, with_value}
use Rattle.it_hull.specs.Hulls.{UsesOnly}

-- ---- linear

pub value_linear : (k : ℤ) (row : Terms) (p q : ℕ → ℤ) → value row (λ c. k *ℤ p c +ℤ q c) ≡ k *ℤ value row p +ℤ value row q
value_linear k [] p q = omega (arith, ints, *ℤ-zero k)
value_linear k (t ∷ ts) p q =
    let more = value_linear k ts p q in
    let own : t.1 *ℤ (k *ℤ p t.0 +ℤ q t.0) ≡ k *ℤ (t.1 *ℤ p t.0) +ℤ t.1 *ℤ q t.0 = omega (arith, zring) in
    omega (arith, zring, more, own)

value_difference : (row : Terms) (p q : ℕ → ℤ) → value row (λ c. p c -ℤ q c) ≡ value row p -ℤ value row q
value_difference [] p q = refl
value_difference (t ∷ ts) p q =
    let more = value_difference ts p q in
    let own : t.1 *ℤ (p t.0 -ℤ q t.0) ≡ t.1 *ℤ p t.0 -ℤ t.1 *ℤ q t.0 = omega (arith, zring) in
    omega (arith, ints, more, own)

pub value_zero : (row : Terms) → value row (λ c. pos 0) ≡ pos 0
value_zero [] = refl
value_zero (t ∷ ts) = omega (arith, ints, value_zero ts, *ℤ-zero t.1)

-- ---- a point that is 0 wherever the row has a coordinate

abbrev Misses : Terms → (ℕ → ℤ) → Type 0
Misses row p = (c : ℕ) → (coefficient row c ≡ pos 0) ⊎ (p c ≡ pos 0)

-- the point with 0 at some coordinates
abbrev zeroed : List ℕ → (ℕ → ℤ) → ℕ → ℤ
zeroed [] p = p
zeroed (at ∷ ats) p = zeroed ats (with_value at (pos 0) p)

zero_stays : (ats : List ℕ) (p : ℕ → ℤ) (c : ℕ) → p c ≡ pos 0 → zeroed ats p c ≡ pos 0
zero_stays [] p c e = e
zero_stays (at ∷ ats) p c e = zero_stays ats (with_value at (pos 0) p) c (by_test (nat_eq c at))
  where
    by_test : (b : Bool) → cond b (pos 0) (p c) ≡ pos 0
    by_test true = refl
    by_test false = e

zero_there : (ats : List ℕ) (p : ℕ → ℤ) (c : ℕ) → Member c ats → zeroed ats p c ≡ pos 0
zero_there [] p c m = absurd m
zero_there (at ∷ ats) p c (inl e) = zero_stays ats (with_value at (pos 0) p) c (by_test (nat_eq c at) refl)
  where
    by_test : (b : Bool) → nat_eq c at ≡ b → cond b (pos 0) (p c) ≡ pos 0
    by_test true k = refl
    by_test false k = absurd (eqb-false c at k e)
zero_there (at ∷ ats) p c (inr m) = zero_there ats (with_value at (pos 0) p) c m

product_zero : (x y : ℤ) → (x ≡ pos 0) ⊎ (y ≡ pos 0) → x *ℤ y ≡ pos 0
product_zero x y (inl e) = ap (λ z. z *ℤ y) e ∙ zero-*ℤ y
product_zero x y (inr e) = ap (λ z. x *ℤ z) e ∙ *ℤ-zero x

misses_zeroed : (at : ℕ) (row : Terms) (p : ℕ → ℤ) → Misses row p → Misses row (with_value at (pos 0) p)
misses_zeroed at row p m c = by_test (nat_eq c at) (m c)
  where
    by_test : (b : Bool) → (coefficient row c ≡ pos 0) ⊎ (p c ≡ pos 0) → (coefficient row c ≡ pos 0) ⊎ (cond b (pos 0) (p c) ≡ pos 0)
    by_test true k = inr refl
    by_test false k = k

value_zeroed : (ats : List ℕ) (row : Terms) (p : ℕ → ℤ) → Misses row p → value row p ≡ value row (zeroed ats p)
value_zeroed [] row p m = refl
value_zeroed (at ∷ ats) row p m =
    let a = value_apart at row p in
    let z = product_zero (coefficient row at) (p at) (m at) in
    let later = value_zeroed ats row (with_value at (pos 0) p) (misses_zeroed at row p m) in
    omega (arith, ints, a, z, later)

value_where_zero : (ts : Terms) (p : ℕ → ℤ) → ((c : ℕ) → Member c (map (λ t. t.0) ts) → p c ≡ pos 0) → value ts p ≡ pos 0
value_where_zero [] p z = refl
value_where_zero (t ∷ ts) p z =
    let own = product_zero t.1 (p t.0) (inr (z t.0 (inl refl))) in
    let later = value_where_zero ts p (λ c m. z c (inr m)) in
    omega (arith, ints, own, later)

value_missed : (row : Terms) (p : ℕ → ℤ) → Misses row p → value row p ≡ pos 0
value_missed row p m = let ats : List ℕ = map (λ t. t.0) row in value_zeroed ats row p m ∙ value_where_zero row (zeroed ats p) (λ c k. zero_there ats p c k)

-- ---- points that agree there

pub value_agrees : (row : Terms) (p q : ℕ → ℤ) → ((c : ℕ) → (coefficient row c ≡ pos 0) ⊎ (p c ≡ q c)) → value row p ≡ value row q
value_agrees row p q f =
    let missed = value_missed row (λ c. p c -ℤ q c) (λ c. ⊎_elim (λ e. inl e) (λ e. inr (omega (arith, ints, e))) (f c)) in
    omega (arith, ints, missed, value_difference row p q)

-- ---- kept coordinates

member_or : (c : ℕ) (cs : List ℕ) → Member c cs ⊎ ¬ (Member c cs)
member_or c [] = inr (λ m. m)
member_or c (d ∷ cs) = by_test (nat_eq c d) refl (member_or c cs)
  where
    by_test : (b : Bool) → nat_eq c d ≡ b → Member c cs ⊎ ¬ (Member c cs) → Member c (d ∷ cs) ⊎ ¬ (Member c (d ∷ cs))
    by_test true e m = inl (inl (eqb-true c d e))
    by_test false e (inl m) = inl (inr m)
    by_test false e (inr n) = inr (λ m. ⊎_elim (λ k. eqb-false c d e k) n m)

contains_or : (cs : List ℕ) (c : ℕ) → Contains cs c ⊎ ¬ (Contains cs c)
contains_or cs c = ⊎_elim (λ m. inl (contains_of cs c m)) (λ n. inr (λ k. n (member_of cs c k))) (member_or c cs)

-- at points that agree at kept coordinates a row that uses only these has one value
pub value_by_kept : (kept : List ℕ) (row : Terms) (p q : ℕ → ℤ) → UsesOnly kept row → ((c : ℕ) → Contains kept c → p c ≡ q c) → value row p ≡ value row q
value_by_kept kept row p q only f = value_agrees row p q (λ c. ⊎_elim (λ m. inr (f c m)) (λ n. inl (only c n)) (contains_or kept c))

-- at a sum there
pub value_sum : (kept : List ℕ) (w : ℤ) (row : Terms) (q r y : ℕ → ℤ) → UsesOnly kept row
    → ((c : ℕ) → Contains kept c → q c ≡ w *ℤ r c +ℤ y c) → value row q ≡ w *ℤ value row r +ℤ value row y
value_sum kept w row q r y only f = value_by_kept kept row q (λ c. w *ℤ r c +ℤ y c) only f ∙ value_linear w row r y

-- and at a multiple
pub value_scaled : (kept : List ℕ) (k : ℤ) (row : Terms) (q x : ℕ → ℤ) → UsesOnly kept row → ((c : ℕ) → Contains kept c → q c ≡ k *ℤ x c)
    → value row q ≡ k *ℤ value row x
value_scaled kept k row q x only f =
    let sum = value_sum kept k row q x (λ c. pos 0) only (λ c m. omega (arith, ints, f c m)) in
    omega (arith, ints, sum, value_zero row)

-- ---- within the limit

value_on_top : (sum : ℤ) (ts : Terms) (p : ℕ → ℤ) → IsWithin sum → FitsOnTop sum ts p → IsWithin (sum +ℤ value ts p)
value_on_top sum [] p w f = subst IsWithin (let e : sum ≡ sum +ℤ pos 0 = omega (arith, ints) in e) w
value_on_top sum (t ∷ ts) p w f = subst IsWithin (let e : (sum +ℤ t.1 *ℤ p t.0) +ℤ value ts p
    ≡ sum +ℤ (t.1 *ℤ p t.0 +ℤ value ts p) = omega (arith, ints) in e) (value_on_top (sum +ℤ t.1 *ℤ p t.0) ts p f.1 f.2)

pub value_within : (ts : Terms) (p : ℕ → ℤ) → ValueFits ts p → IsWithin (value ts p)
value_within ts p f = subst IsWithin (let e : pos 0 +ℤ value ts p ≡ value ts p = omega (arith, ints) in e) (value_on_top (pos 0) ts p (omega (arith, ints)) f)

pub negated_fits : {W : Type 0} (v x : ℤ) (Fits : Type 0) (r : Result ℤ W) → x ≡ v → Fits → IsWithin v
    → OkIff r (IsWithin (pos 0 -ℤ x)) (pos 0 -ℤ x) → OkIff r Fits (neg_ℤ v)
negated_fits v x Fits (Ok y) is f w k = (f, k.1 ∙ (omega (arith, ints, is)))
negated_fits v x Fits (Err e) is f w k = λ g. k (omega (arith, ints, is, w))
