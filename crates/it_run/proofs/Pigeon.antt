-- More numbers than there are below a bound repeat; lists of digits as numbers
use Rattle.std.proofs.Common.{◌≡◌, ◌≢◌, ℕ, zero, suc, ◌+◌, ◌-◌, ◌*◌, ◌^◌, ◌<◌, ◌≤◌, Bool, cond, ltb, sym, ap, subst, ◌∙◌, ◌⊎◌, inl, inr, arith}
use Rattle.std.proofs.lemmas.Bool.{cases_eq, cases_lt, lt-ltb, le-ltb}
use native.Mathlib.Nat.{eq-or-lt_of_le, le_of_suc-le-suc, pow-zero, pow-succ'}

-- a number below a bound at which f is v, or none
value_is_taken : (f : ℕ → ℕ) (v N : ℕ) → ((k : ℕ) × (k < N) × (f k ≡ v)) ⊎ ((k : ℕ) → k < N → f k ≢ v)
value_is_taken f v zero = inr (λ k l. absurd (omega arith))
value_is_taken f v (suc N) = by_cases (cases_eq (f N) v) (value_is_taken f v N)
  where
    by_cases : (f N ≡ v) ⊎ (f N ≡ v → ⊥) → ((k : ℕ) × (k < N) × (f k ≡ v)) ⊎ ((k : ℕ) → k < N → f k ≢ v)
        → ((k : ℕ) × (k < suc N) × (f k ≡ v)) ⊎ ((k : ℕ) → k < suc N → f k ≢ v)
    by_cases (inl e) _ = inl (N, omega arith, e)
    by_cases (inr d) (inl s) = inl (s.0, omega (arith, s.1), s.2)
    by_cases (inr d) (inr s) = inr (λ k l. by_index k (eq-or-lt_of_le (le_of_suc-le-suc l)))
      where
        by_index : (k : ℕ) → (k ≡ N) ⊎ (k < N) → f k ≢ v
        by_index k (inl e) = λ q. d (ap f (sym e) ∙ q)
        by_index k (inr l) = s k l

-- x with the numbers above v moved down by one
abbrev closed_up : ℕ → ℕ → ℕ
closed_up v x = cond (ltb x v) x (x - 1)

closed_below : (v x N : ℕ) → x < suc N → v < suc N → x ≢ v → closed_up v x < N
closed_below v x N h k d = by_cases (cases_lt x v)
  where
    by_cases : (x < v) ⊎ (v ≤ x) → closed_up v x < N
    by_cases (inl l) = subst (λ (b : Bool). cond b x (x - 1) < N) (sym (lt-ltb x v l)) (omega arith)
    by_cases (inr l) = subst (λ (b : Bool). cond b x (x - 1) < N) (sym (le-ltb x v l)) (omega arith)

closed_same : (v x y : ℕ) → x ≢ v → y ≢ v → closed_up v x ≡ closed_up v y → x ≡ y
closed_same v x y d e q = by_cases (cases_lt x v) (cases_lt y v)
  where
    by_cases : (x < v) ⊎ (v ≤ x) → (y < v) ⊎ (v ≤ y) → x ≡ y
    by_cases (inl l) (inl k) = ap (λ b. cond b x (x - 1)) (sym (lt-ltb x v l)) ∙ q ∙ ap (λ b. cond b y (y - 1)) (lt-ltb y v k)
    by_cases (inl l) (inr k) = let z : x ≡ y - 1 = ap (λ b. cond b x (x - 1)) (sym (lt-ltb x v l)) ∙ q
        ∙ ap (λ b. cond b y (y - 1)) (le-ltb y v k) in absurd (omega arith)
    by_cases (inr l) (inl k) = let z : x - 1 ≡ y = ap (λ b. cond b x (x - 1)) (sym (le-ltb x v l)) ∙ q
        ∙ ap (λ b. cond b y (y - 1)) (lt-ltb y v k) in absurd (omega arith)
    by_cases (inr l) (inr k) = let z : x - 1 ≡ y - 1 = ap (λ b. cond b x (x - 1)) (sym (le-ltb x v l)) ∙ q
        ∙ ap (λ b. cond b y (y - 1)) (le-ltb y v k) in omega arith

pub pigeonhole : (N : ℕ) (f : ℕ → ℕ) → ((k : ℕ) → k ≤ N → f k < N) → (a b : ℕ) × (a < b) × (b ≤ N) × (f a ≡ f b)
pigeonhole zero f h = absurd (let l : f 0 < 0 = h 0 (omega arith) in omega arith)
pigeonhole (suc N) f h = by_cases (value_is_taken f (f (suc N)) (suc N)) (λ g. pigeonhole N (λ k. closed_up (f (suc N)) (f k)) g)
  where
    by_cases : ((k : ℕ) × (k < suc N) × (f k ≡ f (suc N))) ⊎ ((k : ℕ) → k < suc N → f k ≢ f (suc N))
        → (((k : ℕ) → k ≤ N → closed_up (f (suc N)) (f k) < N) → (a b : ℕ) × (a < b) × (b ≤ N) × (closed_up (f (suc N)) (f a) ≡ closed_up (f (suc N)) (f b)))
        → (a b : ℕ) × (a < b) × (b ≤ suc N) × (f a ≡ f b)
    by_cases (inl s) ih = (s.0, suc N, s.1, omega arith, s.2)
    by_cases (inr d) ih =
        let s = ih (λ k l. closed_below (f (suc N)) (f k) N (h k (omega arith)) (h (suc N) (omega arith)) (d k (omega arith))) in
        (s.0, s.1, s.2, omega (arith, s.3), closed_same (f (suc N)) (f s.0) (f s.1) (d s.0 (omega (arith, s.2, s.3))) (d s.1 (omega (arith, s.3))) s.4)

-- digits to the base C, the first the lowest
abbrev pub digits : ℕ → ℕ → (ℕ → ℕ) → ℕ
digits C zero b = 0
digits C (suc i) b = b i + C * digits C i b

above_step : (C y d : ℕ) → C * y + C ≤ C * (y + 1 + d)
above_step C y d = omega arith

above_next : (C y z : ℕ) → y < z → C * y + C ≤ C * z
above_next C y z h = subst (λ (x : ℕ). C * y + C ≤ C * x) gap_closes (above_step C y (z - y - 1))
  where
    gap_closes : y + 1 + (z - y - 1) ≡ z
    gap_closes = omega arith

pub digits_below : (C m : ℕ) (b : ℕ → ℕ) → ((i : ℕ) → i < m → b i < C) → digits C m b < C ^ m
digits_below C zero b h = let e : C ^ 0 ≡ 1 = pow-zero C in subst (λ (y : ℕ). 0 < y) (sym e) (omega arith)
digits_below C (suc m) b h =
    let ih : digits C m b < C ^ m = digits_below C m b (λ i l. h i (omega arith)) in
    let l : C * digits C m b + C ≤ C * C ^ m = above_next C (digits C m b) (C ^ m) ih in
    let x : b m < C = h m (omega arith) in
    let e : C ^ suc m ≡ C * C ^ m = pow-succ' C m in
    subst (λ (y : ℕ). b m + C * digits C m b < y) (sym e) (omega arith)

pub digits_tell : (C m : ℕ) (a b : ℕ → ℕ) → ((i : ℕ) → i < m → a i < C) → ((i : ℕ) → i < m → b i < C) → digits C m a ≡ digits C m b
    → (i : ℕ) → i < m → a i ≡ b i
digits_tell C zero a b ha hb e i l = absurd (omega arith)
digits_tell C (suc m) a b ha hb e i l = by_cases (cases_eq (digits C m a) (digits C m b))
    (λ q. digits_tell C m a b (λ i l. ha i (omega arith)) (λ i l. hb i (omega arith)) q i)
  where
    higher_digits_agree : (x y p q : ℕ) → x < C → y < C → x + C * p ≡ y + C * q → (p ≡ q → ⊥) → ⊥
    higher_digits_agree x y p q hx hy e d = by_higher_digits (cases_lt p q)
      where
        by_higher_digits : (p < q) ⊎ (q ≤ p) → ⊥
        by_higher_digits (inl k) = let z : C * p + C ≤ C * q = above_next C p q k in omega arith
        by_higher_digits (inr k) = let z : C * q + C ≤ C * p = above_next C q p (omega arith) in omega arith

    by_cases : (digits C m a ≡ digits C m b) ⊎ (digits C m a ≡ digits C m b → ⊥) → (digits C m a ≡ digits C m b → i < m → a i ≡ b i) → a i ≡ b i
    by_cases (inr d) ih = absurd (higher_digits_agree (a m) (b m) (digits C m a) (digits C m b) (ha m (omega arith)) (hb m (omega arith)) e d)
    by_cases (inl q) ih = by_index (eq-or-lt_of_le (le_of_suc-le-suc l))
      where
        same_digit : a m ≡ b m
        same_digit = let z : C * digits C m a ≡ C * digits C m b = ap (λ x. C * x) q in omega arith

        by_index : (i ≡ m) ⊎ (i < m) → a i ≡ b i
        by_index (inl x) = ap a x ∙ same_digit ∙ ap b (sym x)
        by_index (inr x) = ih q x
