-- The greatest common divisor, Euclid's lemma, numbers with no common divisor, and the least common multiple.
use Rattle.std.proofs.Common.{◌≡◌, ℕ, zero, suc, ◌+◌, ◌*◌, ◌/◌, ◌%◌, ◌<◌, ◌≤◌, List, [], ◌∷◌, ◌⊎◌, inl, inr, refl, sym, ap, subst, ◌∙◌, arith, mod-lt, mul_comm, mul-pos, one-mul, zero-mul, mul-zero}
use Prim.Native.Nat.{◌∣◌}
use native.Mathlib.Nat.{eq-zero-or-pos, dvd-mod_iff, dvd-mul_left, dvd-mul_right, dvd_of_mul-dvd-mul_right, one-dvd, mul-dvd-mul_right, eq-zero_of_zero-dvd, mul-div_cancel', div-mul_cancel, pos_of_dvd_of_pos, le_of_dvd, div-add-mod', add-mul-mod_self_right, mod-eq_of_lt, mul-lt-mul_of_pos_right, mul-div_assoc, mul-dvd-mul_left, zero-div}
use Rattle.std.proofs.lemmas.Nat.Gcd.{IsGcd-from_zero, IsGcd-from_mod, IsGcd-swap, same_from_IsGcd, dvd_refl, dvd-zero, dvd_trans, dvd_antisymm}
use Rattle.std.specs.Int.{IsGcd}
use Rattle.std.specs.List.{fold}
use Rattle.std.proofs.Math.Nat.{le-mul_of_pos_right}
use Rattle.it_number.specs.Gcd.{gcd, gcd_within, lcm}
use Rattle.it_number.specs.Laws.{IsLcm}

gcd_within_is : (k a b : ℕ) → b < k → IsGcd a b (gcd_within k a b)
unfolding gcd_within
gcd_within_is zero a b h = absurd (omega arith)
gcd_within_is (suc k) a zero h = IsGcd-from_zero a zero refl
gcd_within_is (suc k) a (suc b) h = IsGcd-from_mod a (suc b) (gcd_within k (suc b) (a % suc b))
    (gcd_within_is k (suc b) (a % suc b) (omega (arith, mod-lt a {m = suc b} (omega arith))))

pub gcd_is : (a b : ℕ) → IsGcd a b (gcd a b)
unfolding gcd
gcd_is a b = gcd_within_is (suc b) a b (omega arith)

-- d divides a and b exactly where it divides the remainder and b
to_mod : (a b g : ℕ) → IsGcd a b g → IsGcd b (a % b) g
to_mod a b g h = (h.1, (dvd-mod_iff g h.1).1 h.0, λ d p q. h.2 d ((dvd-mod_iff d p).0 q) p)

mul-mod : (a b c : ℕ) → 0 < b → 0 < c → (a * c) % (b * c) ≡ (a % b) * c
mul-mod a b c hb hc =
    let split : a * c ≡ (a % b) * c + (a / b) * (b * c) = omega (arith, ap (λ n. n * c) (div-add-mod' a b)) in
    ap (λ n. n % (b * c)) split ∙ add-mul-mod_self_right ((a % b) * c) (a / b) (b * c) ∙ mod-eq_of_lt (mul-lt-mul_of_pos_right (mod-lt a hb) hc)

scale : (k a b c g : ℕ) → b < k → IsGcd a b g → IsGcd (a * c) (b * c) (g * c)
scale zero a b c g h e = absurd (omega arith)
scale (suc k) a zero c g h e = rw (same_from_IsGcd a zero g a e (IsGcd-from_zero a zero refl)) (IsGcd-from_zero (a * c) (zero * c) (zero-mul c))
scale (suc k) a (suc b) zero g h e = simp mul-zero (IsGcd-from_zero zero zero refl)
scale (suc k) a (suc b) (suc c) g h e =
    IsGcd-from_mod (a * suc c) (suc b * suc c) (g * suc c)
    (rw (mul-mod a (suc b) (suc c) (omega arith) (omega arith)) (scale k (suc b) (a % suc b) (suc c) g
    (omega (arith, mod-lt a {m = suc b} (omega arith))) (to_mod a (suc b) g e)))

-- Euclid's lemma
pub euclid : (a b c : ℕ) → IsGcd a b 1 → a ∣ b * c → a ∣ c
euclid a b c e d = subst (λ n. a ∣ n) (one-mul c) ((scale (suc b) a b c 1 (omega arith) e).2 a (dvd-mul_right a c) d)

-- numbers that divide numbers with no common divisor have none
pub coprime_below : (a b d e : ℕ) → IsGcd a b 1 → d ∣ a → e ∣ b → IsGcd d e 1
coprime_below a b d e g p q = (one-dvd d, one-dvd e, λ k r s. g.2 k (dvd_trans k r p) (dvd_trans k s q))

pub coprime_product : (a b c : ℕ) → IsGcd a c 1 → IsGcd b c 1 → IsGcd (a * b) c 1
coprime_product a b c g h = (one-dvd (a * b), one-dvd c, λ d p q. h.2 d (euclid d a b (IsGcd-swap a d 1 (coprime_below a c a d g (dvd_refl a) q)) p) q)

-- numbers divided by their greatest common divisor have no common divisor above 1
pub coprime_rest : (a b g : ℕ) → 0 < g → IsGcd a b g → IsGcd (a / g) (b / g) 1
coprime_rest a b g pos_g e = (
  one-dvd (a / g),
  one-dvd (b / g),
  λ d p q. divides_one d
      (e.2 (d * g) (subst (λ n. d * g ∣ n) (div-mul_cancel g e.0) (mul-dvd-mul_right d p g))
      (subst (λ n. d * g ∣ n) (div-mul_cancel g e.1) (mul-dvd-mul_right d q g))),
)
  where
    divides_one : (d : ℕ) → d * g ∣ g → d ∣ 1
    divides_one d h = dvd_of_mul-dvd-mul_right {k = g} d pos_g (subst (λ n. d * g ∣ n) (sym (one-mul g)) h)

-- fractions in lowest terms that are equal across have the same parts
pub lowest_unique : (a b c d : ℕ) → 0 < b → 0 < d → IsGcd a b 1 → IsGcd c d 1 → a * d ≡ c * b → b ≡ d
lowest_unique a b c d hb hd g h e =
    dvd_antisymm (euclid b a d (IsGcd-swap a b 1 g) (subst (λ n. b ∣ n) (sym e) (dvd-mul_left b c)))
    (euclid d c b (IsGcd-swap c d 1 h) (subst (λ n. d ∣ n) e (dvd-mul_left d a)))

pub IsGcd-pos : (a b g : ℕ) → 0 < b → IsGcd a b g → 0 < g
IsGcd-pos a b g h e = pos_of_dvd_of_pos e.1 h

-- the factors of a number above 0 are above 0, and those of a number at most n are at most n
pub quotient_some : (k s b : ℕ) → k * s ≡ b → 0 < b → 0 < k
quotient_some zero s b e h = absurd (omega (arith, e, h))
quotient_some (suc k) s b e h = omega arith

pub quotient_at_most : (k s b c : ℕ) → 0 < s → k * s ≡ b → b ≤ c → k ≤ c
quotient_at_most k s b c h e l = omega (arith, e, l, le-mul_of_pos_right k h)

-- one step of the algorithm, and its end
pub gcd_some : (a b : ℕ) → 0 < a → 0 < gcd a b
gcd_some a b h = pos_of_dvd_of_pos (gcd_is a b).0 h

pub gcd-step : (a b : ℕ) → gcd b (a % b) ≡ gcd a b
gcd-step a b = same_from_IsGcd a b (gcd b (a % b)) (gcd a b) (IsGcd-from_mod a b (gcd b (a % b)) (gcd_is b (a % b))) (gcd_is a b)

pub gcd-zero : (a b : ℕ) → b ≡ 0 → gcd a b ≡ a
gcd-zero a b e = same_from_IsGcd a b (gcd a b) a (gcd_is a b) (IsGcd-from_zero a b e)

-- 1 has no common divisor above 1 with any number
pub gcd-one : (a : ℕ) → gcd a 1 ≡ 1
gcd-one a = dvd_antisymm (gcd_is a 1).1 (one-dvd (gcd a 1))

pub one-gcd : (a : ℕ) → gcd 1 a ≡ 1
one-gcd a = dvd_antisymm (gcd_is 1 a).0 (one-dvd (gcd 1 a))

-- the divisor is no larger than a part that isn't 0
pub gcd_le : (a b : ℕ) → 0 < b → gcd a b ≤ b
gcd_le a b h = le_of_dvd h (gcd_is a b).1

pub gcd-pos : (a b : ℕ) → 0 < b → 0 < gcd a b
gcd-pos a b h = IsGcd-pos a b (gcd a b) h (gcd_is a b)

-- and within any bound on both
pub gcd_below : (a b n : ℕ) → a < n → b < n → gcd a b < n
gcd_below a zero n h k = rw (gcd-zero a zero refl) h
gcd_below a (suc b) n h k = omega (arith, gcd_le a (suc b) (omega arith))

-- the product over the divisor, with one factor outside
product_over : (a b g : ℕ) → g ∣ b → a * b / g ≡ a * (b / g)
product_over a b g h = mul-div_assoc g a h

product_over_left : (a b g : ℕ) → g ∣ a → a * b / g ≡ b * (a / g)
product_over_left a b g h = ap (λ n. n / g) (mul_comm a b) ∙ product_over b a g h

-- a multiple of both is a multiple of the product over the divisor
lcm-least : (a b g n : ℕ) → 0 < g → IsGcd a b g → a ∣ n → b ∣ n → a * b / g ∣ n
lcm-least a b g n h e p q =
    let shared : (a / g * (n / a)) * g ≡ n = swap_last_factors (a / g) (n / a) g ∙ ap (λ m. m * (n / a)) (div-mul_cancel g e.0) ∙ mul-div_cancel' a p in
    let rest : b / g ∣ a / g * (n / a) = dvd_of_mul-dvd-mul_right {k = g} (b / g) h
    (subst (λ m. b / g * g ∣ m) (sym shared) (subst (λ m. m ∣ n) (sym (div-mul_cancel g e.1)) q)) in
    let factor : b / g ∣ n / a = euclid (b / g) (a / g) (n / a) (IsGcd-swap (a / g) (b / g) 1 (coprime_rest a b g h e)) rest in
    subst (λ m. m ∣ n) (sym (product_over a b g e.1)) (subst (λ m. a * (b / g) ∣ m) (mul-div_cancel' a p) (mul-dvd-mul_left (b / g) a factor))
  where
    swap_last_factors : (x y z : ℕ) → (x * y) * z ≡ (x * z) * y
    swap_last_factors x y z = omega arith

-- the product over the greatest common divisor is the least common multiple
pub lcm_is : (a b : ℕ) → IsLcm a b (lcm a b)
unfolding lcm
lcm_is a b = by_cases (eq-zero-or-pos (gcd a b))
  where
    gcd_law : IsGcd a b (gcd a b)
    gcd_law = gcd_is a b

    zero_divisor : gcd a b ≡ 0 → a ≡ 0
    zero_divisor e = eq-zero_of_zero-dvd (subst (λ n. n ∣ a) e gcd_law.0)

    by_cases : (gcd a b ≡ 0) ⊎ (0 < gcd a b) → IsLcm a b (a * b / gcd a b)
    by_cases (inl e) =
        let z : a * b / gcd a b ≡ 0 = ap (λ n. n * b / gcd a b) (zero_divisor e) ∙ ap (λ n. n / gcd a b) (zero-mul b) ∙ zero-div (gcd a b) in
        rw z (dvd-zero a, dvd-zero b, λ n p q. subst (λ m. m ∣ n) (zero_divisor e) p)
    by_cases (inr h) = (
      subst (λ n. a ∣ n) (sym (product_over a b (gcd a b) gcd_law.1)) (dvd-mul_right a (b / gcd a b)),
      subst (λ n. b ∣ n) (sym (product_over_left a b (gcd a b) gcd_law.0)) (dvd-mul_right b (a / gcd a b)),
      λ n p q. lcm-least a b (gcd a b) n h gcd_law p q,
    )

pub lcm-over : (a b : ℕ) → a * (b / gcd a b) ≡ lcm a b
unfolding lcm
lcm-over a b = sym (product_over a b (gcd a b) (gcd_is a b).1)

-- a least common multiple is above 0 where both numbers are
pub lcm-pos : (a b : ℕ) → 0 < a → 0 < b → 0 < lcm a b
lcm-pos a b h k = pos_of_dvd_of_pos ((lcm_is a b).2 (a * b) (dvd-mul_right a b) (dvd-mul_left b a)) (mul-pos h k)

-- the least common multiple of a number and others is a multiple of that number
pub start_divides : (m : ℕ) (ns : List ℕ) → m ∣ fold lcm m ns
start_divides m [] = dvd_refl m
start_divides m (n ∷ ns) = dvd_trans m {b = lcm m n} {c = fold lcm (lcm m n) ns} (lcm_is m n).0 (start_divides (lcm m n) ns)
