-- Two fractions compare like their whole parts, and where these agree like the inverses of their remainders.
use Rattle.std.proofs.Common.{◌≡◌, ℕ, ◌+◌, ◌*◌, ◌/◌, ◌%◌, ◌<◌, ◌≤◌, ◌⊎◌, inl, inr, sym, nat_cmp, Less, Greater, arith, ap, ap₂, ◌∙◌, mul-lt-mul_of_pos_right, mul-le-mul_right, mod-lt, mul-pos, mul_comm, zero, suc, zero-mul}
use Rattle.std.proofs.lemmas.Bool.{cases_order}

-- a step of Euclid's algorithm on both: x / y compares with z / w like a / b with c / d
abbrev pub IsTurn : (x y z w a b c d : ℕ) → Type 0
IsTurn x y z w a b c d = record {
  some : 0 < y;
  other_some : 0 < w;
  same : nat_cmp (x * w) (z * y) ≡ nat_cmp (a * d) (c * b);
}

pub less_is : (x y : ℕ) → x < y → nat_cmp x y ≡ Less
less_is x y h = grind arith

pub greater_is : (x y : ℕ) → y < x → nat_cmp x y ≡ Greater
greater_is x y h = grind arith

pub same_shift : (x y k : ℕ) → nat_cmp (x + k) (y + k) ≡ nat_cmp x y
same_shift x y k = grind arith

-- a smaller whole part
pub less_by_whole_parts : (a b c d : ℕ) → 0 < b → 0 < d → a / b < c / d → a * d < c * b
less_by_whole_parts a b c d hb hd h =
    let p : a < (c / d) * b = omega (arith, mul-le-mul_right b h, mod-lt a hb) in
    omega (arith, mul-lt-mul_of_pos_right p hd, mul-le-mul_right b (whole_part_at_most c d))
  where
    whole_part_at_most : (c d : ℕ) → (c / d) * d ≤ c
    whole_part_at_most c d = omega arith

-- equal whole parts: the remainders compare the same
pub compare_by_rests : (a b c d : ℕ) → a / b ≡ c / d → nat_cmp (a * d) (c * b) ≡ nat_cmp ((a % b) * d) ((c % d) * b)
compare_by_rests a b c d e = ap₂ nat_cmp (law a b d) (law c d b ∙ ap (λ n. (c % d) * b + n) (same_whole_parts e))
    ∙ same_shift ((a % b) * d) ((c % d) * b) ((a / b) * b * d)
  where
    law : (x y z : ℕ) → x * z ≡ (x % y) * z + (x / y) * y * z
    law x y z = omega (arith, ap (λ n. n * z) (rest_and_whole x y))
      where
        rest_and_whole : (x y : ℕ) → x ≡ x % y + (x / y) * y
        rest_and_whole x y = omega arith

    same_whole_parts : a / b ≡ c / d → (c / d) * d * b ≡ (a / b) * b * d
    same_whole_parts e = omega (arith, ap (λ n. n * (d * b)) e)

-- whole parts that differ decide
pub compare_by_whole_parts : (a b c d : ℕ) → 0 < b → 0 < d → (a / b ≡ c / d → ⊥) → nat_cmp (a / b) (c / d) ≡ nat_cmp (a * d) (c * b)
compare_by_whole_parts a b c d hb hd n = by_cases (cases_order (a / b) (c / d))
  where
    by_cases : (a / b ≡ c / d) ⊎ ((a / b < c / d) ⊎ (c / d < a / b)) → nat_cmp (a / b) (c / d) ≡ nat_cmp (a * d) (c * b)
    by_cases (inl e) = absurd (n e)
    by_cases (inr (inl l)) = less_is (a / b) (c / d) l ∙ sym (less_is (a * d) (c * b) (less_by_whole_parts a b c d hb hd l))
    by_cases (inr (inr g)) = greater_is (a / b) (c / d) g ∙ sym (greater_is (a * d) (c * b) (less_by_whole_parts c d a b hd hb g))

-- 0 and a number compare like their multiples
pub zero_first : (y k n : ℕ) → 0 < k → nat_cmp 0 y ≡ nat_cmp (0 * n) (y * k)
zero_first zero k n h = simp zero-mul
zero_first (suc y) k n h = let p : 0 < suc y * k = mul-pos (omega arith) h in grind arith

pub zero_second : (x k n : ℕ) → 0 < n → nat_cmp x 0 ≡ nat_cmp (x * n) (0 * k)
zero_second zero k n h = simp zero-mul
zero_second (suc x) k n h = let p : 0 < suc x * n = mul-pos (omega arith) h in grind arith

-- a remainder of 0 decides
pub compare_without_rest : (a b c d : ℕ) → 0 < b → 0 < d → a / b ≡ c / d → (a % b ≡ 0) ⊎ (c % d ≡ 0) → nat_cmp (a % b) (c % d) ≡ nat_cmp (a * d) (c * b)
compare_without_rest a b c d hb hd e z = by_cases z ∙ sym (compare_by_rests a b c d e)
  where
    by_cases : (a % b ≡ 0) ⊎ (c % d ≡ 0) → nat_cmp (a % b) (c % d) ≡ nat_cmp ((a % b) * d) ((c % d) * b)
    by_cases (inl x) = rw x (zero_first (c % d) b d hb)
    by_cases (inr y) = rw y (zero_second (a % b) b d hd)

-- the inverses of the remainders
pub compare_by_inverse_rests : (a b c d : ℕ) → a / b ≡ c / d → nat_cmp (d * (a % b)) (b * (c % d)) ≡ nat_cmp (a * d) (c * b)
compare_by_inverse_rests a b c d e = ap₂ nat_cmp (mul_comm d (a % b)) (mul_comm b (c % d)) ∙ sym (compare_by_rests a b c d e)

-- a round of the comparison ends, or goes on
pub ruleset turn_lemmas = (compare_by_whole_parts, compare_without_rest, compare_by_inverse_rests)
