-- Quotients that are found without a division.
use Rattle.std.proofs.Common.{◌≡◌, ◌⊎◌, inl, inr, ℕ, ◌+◌, ◌*◌, ◌<◌, ◌≤◌, Bool, true, false, ◌&&◌, refl, ℤ, ◌*ℤ◌, unsigned_abs, List, sym, ap, subst, ◌∙◌, arith}
use Rattle.std.specs.Bool.{OnTrue}
use Rattle.std.proofs.lemmas.Bool.{cases_eq, cases_lt}
use Rattle.std.proofs.lemmas.Int.{unsigned_abs-mul}
use Rattle.std.proofs.lemmas.Nat.{mul-le}
use Rattle.std.proofs.lemmas.Nat.Gcd.{dvd_trans, dvd_refl}
use Rattle.std.proofs.Math.Nat.{dvd-mul_left}
use Rattle.it_number.specs.Gcd.{gcd}
use Rattle.it_number.proofs.Divisors.{gcd_is}
use Rattle.it_space.specs.Sums.{number_at}
use Rattle.it_vectors.specs.Quotients.{IsSharedPart, likely_quotient_of}
use Rattle.it_vectors.proofs.Divisions.{DividesUpTo}
use Prim.Native.Nat.{◌∣◌}
use native.Mathlib.Nat.{one-dvd, pos_of_dvd_of_pos}

pub product_is_short : (q k : ℤ) (most : ℕ) → unsigned_abs q ≤ most → most * unsigned_abs k < 2147483648 → unsigned_abs (q *ℤ k) < 2147483648
product_is_short q k most h b = subst (λ (n : ℕ). n < 2147483648) (sym (unsigned_abs-mul q k))
    (within (unsigned_abs q * unsigned_abs k) (most * unsigned_abs k) (mul-le (unsigned_abs q) (unsigned_abs k) most (unsigned_abs k) h
    (omega arith)) b)
  where
    within : (a m : ℕ) → a ≤ m → m < 2147483648 → a < 2147483648
    within a m h b = omega (arith, h, b)

-- what holds of all places below j and of j holds of all below j + 1
pub all_more : (P : ℕ → Type 0) (from j : ℕ) → ((i : ℕ) → from ≤ i → i < j → P i) → P j → (i : ℕ) → from ≤ i → i < j + 1 → P i
all_more P from j before here i h l = by_cases (cases_eq i j)
  where
    by_cases : (i ≡ j) ⊎ (i ≡ j → ⊥) → P i
    by_cases (inl e) = subst P (sym e) here
    by_cases (inr d) = before i h (omega (arith, l, d))

-- what two tests show together
pub both_tests : (a b : Bool) (P : Type 0) → (a ≡ true → b ≡ true → P) → OnTrue (a && b) P
both_tests true true P f = f refl refl
both_tests true false P f = record {}
both_tests false b P f = record {}

-- what a flag says of all places below j it says of all below j + 1, where a test says it of place j
pub said_of_more : (P : ℕ → Type 0) (from j : ℕ) (before here : Bool) → OnTrue before ((i : ℕ) → from ≤ i → i < j → P i) → OnTrue here (P j)
    → OnTrue (before && here) ((i : ℕ) → from ≤ i → i < j + 1 → P i)
said_of_more P from j true true f g = all_more P from j f g
said_of_more P from j true false f g = record {}
said_of_more P from j false here f g = record {}

-- a number that has a quotient by k is divided by it
pub divided_by_factor : (q k z : ℤ) → q *ℤ k ≡ z → unsigned_abs k ∣ unsigned_abs z
divided_by_factor q k z e = subst (λ (n : ℕ). unsigned_abs k ∣ n) (sym (unsigned_abs-mul q k) ∙ ap unsigned_abs e)
    (dvd-mul_left (unsigned_abs k) (unsigned_abs q))

pub part_begins : (row : List ℤ) (from earlier : ℕ) → 0 < earlier → IsSharedPart row from from earlier earlier
part_begins row from earlier h = record { some = h; of_earlier = dvd_refl earlier; each = λ j l k. absurd (omega (arith, l, k)) }

-- 1 divides all
pub part_by_one : (row : List ℤ) (from to earlier shared : ℕ) → shared ≡ 1 → IsSharedPart row from to earlier shared
part_by_one row from to earlier shared e = subst (IsSharedPart row from to earlier) (sym e)
    record { some = omega arith; of_earlier = one-dvd earlier; each = λ j l k. one-dvd (unsigned_abs (number_at row j)) }

-- one more number
pub part_more : (row : List ℤ) (from j earlier shared next : ℕ) (z : ℤ) → next ≡ gcd (unsigned_abs z) shared → z ≡ number_at row j
    → IsSharedPart row from j earlier shared → IsSharedPart row from (j + 1) earlier next
part_more row from j earlier shared next z e f d = subst (IsSharedPart row from (j + 1) earlier) (sym e) record {
  some = pos_of_dvd_of_pos (gcd_is (unsigned_abs z) shared).1 d.some;
  of_earlier = dvd_trans (gcd (unsigned_abs z) shared) (gcd_is (unsigned_abs z) shared).1 d.of_earlier;
  each = all_more (λ i. gcd (unsigned_abs z) shared ∣ unsigned_abs (number_at row i)) from j
      (λ i h l. dvd_trans (gcd (unsigned_abs z) shared) (gcd_is (unsigned_abs z) shared).1 (d.each i h l))
      (subst (λ (y : ℤ). gcd (unsigned_abs z) shared ∣ unsigned_abs y) f (gcd_is (unsigned_abs z) shared).0);
}

-- a part after those before it
pub parts_join : (row : List ℤ) (denominator from to earlier shared : ℕ) → DividesUpTo earlier denominator row from
    → IsSharedPart row from to earlier shared → DividesUpTo shared denominator row to
parts_join row denominator from to earlier shared d p = record {
  some = p.some;
  denominator_is = dvd_trans shared p.of_earlier d.denominator_is;
  numbers_are = λ j l. by_cases j l (cases_lt j from);
}
  where
    by_cases : (j : ℕ) → j < to → (j < from) ⊎ (from ≤ j) → shared ∣ unsigned_abs (number_at row j)
    by_cases j l (inl h) = dvd_trans shared p.of_earlier (d.numbers_are j h)
    by_cases j l (inr h) = p.each j h l

pub told_divides : (b : Bool) (row : List ℤ) (from to shift : ℕ) (inverse k : ℤ)
    → OnTrue b ((j : ℕ) → from ≤ j → j < to → likely_quotient_of shift inverse (number_at row j) *ℤ k ≡ number_at row j)
    → OnTrue b ((j : ℕ) → from ≤ j → j < to → unsigned_abs k ∣ unsigned_abs (number_at row j))
told_divides true row from to shift inverse k f = λ j h l. divided_by_factor (likely_quotient_of shift inverse (number_at row j)) k (number_at row j) (f j h l)
told_divides false row from to shift inverse k f = record {}

-- where the earlier divisor divides the part, it is the shared one
pub part_is_divided : (row : List ℤ) (from to earlier : ℕ) → 0 < earlier
    → ((j : ℕ) → from ≤ j → j < to → earlier ∣ unsigned_abs (number_at row j)) → IsSharedPart row from to earlier earlier
part_is_divided row from to earlier h f = record { some = h; of_earlier = dvd_refl earlier; each = f }
