-- What a step makes of a row.
use Rattle.std.proofs.Common.{◌≡◌, ℕ, ◌*◌, ◌<◌, ◌^◌, ℤ, pos, negsuc, ◌/◌, ◌≤ℤ◌, ◌+ℤ◌, ◌*ℤ◌, neg_ℤ, unsigned_abs, List, [], ◌∷◌, refl, sym, ap, ap₂, subst, ◌∙◌, arith, mul-pos}
use Rattle.std.proofs.lemmas.Int.{ints, unsigned_abs-mul}
use Rattle.it_number.proofs.Integers.{zring, times_one}
use Rattle.it_number.proofs.Ring.{ring, v, plus, times, minus, nil}
use Rattle.it_number.proofs.IntegerRing.{ring_ℤ}
use Rattle.std.specs.Int.{IsGcd}
use Rattle.std.proofs.Math.Nat.{le-mul_of_pos_right}
use Rattle.it_number.specs.Gcd.{gcd}
use Rattle.it_number.specs.Division.{int_quotient}
use Rattle.it_number.proofs.Divisors.{gcd_is, quotient_some, quotient_at_most}
use Rattle.it_number.proofs.SignedDivisors.{over_back}
use Rattle.it_rational.specs.Rational.{Rational, IsRatio}
use Rattle.it_rational.specs.Rational as Q
use Rattle.it_rational.proofs.RationalLaws.{ring_ℚ}
use Rattle.it_vectors.specs.Combinations.{IsCombined}
use Rattle.it_whole.specs.Updates.{IsWholeRowReduced, IsShortened}
use Rattle.it_space.specs.Sums.{number_at}
use Rattle.it_whole.specs.WholeRows.{WholeRowView, IsRow}
use Rattle.it_whole.proofs.Names.{sum_named, null_named, minus_names, scaled_name, reduced_name, product_in_row}
use native.Mathlib.Nat.{div-mul_cancel, pos_of_dvd_of_pos}

-- x and p are the entries of the row and of the leaving row at the column that enters, and h divides both
pub row_stepped : (width limit : ℕ) (f g : ℕ → Rational) (row by new : List ℤ) (d e : ℕ) (x w : Rational) (z b : ℤ) (p a h : ℕ)
    → IsRow width limit f row d → IsRow width limit g by e → IsRatio x z d → IsRatio w (pos p) e → 0 < h → 0 < a → a * h ≡ p → b *ℤ pos h ≡ z
    → IsCombined width limit row by (pos a) b new → d * a < 2 ^ 63
    → IsRow width limit (λ k. Q.plus (f k) (Q.minus (Q.times (g k) (Q.times x (Q.inverse w))))) new (d * a)
row_stepped width limit f g row by new d e x w z b p a h rf rg ex ew hh ha ea eb c low = record {
  length_is = c.length_is;
  some = mul-pos rf.some ha;
  low = low;
  named = λ k l. subst (λ (y : ℤ). IsRatio (Q.plus (f k) (Q.minus (Q.times (g k) (Q.times x (Q.inverse w))))) y (d * a))
      (sym (c.entries k l)) (numbers_are_named k l);
  small = c.small;
}
  where
    entry_some : 0 < p
    entry_some = subst (λ k. 0 < k) ea (mul-pos ha hh)

    numbers_are_named : (k : ℕ) → k < width → IsRatio (Q.plus (f k) (Q.minus (Q.times (g k) (Q.times x (Q.inverse w)))))
        (number_at row k *ℤ pos a +ℤ neg_ℤ (number_at by k *ℤ b)) (d * a)
    numbers_are_named k l =
        let left : IsRatio (f k) (number_at row k *ℤ pos p) (d * p) = scaled_name (f k) (number_at row k) d p (rf.named k l) in
        let right : IsRatio (Q.times (g k) (Q.times x (Q.inverse w))) (number_at by k *ℤ z) (d * p) = product_in_row (g k) x w
        (number_at by k) z p e d rg.some rf.some entry_some (rg.named k l) ex ew in
        let both = sum_named (f k) (Q.minus (Q.times (g k) (Q.times x (Q.inverse w)))) (number_at row k *ℤ pos p)
        (neg_ℤ (number_at by k *ℤ z)) (d * p) (mul-pos rf.some entry_some) left
        (minus_names (Q.times (g k) (Q.times x (Q.inverse w))) (number_at by k *ℤ z) (d * p) right) in
        reduced_name (Q.plus (f k) (Q.minus (Q.times (g k) (Q.times x (Q.inverse w))))) (number_at row k *ℤ pos a +ℤ neg_ℤ (number_at by k *ℤ b)) (d * a) h hh
        (subst (λ (y : ℤ). IsRatio (Q.plus (f k) (Q.minus (Q.times (g k) (Q.times x (Q.inverse w))))) y (d * a * h))
        (factor_moves_out (number_at row k) (number_at by k) a b h p z ea eb)
        (subst (λ (q : ℕ). IsRatio (Q.plus (f k) (Q.minus (Q.times (g k) (Q.times x (Q.inverse w)))))
        (number_at row k *ℤ pos p +ℤ neg_ℤ (number_at by k *ℤ z)) q) (int_quotient d a h p ea) both))
      where
        int_quotient : (d a h p : ℕ) → a * h ≡ p → d * p ≡ d * a * h
        int_quotient d a h p e = rw (← e) (omega arith)

        factor_moves_out : (r y : ℤ) (a : ℕ) (b : ℤ) (h p : ℕ) (z : ℤ) → a * h ≡ p → b *ℤ pos h ≡ z
            → r *ℤ pos p +ℤ neg_ℤ (y *ℤ z) ≡ (r *ℤ pos a +ℤ neg_ℤ (y *ℤ b)) *ℤ pos h
        factor_moves_out r y a b h p z e f = ap₂ (λ (u : ℤ) (s : ℤ). r *ℤ u +ℤ neg_ℤ (y *ℤ s)) (ap pos (sym e) ∙ product a h) (sym f)
            ∙ ring ring_ℤ (r ∷ y ∷ pos a ∷ b ∷ pos h ∷ []) (plus (times (v 0) (times (v 2) (v 4))) (minus (times (v 1) (times (v 3) (v 4)))))
            (times (plus (times (v 0) (v 2)) (minus (times (v 1) (v 3)))) (v 4)) refl
          where
            product : (a h : ℕ) → pos (a * h) ≡ pos a *ℤ pos h
            product a h = omega (arith, zring)

-- a row whose entry at the column is 0 stays
pub row_stays : (width limit : ℕ) (f g : ℕ → Rational) (row : List ℤ) (d : ℕ) (x w : Rational) → x ≡ Q.integer (pos 0) → IsRow width limit f row d
    → IsRow width limit (λ k. Q.plus (f k) (Q.minus (Q.times (g k) (Q.times x (Q.inverse w))))) row d
row_stays width limit f g row d x w e r = record {
  length_is = r.length_is;
  some = r.some;
  low = r.low;
  named = λ k l. subst (λ (q : Rational). IsRatio q (number_at row k) d) (number_stays (f k) (g k)) (r.named k l);
  small = r.small;
}
  where
    number_stays : (a b : Rational) → a ≡ Q.plus a (Q.minus (Q.times b (Q.times x (Q.inverse w))))
    number_stays a b = ring ring_ℚ (a ∷ b ∷ Q.inverse w ∷ []) (v 0) (plus (v 0) (minus (times (v 1) (times nil (v 2))))) refl
        ∙ ap (λ y. Q.plus a (Q.minus (Q.times b (Q.times y (Q.inverse w))))) (sym e)

-- the same row over a smaller denominator
pub row_shortened : (width limit : ℕ) (f : ℕ → Rational) (old new : WholeRowView) → IsShortened old new
    → IsRow width limit f old.numbers old.denominator → IsRow width limit f new.numbers new.denominator
row_shortened width limit f old new s r = let h = s.shared in record {
  length_is = s.length_is ∙ r.length_is;
  some = quotient_some new.denominator s.shared old.denominator s.denominator_is r.some;
  low = quotient_below new.denominator h old.denominator s.some s.denominator_is r.low;
  named = λ k l. reduced_name (f k) (number_at new.numbers k) new.denominator h s.some
      (subst (λ (d : ℕ). IsRatio (f k) (number_at new.numbers k *ℤ pos h) d) (sym s.denominator_is)
      (subst (λ (z : ℤ). IsRatio (f k) z old.denominator) (sym (s.entries k (omega (arith, l, r.length_is)))) (r.named k l)));
  small = λ k l. quotient_at_most (unsigned_abs (number_at new.numbers k)) h (unsigned_abs (number_at old.numbers k)) limit s.some
      (sym (unsigned_abs-mul (number_at new.numbers k) (pos h)) ∙ ap unsigned_abs (s.entries k (omega (arith, l, r.length_is)))) (r.small k l);
}
  where
    quotient_below : (a h b : ℕ) → 0 < h → a * h ≡ b → b < 2 ^ 63 → a < 2 ^ 63
    quotient_below a h b l e k = omega (arith, e, k, le-mul_of_pos_right a l)

-- the row less as much of the leaving row as makes its entry 0, from the factors left after their common divisor
pub less_row : (width limit : ℕ) (old own new : WholeRowView) (z p a b : ℤ) → pos 1 ≤ℤ p
    → a ≡ int_quotient p (gcd (unsigned_abs p) (unsigned_abs z)) → b ≡ int_quotient z (gcd (unsigned_abs p) (unsigned_abs z))
    → IsCombined width limit old.numbers own.numbers a b new.numbers → new.denominator ≡ old.denominator * unsigned_abs a
    → old.denominator * unsigned_abs a < 2 ^ 63
    → IsWholeRowReduced width limit old own z p new
less_row width limit old own new z (negsuc p) a b hp ea eb c d l = absurd (omega (arith, ints))
less_row width limit old own new z (pos p) a b hp ea eb c d l = λ f g x w rf rg ex ew.
    subst (λ (k : ℕ). IsRow width limit (λ k. Q.plus (f k) (Q.minus (Q.times (g k) (Q.times x (Q.inverse w))))) new.numbers k)
    (sym (d ∙ ap (λ a. old.denominator * unsigned_abs a) ea))
    (row_stepped width limit f g old.numbers own.numbers new.numbers old.denominator own.denominator x w z b p (p / gcd p (unsigned_abs z))
    (gcd p (unsigned_abs z)) rf rg ex ew some_gcd
    (quotient_some (p / gcd p (unsigned_abs z)) (gcd p (unsigned_abs z)) p product_is_whole entry_some) product_is_whole
    (ap (λ b. b *ℤ pos (gcd p (unsigned_abs z))) eb ∙ over_back z (gcd p (unsigned_abs z)) divisor_is_greatest.1)
    (subst (λ (a : ℤ). IsCombined width limit old.numbers own.numbers a b new.numbers) ea c)
    (subst (λ (a : ℤ). old.denominator * unsigned_abs a < 2 ^ 63) ea l))
  where
    entry_some : 0 < p
    entry_some = omega (arith, ints, hp)

    divisor_is_greatest : IsGcd p (unsigned_abs z) (gcd p (unsigned_abs z))
    divisor_is_greatest = gcd_is p (unsigned_abs z)

    some_gcd : 0 < gcd p (unsigned_abs z)
    some_gcd = pos_of_dvd_of_pos divisor_is_greatest.0 entry_some

    product_is_whole : p / gcd p (unsigned_abs z) * gcd p (unsigned_abs z) ≡ p
    product_is_whole = div-mul_cancel (gcd p (unsigned_abs z)) divisor_is_greatest.0

-- and where the entry is 0 already
pub kept_row : (width limit : ℕ) (old own : WholeRowView) (p : ℤ) → IsWholeRowReduced width limit old own (pos 0) p old
kept_row width limit old own p = λ f g x w rf rg ex ew. row_stays width limit f g old.numbers old.denominator x w (null_named x old.denominator rf.some ex) rf

-- a row is itself over the same denominator
pub same_shortened : (row : WholeRowView) → IsShortened row row
same_shortened row = record {
  shared = 1;
  some = omega arith;
  length_is = refl;
  entries = λ k l. times_one
      (number_at row.numbers k);
  denominator_is = omega arith;
}
