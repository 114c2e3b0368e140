-- What a step makes of a row in 32 bits, whose numbers may pass the limit before a common divisor is divided away.
use Rattle.std.proofs.Common.{◌≡◌, ℕ, ◌*◌, ◌<◌, ◌≤◌, ◌^◌, ℤ, pos, ◌≤ℤ◌, unsigned_abs, List, sym, subst, ◌∙◌, arith, mul-pos}
use Rattle.it_number.specs.Gcd.{gcd}
use Rattle.it_number.specs.Division.{int_quotient}
use Rattle.it_number.proofs.Divisors.{quotient_some}
use Rattle.it_rational.specs.Rational.{Rational}
use Rattle.it_vectors.specs.Combinations.{IsCombined}
use Rattle.it_vectors.specs.Sizes.{AreAtMost}
use Rattle.it_whole.specs.WholeRows.{IsUsable, IsRow, WholeRowView}
use Rattle.it_whole.specs.Updates.{IsShortened, IsWholeRowReduced}
use Rattle.it_whole.proofs.RowSteps.{less_row}
use Rattle.it_whole.proofs.Usable.{factor_some, shortened_less}

-- a row within a limit is within a greater one
row_within : (width limit more : ℕ) (f : ℕ → Rational) (row : List ℤ) (denominator : ℕ) → limit ≤ more → IsRow width limit f row denominator
    → IsRow width more f row denominator
row_within width limit more f row denominator h r = record {
  length_is = r.length_is;
  some = r.some;
  low = r.low;
  named = r.named;
  small = λ k l.
      let s = r.small k l in omega (arith, s, h);
}

-- the numbers of a row that is made less may pass the limit on the way
reduced_within : (width limit more : ℕ) (old own new : WholeRowView) (z p : ℤ) → limit ≤ more → AreAtMost new.numbers limit
    → IsWholeRowReduced width more old own z p new → IsWholeRowReduced width limit old own z p new
reduced_within width limit more old own new z p h small less = λ f g x w rf rg ex ew.
    let r = less f g x w (row_within width limit more f old.numbers old.denominator h rf)
    (row_within width limit more g own.numbers own.denominator h rg) ex ew in record {
      length_is = r.length_is;
      some = r.some;
      low = r.low;
      named = r.named;
      small = λ k l. small k (omega (arith, l, r.length_is));
    }

module _ (width limit : ℕ) (old own new : WholeRowView) (z p a b : ℤ) (above : pos 1 ≤ℤ p)
    (a_is : a ≡ int_quotient p (gcd (unsigned_abs p) (unsigned_abs z))) where
  pub combined_usable : IsUsable width limit old → IsCombined width limit old.numbers own.numbers a b new.numbers
      → new.denominator ≡ old.denominator * unsigned_abs a → IsUsable width limit new
  combined_usable u c e = record {
    length_is = c.length_is;
    some = subst (λ (k : ℕ). 0 < k) (sym e) (mul-pos u.some (factor_some p z a above a_is));
    small = c.small;
  }

  -- where the factor of the row is 1 the denominator stays
  module _ (one : a ≡ pos 1) (c : IsCombined width limit old.numbers own.numbers (pos 1) b new.numbers) (e : new.denominator ≡ old.denominator) where
    times_factor : old.denominator ≡ old.denominator * unsigned_abs a
    times_factor = subst (λ (a : ℤ). old.denominator ≡ old.denominator * unsigned_abs a) (sym one) (omega arith)

    with_factor : IsCombined width limit old.numbers own.numbers a b new.numbers
    with_factor = subst (λ (a : ℤ). IsCombined width limit old.numbers own.numbers a b new.numbers) (sym one) c

    pub multiple_reduced : b ≡ int_quotient z (gcd (unsigned_abs p) (unsigned_abs z)) → IsWholeRowReduced width limit old own z p new
    multiple_reduced b_is = λ f g x w rf rg ex ew. less_row width limit old own new z p a b above a_is b_is with_factor (e ∙ times_factor)
        (subst (λ (k : ℕ). k < 2 ^ 63) times_factor rf.low) f g x w rf rg ex ew

    pub multiple_usable : IsUsable width limit old → IsUsable width limit new
    multiple_usable u = combined_usable u with_factor (e ∙ times_factor)

  module _ (denominator : ℕ) (short : limit < 2 ^ 31) (denominator_is : denominator ≡ old.denominator * unsigned_abs a) (numbers : List ℤ)
      (c : IsCombined width 9223372036854775807 old.numbers own.numbers a b numbers)
      (s : IsShortened record { numbers = numbers; denominator = denominator } new) (small : AreAtMost new.numbers limit) where
    pub shortened_reduced : b ≡ int_quotient z (gcd (unsigned_abs p) (unsigned_abs z)) → old.denominator * unsigned_abs a < 2 ^ 63
        → IsWholeRowReduced width limit old own z p new
    shortened_reduced b_is low = reduced_within width limit 9223372036854775807 old own new z p (omega (arith, short)) small
        (shortened_less width 9223372036854775807 old own record { numbers = numbers; denominator = denominator } new z p
        (less_row width 9223372036854775807 old own record { numbers = numbers; denominator = denominator } z p a b above a_is b_is c
        denominator_is low) s)

    pub room_usable : IsUsable width limit old → IsUsable width limit new
    room_usable u = record {
      length_is = s.length_is ∙ c.length_is;
      some = quotient_some new.denominator s.shared denominator s.denominator_is
          (subst (λ (k : ℕ). 0 < k) (sym denominator_is) (mul-pos u.some (factor_some p z a above a_is)));
      small = λ k l. small k (omega (arith, l, s.length_is, c.length_is));
    }
