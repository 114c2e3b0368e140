-- Rows that stay usable.
use Rattle.std.proofs.Common.{◌≡◌, ℕ, ◌/◌, ◌<◌, ℤ, pos, negsuc, ◌≤ℤ◌, unsigned_abs, refl, sym, ap, subst, ◌∙◌, arith}
use Rattle.std.proofs.lemmas.Int.{ints, unsigned_abs-mul}
use Rattle.it_number.specs.Gcd.{gcd}
use Rattle.it_number.specs.Division.{int_quotient}
use Rattle.it_number.proofs.Divisors.{gcd_is, quotient_some, quotient_at_most}
use Rattle.it_space.specs.Sums.{number_at}
use Rattle.it_whole.specs.WholeRows.{WholeRowView, IsUsable}
use Rattle.it_whole.specs.Updates.{IsWholeRowReduced, IsQuotient, IsShortened, IsUpdated}
use Rattle.it_whole.proofs.RowSteps.{kept_row, row_shortened}
use native.Mathlib.Nat.{div-mul_cancel}

pub shortened_usable : (width limit : ℕ) (old new : WholeRowView) → IsShortened old new → IsUsable width limit old → IsUsable width limit new
shortened_usable width limit old new s u = record {
  length_is = s.length_is ∙ u.length_is;
  some = quotient_some new.denominator s.shared old.denominator s.denominator_is u.some;
  small = λ k l. quotient_at_most (unsigned_abs (number_at new.numbers k)) s.shared (unsigned_abs (number_at old.numbers k)) limit s.some
      (sym (unsigned_abs-mul (number_at new.numbers k) (pos s.shared)) ∙ ap unsigned_abs (s.entries k (omega (arith, l, u.length_is)))) (u.small k l);
}

-- a usable row over its entry is usable, over a denominator that is no larger than the entry
pub quotient_usable : (width limit : ℕ) (old : WholeRowView) (p : ℤ) (new : WholeRowView) → IsUsable width limit old → pos 1 ≤ℤ p
    → IsQuotient old p new → IsUsable width limit new
quotient_usable width limit old p new u h q = shortened_usable width limit record { numbers = old.numbers; denominator = unsigned_abs p } new q
    record { length_is = u.length_is; some = size_above_zero p h; small = u.small }
  where
    size_above_zero : (z : ℤ) → pos 1 ≤ℤ z → 0 < unsigned_abs z
    size_above_zero z h = omega (arith, ints, h)

pub shortened_less : (width limit : ℕ) (old own mid new : WholeRowView) (z p : ℤ) → IsWholeRowReduced width limit old own z p mid
    → IsShortened mid new → IsWholeRowReduced width limit old own z p new
shortened_less width limit old own mid new z p l s = λ f g x w rf rg ex ew. row_shortened width limit _ mid new s (l f g x w rf rg ex ew)

-- the factor of a pivot that is above 0 is some
pub factor_some : (p z a : ℤ) → pos 1 ≤ℤ p → a ≡ int_quotient p (gcd (unsigned_abs p) (unsigned_abs z)) → 0 < unsigned_abs a
factor_some (negsuc p) z a h e = absurd (omega (arith, ints))
factor_some (pos p) z a h e = subst (λ (a : ℤ). 0 < unsigned_abs a) (sym e)
    (quotient_some (p / gcd p (unsigned_abs z)) (gcd p (unsigned_abs z)) p
    (div-mul_cancel (gcd p (unsigned_abs z)) (gcd_is p (unsigned_abs z)).0) entry_some)
  where
    entry_some : 0 < p
    entry_some = omega (arith, ints, h)

-- a row whose entry is 0 is kept
pub kept_updated : (width limit : ℕ) (old own : WholeRowView) (z p : ℤ) → IsUsable width limit old → z ≡ pos 0 → IsUpdated width limit old own z p old
kept_updated width limit old own z p u e = record {
  less = subst (λ (z : ℤ). IsWholeRowReduced width limit old own z p old) (sym e) (kept_row width limit old own p);
  usable = u;
  kept = λ _. refl;
}
