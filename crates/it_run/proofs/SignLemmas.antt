-- A number times the sign of a row.
use Rattle.std.proofs.Common.{◌≡◌, ◌∙◌, pos, negsuc, Bool, true, false, if◌then◌else◌, int_lt, to_z, of_z, w8, neg_ℤ, [], ◌∷◌, refl, ap, arith}
use Rattle.std.proofs.lemmas.Int.{ints}
use Rattle.it_number.proofs.Ring.{ring, v, times, minus, one}
use Rattle.it_rational.specs.Rational.{Rational, integer}
use Rattle.it_rational.specs.Rational as Q
use Rattle.it_rational.proofs.Names.{quotient_names, same_value, whole_names}
use Rattle.it_rational.proofs.RationalLaws.{ring_ℚ}

-- the sign is below 0 where it is -1
pub sign_is_negative : (b : Bool) → int_lt (to_z w8 (of_z w8 (if b then negsuc 0 else pos 1))) (pos 0) ≡ b
sign_is_negative true = refl
sign_is_negative false = refl

-- the negation of 1 as a number of its own
pub minus_one : Q.minus (integer (pos 1)) ≡ integer (negsuc 0)
minus_one = let unit : Rational = integer (pos 1) in
    same_value (Q.minus unit) (integer (negsuc 0)) (neg_ℤ unit.num) (negsuc 0) unit.den 1 unit.positive (omega arith)
    (quotient_names (neg_ℤ unit.num) unit.den unit.positive) (whole_names (negsuc 0))
    (omega (arith, ints, whole_names (pos 1)))

-- the negation or the number itself is the sign times the number
pub signed_is : (b : Bool) (x : Rational) → (if b then Q.minus x else x) ≡ Q.times (integer (if b then negsuc 0 else pos 1)) x
signed_is true x = ring ring_ℚ (x ∷ []) (minus (v 0)) (times (minus one) (v 0)) refl ∙ ap (λ y. Q.times y x) minus_one
signed_is false x = ring ring_ℚ (x ∷ []) (v 0) (times one (v 0)) refl
