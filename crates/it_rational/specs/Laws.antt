-- Laws of the rational numbers.
use Rattle.std.specs.Prelude.{◌≡◌, ◌≢◌, pos}
use Rattle.std.specs.Cmp.{IsTotalOrder}
use Rattle.it_rational.specs.Rational.{Rational, integer, plus, times, minus, inverse, rational_cmp}

-- (a + b) + c = a + (b + c)
abbrev pub SumsAssociate : Type 0
SumsAssociate = (a b c : Rational) → plus (plus a b) c ≡ plus a (plus b c)

-- a + b = b + a
abbrev pub SumsCommute : Type 0
SumsCommute = (a b : Rational) → plus a b ≡ plus b a

-- 0 + a = a
abbrev pub ZeroIsNeutral : Type 0
ZeroIsNeutral = (a : Rational) → plus (integer (pos 0)) a ≡ a

-- a + (-a) = 0
abbrev pub NegationsCancel : Type 0
NegationsCancel = (a : Rational) → plus a (minus a) ≡ integer (pos 0)

-- (a b) c = a (b c)
abbrev pub ProductsAssociate : Type 0
ProductsAssociate = (a b c : Rational) → times (times a b) c ≡ times a (times b c)

-- a b = b a
abbrev pub ProductsCommute : Type 0
ProductsCommute = (a b : Rational) → times a b ≡ times b a

-- 1 a = a
abbrev pub OneIsNeutral : Type 0
OneIsNeutral = (a : Rational) → times (integer (pos 1)) a ≡ a

-- a (b + c) = a b + a c
abbrev pub ProductsDistribute : Type 0
ProductsDistribute = (a b c : Rational) → times a (plus b c) ≡ plus (times a b) (times a c)

-- a number that isn't 0 times its inverse is 1
abbrev pub InversesCancel : Type 0
InversesCancel = (a : Rational) → a.num ≢ pos 0 → times a (inverse a) ≡ integer (pos 1)

-- the order is total and transitive, and ties are only between equal numbers
abbrev pub OrderIsTotal : Type 0
OrderIsTotal = IsTotalOrder rational_cmp
