-- The operations that a table of the simplex method needs, without their laws, and those of the rational numbers.
use Rattle.std.specs.Prelude.{Bool, pos}
use Rattle.it_rational.specs.Rational.{Rational, integer, plus, times, minus, inverse, is_at_least_zero}

-- 0, 1, sums, products and negations, inverses and a test of the sign
pub record Operations (A : Type 0) : Type 0 where
  pub null : A
  pub unit : A
  pub add : A → A → A
  pub mul : A → A → A
  pub neg : A → A
  -- 1 / a
  pub inv : A → A
  -- whether an element is at least 0
  pub is_least : A → Bool

-- the operations of the rational numbers
abbrev pub rationals : Operations Rational
rationals = record {
  null = integer (pos 0);
  unit = integer (pos 1);
  add = plus;
  mul = times;
  neg = minus;
  inv = inverse;
  is_least = is_at_least_zero;
}
