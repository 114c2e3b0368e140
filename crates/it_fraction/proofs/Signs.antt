-- Signs of fractions, and negation.
use Rattle.std.proofs.Common.{◌≡◌, ◌<ℤ◌, ℕ, ℤ, pos, ◌-ℤ◌, true, false, unsigned_abs, arith}
use Rattle.std.proofs.lemmas.Int.{ints}
use Rattle.std.specs.Int.{IsGcd}
use Rattle.it_rational.specs.Rational.{Rational, minus, is_at_least_zero}
use Rattle.it_rational.proofs.Signs as S

pub unsigned_abs-negated : (n : ℤ) → unsigned_abs (pos 0 -ℤ n) ≡ unsigned_abs n
unsigned_abs-negated n = omega (arith, ints)

pub lowest-negated : (n : ℤ) (d : ℕ) → IsGcd (unsigned_abs n) d 1 → IsGcd (unsigned_abs (pos 0 -ℤ n)) d 1
lowest-negated n d h = rw (unsigned_abs-negated n) h

pub minus_below : (q : Rational) → pos 0 <ℤ q.num → is_at_least_zero (minus q) ≡ false
minus_below q h = S.minus_below q h

pub minus_least : (q : Rational) → ¬ (pos 0 <ℤ q.num) → is_at_least_zero (minus q) ≡ true
minus_least q h = S.minus_least q h
