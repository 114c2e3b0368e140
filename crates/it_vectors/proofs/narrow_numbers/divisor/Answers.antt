use Rattle.std.proofs.Common.{ℕ, sym, subst, arith}
use Rattle.std.proofs.lemmas.Nat.Gcd.{dvd_refl}
use Prim.Native.Nat.{◌∣◌}
use native.Mathlib.Nat.{one-dvd}
use Rattle.it_vectors.specs.Divisors.{DividesAll}
use Rattle.it_vectors.proofs.Divisions.{DividesUpTo}
use Rattle.it_vectors.proofs.Quotients.{parts_join}
use Rattle.it_vectors.proofs.narrow_numbers.divisor.Goals as goal

pub loop-from-init : goal.loop-from-init
loop-from-init c = record {
  within = omega arith;
  divides = subst (λ (s : ℕ). DividesUpTo s c.args.denominator c.args.row.now 0) (sym c.new-shared.ensures)
      record { some = c.requires; denominator_is = dvd_refl c.args.denominator; numbers_are = λ j l. absurd (omega arith) };
}

pub returns-then-is_one-clause-numbers : goal.returns-then-is_one-clause-numbers
returns-then-is_one-clause-numbers c = subst (λ (s : ℕ). DividesAll s c.args.row.now) (sym c.if-is_one.ensures)
    record { some = omega arith; each = λ k l. one-dvd _ }

pub returns-then-is_one-clause-denominator : goal.returns-then-is_one-clause-denominator
returns-then-is_one-clause-denominator c = subst (λ (s : ℕ). s ∣ c.args.denominator) (sym c.if-is_one.ensures) (one-dvd c.args.denominator)

pub loop-from-preserved : goal.loop-from-preserved
loop-from-preserved c = record {
  within = c.end_of_part-to.ensures.1;
  divides = parts_join c.args.row.now c.args.denominator c.loop-from.from c.end_of_part-to.result c.loop-from.shared.value
      c.shared_part-shared.result.value c.loop-from.invariant.divides c.shared_part-shared.ensures;
}
