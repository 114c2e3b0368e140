use Rattle.std.proofs.Common.{rules, ℕ, ◌∙◌, ap, sym, subst, FitsSigned, to_z-of_z, w64, unsigned_abs, arith}
use Rattle.std.proofs.lemmas.Nat.Gcd.{dvd_refl}
use Prim.Native.Nat.{◌∣◌}
use Rattle.it_number.specs.Gcd.{gcd}
use native.Mathlib.Nat.{one-dvd}
use Rattle.it_vectors.specs.Divisors.{DividesAll}
use Rattle.it_vectors.proofs.Divisions.{DividesUpTo, divides_more}
use Rattle.it_vectors.proofs.numbers.divisor.Goals as goal

pub loop-k-init : goal.loop-k-init
loop-k-init c = subst (λ (s : ℕ). DividesUpTo s c.args.denominator c.args.row.now 0) (sym c.new-shared.ensures)
    record { some = c.requires; denominator_is = dvd_refl c.args.denominator; numbers_are = λ j l. absurd (omega arith) }

pub returns-then-is_one-clause-numbers : goal.returns-then-is_one-clause-numbers
returns-then-is_one-clause-numbers c = subst (λ (s : ℕ). DividesAll s c.args.row.now) (sym c.if-is_one.ensures)
    record { some = omega arith; each = λ k l. one-dvd _ }

pub returns-then-is_one-clause-denominator : goal.returns-then-is_one-clause-denominator
returns-then-is_one-clause-denominator c = subst (λ (s : ℕ). s ∣ c.args.denominator) (sym c.if-is_one.ensures) (one-dvd c.args.denominator)

pub loop-k-preserved : goal.loop-k-preserved
loop-k-preserved c =
    let f : FitsSigned w64 c.read.result = search rules in
    divides_more c.args.row.now c.args.denominator c.loop-k.shared.value c.shared_with-shared.result.value c.read.result c.loop-k.k
    (c.shared_with-shared.ensures ∙ ap (λ n. gcd n c.loop-k.shared.value) (c.unsigned_abs.ensures.value ∙ ap unsigned_abs (to_z-of_z f)))
    c.read.ensures c.loop-k.invariant
