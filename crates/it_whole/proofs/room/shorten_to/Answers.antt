use Rattle.std.proofs.Common.{◌*◌, ◌*ℤ◌, ◌∙◌, ℤ, pos, ap, arith}
use native.Mathlib.Nat.{div-mul_cancel}
use Rattle.it_whole.proofs.room.shorten_to.Goals as goal

pub returns-then-write_back-clause-shortened : goal.returns-then-write_back-clause-shortened
returns-then-write_back-clause-shortened c = record {
  shared = c.divisor-shared.result.value;
  some = c.divisor-shared.ensures.numbers.some;
  length_is = c.write_back.ensures.length ∙ c.requires.even;
  entries = λ k l. ap (λ (z : ℤ). z *ℤ pos c.divisor-shared.result.value)
      (c.if-write_back.ensures.entries k (omega (arith, l, c.divide.ensures.length))) ∙ c.divide.ensures.entries k l;
  denominator_is = ap (λ b. b * c.divisor-shared.result.value) c.size_quotient.ensures
      ∙ div-mul_cancel c.divisor-shared.result.value c.divisor-shared.ensures.denominator;
}
