-- The integers as a commutative ring, for the solver.
use Rattle.std.proofs.Common.{ℤ, pos, ◌+ℤ◌, ◌*ℤ◌, neg_ℤ, arith}
use Rattle.it_number.proofs.Integers.{zlin, mul-add, mul_comm, mul_assoc}
use Rattle.it_number.specs.Rings.{Ring}
use Rattle.std.proofs.lemmas.Int.{ints}

abbrev pub ring_ℤ : Ring ℤ
ring_ℤ = record {
  null = pos 0;
  unit = pos 1;
  add = λ a b. a +ℤ b;
  mul = λ a b. a *ℤ b;
  neg = neg_ℤ;
  add_assoc = λ a b c. omega (arith, zlin);
  add_comm = λ a b. omega (arith, zlin);
  null-add = λ a. omega (arith, zlin);
  add-neg = λ a. omega (arith, zlin);
  mul_assoc = mul_assoc;
  mul_comm = mul_comm;
  unit-mul = λ a. omega (arith, ints);
  mul-add = mul-add;
}
