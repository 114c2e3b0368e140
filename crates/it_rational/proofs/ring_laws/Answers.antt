use Rattle.it_rational.proofs.RationalLaws.{plus_assoc, plus_comm, zero-plus, plus-minus, times_assoc, times_comm, one-times, times-plus}
use Rattle.it_rational.proofs.ring_laws.Goals as goal

pub returns : goal.returns
returns c = record {
  sums_associate = plus_assoc;
  sums_commute = plus_comm;
  zero = zero-plus;
  negations = plus-minus;
  products_associate = times_assoc;
  products_commute = times_comm;
  one = one-times;
  distribute = times-plus;
}
