use Rattle.std.proofs.Common.{◌≡◌, ◌<◌, ◌^◌, drop, option_and_then}
use Rattle.it_number.specs.Decimals.{value_from}
use Rattle.it_certificate.specs.Numerals.{below}
use Rattle.it_certificate.proofs.numbers.value_up_to_limit.Given as goal

abbrev pub invariant-loop-d : goal.invariant-loop-d
invariant-loop-d l = record {
  rest : option_and_then (below (2 ^ 127)) (value_from l.n (drop l.d-index l.digits)) ≡ option_and_then (below (2 ^ 127)) (value_from 0 l.digits);
  within : l.n < 2 ^ 127;
}
