use Rattle.std.proofs.Common.{◌≡◌, ◌<◌, ◌^◌, drop}
use Rattle.it_number.specs.Decimals.{value_from}
use Rattle.it_settings.proofs.numbers.value.Given as goal

abbrev pub invariant-loop-d : goal.invariant-loop-d
invariant-loop-d l = record {
  rest : value_from l.n (drop l.d-index l.bytes) ≡ value_from 0 l.bytes;
  small : l.n < 10 ^ l.d-index;
}
