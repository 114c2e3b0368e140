use Rattle.std.proofs.Common.{◌≡◌, map, take}
use Rattle.it_certificate.specs.Values.{ascii_byte}
use Rattle.it_certificate.proofs.writing.in_ascii.Given as goal

abbrev pub invariant-loop-byte : goal.invariant-loop-byte
invariant-loop-byte l = l.out.items ≡ map ascii_byte (take l.byte-index l.bytes)
