use Rattle.std.proofs.Common.{◌≡◌, ◌≤◌, ◌^◌, drop}
use Rattle.it_certificate.specs.Parts.{is_row_between}
use Rattle.it_certificate.proofs.rows.is_row.Given as goal

abbrev pub invariant-loop-term : goal.invariant-loop-term
invariant-loop-term l = record {
  rest : is_row_between l.from l.size (drop l.term-index l.terms) ≡ is_row_between 1 l.size l.terms;
  small : l.from ≤ 2 ^ 32;
}
