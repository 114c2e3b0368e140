use Rattle.std.proofs.Common.{◌≡◌, map, take}
use Rattle.it_certificate.proofs.origins.unmarked.Given as goal

abbrev pub invariant-loop-row : goal.invariant-loop-row
invariant-loop-row l = l.plain.items ≡ map (λ row. row.1) (take l.row-index l.rows)
