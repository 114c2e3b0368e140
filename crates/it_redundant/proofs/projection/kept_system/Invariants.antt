use Rattle.std.proofs.Common.{◌≡◌, ◌++◌, drop, map}
use Rattle.it_redundant.proofs.projection.kept_system.Given as goal

abbrev pub invariant-loop-row : goal.invariant-loop-row
invariant-loop-row l = l.rows.items ++ map (λ k. k.0) (drop l.row-index l.reduced.kept.items) ≡ map (λ k. k.0) l.reduced.kept.items
