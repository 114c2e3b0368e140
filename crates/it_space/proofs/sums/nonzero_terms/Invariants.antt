use Rattle.std.proofs.Common.{◌≡◌, ◌++◌, drop}
use Rattle.it_space.specs.Sums.{terms_from}
use Rattle.it_space.proofs.sums.nonzero_terms.Given as goal

abbrev pub invariant-loop-place : goal.invariant-loop-place
invariant-loop-place l = l.terms.items ++ terms_from l.place (drop l.place l.values) ≡ terms_from l.first (drop l.first l.values)
