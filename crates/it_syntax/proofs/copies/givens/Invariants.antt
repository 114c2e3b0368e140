use Rattle.std.proofs.Common.{◌≡◌, map, take}
use Rattle.it_syntax.specs.Givens.{given_view}
use Rattle.it_syntax.proofs.copies.givens.Given as goal

abbrev pub invariant-loop-given : goal.invariant-loop-given
invariant-loop-given l = map given_view l.copies.items ≡ map given_view (take l.given-index l.givens)
