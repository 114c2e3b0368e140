use Rattle.std.proofs.Common.{◌≡◌, ◌++◌, map, drop}
use Rattle.it_terms.specs.declared.pieces.Piece.TheVariants.{Summand, Named}
use Rattle.it_terms.proofs.pieces.pieces_of.Given as goal

abbrev pub invariant-loop-term : goal.invariant-loop-term
invariant-loop-term l = l.pieces.items ++ map Summand (drop l.term-index l.terms) ≡ map Summand l.terms

abbrev pub invariant-loop-weight : goal.invariant-loop-weight
invariant-loop-weight l = l.pieces.items ++ map Named (drop l.weight-index l.named) ≡ map Summand l.terms ++ map Named l.named
