use native.Mathlib.Nat.{one-dvd}
use Rattle.it_fraction.proofs.fraction.Fraction.whole.Goals as goal

pub in_lowest_terms-requires-clause-lowest : goal.in_lowest_terms-requires-clause-lowest
in_lowest_terms-requires-clause-lowest c = (one-dvd _, one-dvd _, λ d left right. right)
