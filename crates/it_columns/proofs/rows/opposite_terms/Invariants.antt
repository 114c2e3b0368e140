use Rattle.std.proofs.Common.{◌≡◌, ◌++◌, drop}
use Rattle.it_space.specs.Rows.{negated_terms}
use Rattle.it_columns.proofs.rows.opposite_terms.Given as goal

abbrev pub invariant-loop-term : goal.invariant-loop-term
invariant-loop-term l = l.opposites.items ++ negated_terms (drop l.term-index l.terms) ≡ negated_terms l.terms
