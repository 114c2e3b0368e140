use Rattle.std.proofs.Common.{◌≡◌, ◌++◌, drop, false}
use Rattle.it_print.specs.Lines.{terms_text}
use Rattle.it_print.proofs.rows.write_terms.Given as goal

abbrev pub invariant-loop-term : goal.invariant-loop-term
invariant-loop-term l = l.out.items ++ terms_text l.names false (drop l.term-index l.terms) ≡ l.initial.out.items ++ terms_text l.names false l.terms
