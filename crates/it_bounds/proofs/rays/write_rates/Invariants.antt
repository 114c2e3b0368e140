use Rattle.std.proofs.Common.{◌≡◌, ◌++◌, codes, drop, false, map}
use Rattle.it_space.specs.Divisors.{divided_terms}
use Rattle.it_print.specs.Lines.{joined_texts}
use Rattle.it_bounds.specs.Lines.{rate_text, values_at}
use Rattle.it_bounds.proofs.rays.write_rates.Given as goal

abbrev pub invariant-loop-at : goal.invariant-loop-at
invariant-loop-at l = l.out.items ++ joined_texts (codes " ") l.some (map (rate_text l.names) (divided_terms l.common (values_at (drop l.at-index l.kept) l.point)))
    ≡ l.initial.out.items ++ joined_texts (codes " ") false (map (rate_text l.names) (divided_terms l.common (values_at l.kept l.point)))
