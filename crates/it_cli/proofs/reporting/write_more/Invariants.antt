use Rattle.std.proofs.Common.{◌≡◌, ◌++◌, codes, drop, map, true}
use Rattle.it_print.specs.Lines.{joined_texts}
use Rattle.it_cli.proofs.reporting.write_more.Given as goal

abbrev pub invariant-loop-name : goal.invariant-loop-name
invariant-loop-name l = l.out.items ++ joined_texts (codes ",") true (map (λ v. v.items) (drop l.name-index l.names)) ≡ l.initial.out.items ++ joined_texts (codes ",") true (map (λ v. v.items) l.names)
