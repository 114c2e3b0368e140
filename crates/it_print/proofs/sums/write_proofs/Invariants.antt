use Rattle.std.proofs.Common.{◌≡◌, ◌++◌, drop, map, codes, false}
use Rattle.it_space.specs.Answers.{certificate_view}
use Rattle.it_print.specs.Lines.{joined_texts, origins_of, certificate_text}
use Rattle.it_print.proofs.sums.write_proofs.Given as goal

abbrev pub invariant-loop-certificate : goal.invariant-loop-certificate
invariant-loop-certificate l = l.out.items ++ joined_texts (codes " and ") l.some (map (certificate_text l.names.variables (origins_of l.constraints)) (map certificate_view (drop l.certificate-index l.proofs)))
    ≡ l.initial.out.items ++ joined_texts (codes " and ") false (map (certificate_text l.names.variables (origins_of l.constraints)) (map certificate_view l.proofs))
