use Rattle.std.proofs.Common.{◌≡◌, ◌++◌, drop, codes, map}
use Rattle.it_print.specs.Lines.{joined_texts}
use Rattle.it_facts.specs.Points.{fact_text, facts_text}
use Rattle.it_facts.proofs.fact_texts.facts_text.Given as goal

abbrev pub invariant-loop-fact : goal.invariant-loop-fact
invariant-loop-fact l = l.out.items ++ joined_texts (codes ", ") l.some (map (fact_text l.names) (drop l.fact-index l.facts)) ≡ facts_text l.names l.facts
