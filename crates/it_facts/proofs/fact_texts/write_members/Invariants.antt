use Rattle.std.proofs.Common.{◌≡◌, ◌++◌, drop, codes, false, length}
use Rattle.it_print.specs.Lines.{joined_texts, members_from}
use Rattle.it_facts.proofs.fact_texts.write_members.Given as goal

abbrev pub invariant-loop-variable : goal.invariant-loop-variable
invariant-loop-variable l = (l.variable-end ≡ length l.names.variables)
    × (l.out.items ++ joined_texts (codes ";") l.some (members_from l.variable (drop l.variable l.names.variables) l.set)
    ≡ l.initial.out.items ++ joined_texts (codes ";") false (members_from 0 l.names.variables l.set))
