use Rattle.std.proofs.Common.{}
use Rattle.it_question.proofs.LimitLemmas.{names_limited, lines_limited, declared_space}
use Rattle.it_question.proofs.asking.question.Goals as goal

pub verb-requires-clause-space : goal.verb-requires-clause-space
verb-requires-clause-space c =
    let e = rw c.new-names.ensures at c.in_ok-names_to_end.ensures in
    declared_space c.most_names.result c.names_line.new.names c.most_names.ensures.few (names_limited c.most_names.result
    c.names_to_end.new.names c.names_line.new.names _ _ _ _ e c.in_ok-names_line.ensures)

pub verb-requires-clause-lines : goal.verb-requires-clause-lines
verb-requires-clause-lines c = lines_limited c.names_line.new.names _ _ c.in_ok-lines.lines c.in_ok-lines.ensures
