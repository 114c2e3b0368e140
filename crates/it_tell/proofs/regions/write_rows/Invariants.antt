use Rattle.it_tell.specs.Tellings.{IsMarkedRowText, indented_line}
use Rattle.it_tell.proofs.DetailLemmas.{Appended}
use Rattle.it_tell.proofs.OrderLemmas.{rows_at}
use Rattle.it_tell.proofs.regions.write_rows.Given as goal

abbrev pub invariant-loop-row : goal.invariant-loop-row
invariant-loop-row l = Appended indented_line (IsMarkedRowText l.question.body l.options.style) l.initial.out.items l.out.items
    (rows_at l.in_order) l.row-index
