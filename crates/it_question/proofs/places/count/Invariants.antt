use Rattle.std.proofs.Common.{◌≡◌, ◌+◌, length, map, drop}
use Rattle.it_question.specs.Cursors.{line_view}
use Rattle.it_question.specs.Lines.{letters_of_lines}
use Rattle.it_question.proofs.places.count.Given as goal

abbrev pub invariant-loop-line : goal.invariant-loop-line
invariant-loop-line l = l.total + length (letters_of_lines (map line_view (drop l.line-index l.lines))) ≡ length (letters_of_lines (map line_view l.lines))
