use Rattle.std.proofs.Common.{◌+◌, ◌≤◌, length, map}
use Rattle.it_question.specs.Cursors.{line_view}
use Rattle.it_question.specs.Lines.{split_lines}
use Rattle.it_question.proofs.FileLineLemmas.{GoOn}
use Rattle.it_question.proofs.lines.file_lines.Given as goal

abbrev pub invariant-loop-rest : goal.invariant-loop-rest
invariant-loop-rest l = (1 ≤ l.number) × (l.number + length l.rest ≤ 1 + length l.fn.bytes)
    × GoOn l.number (split_lines l.fn.bytes) (split_lines l.rest) (map line_view l.lines.items)

abbrev pub decreases-loop-rest : goal.decreases-loop-rest
decreases-loop-rest l = length l.rest
