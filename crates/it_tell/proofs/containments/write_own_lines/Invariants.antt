use Rattle.std.proofs.Common.{◌≡◌, ℕ, All, List, drop, length, map}
use Rattle.it_space.specs.Answers.{certificate_view}
use Rattle.it_space.specs.Rows.{IsOver}
use Rattle.it_space.specs.Spaces.{size_of}
use Rattle.it_canon.specs.TrueLines.{variable_count}
use Rattle.it_print.specs.Lines.{AreListed}
use Rattle.it_tell.specs.Steps.{AppendsEachOwnLine, HasObligations}
use Rattle.it_tell.proofs.containments.write_own_lines.Given as goal

abbrev pub invariant-loop-constraint : goal.invariant-loop-constraint
invariant-loop-constraint l = record {
  goes_on : (new : List ℕ) → AppendsEachOwnLine l.asked.question.now.body l.asked.options l.asked.parts.now
      (drop l.constraint-index l.own) l.rows_left (map certificate_view l.proofs_left) l.out.items new
      → AppendsEachOwnLine l.asked.question.now.body l.asked.options l.asked.parts.now l.own l.initial.rows_left
      (map certificate_view l.initial.proofs_left) l.initial.out.items new;
  there : AreListed (variable_count l.asked.question.now.body) (length l.asked.constraints.now) l.proofs_left;
  over : All (IsOver (size_of l.free.space)) l.rows_left;
  as_many : length l.rows_left ≡ length l.proofs_left;
  all : HasObligations (drop l.constraint-index l.own) (length l.rows_left);
}
