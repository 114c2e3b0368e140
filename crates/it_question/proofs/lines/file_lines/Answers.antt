use Rattle.std.proofs.Common.{List, map, arith, subst}
use Rattle.it_question.specs.Cursors.{line_view}
use Rattle.it_question.specs.Lines.{split_lines}
use Rattle.it_question.proofs.FileLineLemmas.{GoOn, goes_on}
use Rattle.it_question.proofs.lines.file_lines.Goals as goal

pub add-requires : goal.add-requires
add-requires c = omega (arith, c.first_line.ensures.shorter, c.loop-rest.invariant, c.requires)

pub loop-rest-preserved : goal.loop-rest-preserved
loop-rest-preserved c = (
  omega arith,
  omega (arith, c.first_line.ensures.progress, c.loop-rest.invariant),
  goes_on c.loop-rest.number (split_lines c.args.bytes.now) (split_lines c.first_line.result.1.now) c.first_line.result.0.now
      (map line_view c.loop-rest.lines.items) (map line_view c.add.new.lines.items)
      (subst (λ (more : List _). GoOn c.loop-rest.number (split_lines c.args.bytes.now) more (map line_view c.loop-rest.lines.items))
      c.first_line.ensures.split c.loop-rest.invariant.2) c.in_ok-add.ensures,
)
