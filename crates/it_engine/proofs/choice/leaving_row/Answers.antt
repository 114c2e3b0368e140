use Rattle.std.proofs.Common.{arith, length}
use Rattle.it_engine.specs.Choosing.{basic_column_at, right_side_of}
use Rattle.it_space.specs.Sums.{number_at}
use Rattle.it_engine.proofs.Choices.{best_within}
use Rattle.it_engine.proofs.choice.leaving_row.Goals as goal

pub better_row-best-requires-clause-best : goal.better_row-best-requires-clause-best
better_row-best-requires-clause-best c = let b = c.args.basis.now in
    best_within (number_at c.args.entries.now) (right_side_of (length b) c.args.rows.now) (basic_column_at b) c.loop-i.i
    (length b) c.loop-i.best c.loop-i.invariant (omega (arith, c.loop-i-test.true))

pub returns-clause-within : goal.returns-clause-within
returns-clause-within c = let b = c.args.basis.now in
    best_within (number_at c.args.entries.now) (right_side_of (length b) c.args.rows.now) (basic_column_at b) c.loop-i.i
    (length b) c.loop-i.best c.loop-i.invariant (omega (arith, c.loop-i.auto.i-end))
