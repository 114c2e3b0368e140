use Rattle.std.proofs.Common.{◌<◌, ◌∙◌, length, arith}
use Rattle.it_engine.proofs.BehindRuns.{less_by_row}
use Rattle.it_engine.proofs.bringing.take_off_moved.Goals as goal

pub returns-clause-less : goal.returns-clause-less
returns-clause-less c =
    let l : c.args.q < length c.args.block.now.rows.now = omega (arith, c.requires.q, c.requires.height) in
    less_by_row c.args.run.now.columns.now c.args.run.now.limit c.args.block.now.rows.now c.args.block.now.basis.now
    c.args.block.now.moved.now c.take_off.result c.args.q c.args.row.now c.take_off.new.row c.basic_column.result.now
    c.basic_column.ensures ((c.requires.rows c.args.q l c.requires.moves).length_is ∙ c.requires.height) c.take_off.ensures.updated
