use Rattle.std.proofs.Common.{◌≡◌, length}
use Rattle.it_engine.specs.Behind.{AreBrought}
use Rattle.it_engine.proofs.bringing.bring_all.Given as goal

abbrev pub invariant-loop-r : goal.invariant-loop-r
invariant-loop-r l = record {
  room : length l.room ≡ length l.fn.rows;
  brought : AreBrought l.run.columns.now l.run.limit l.fn.rows l.moves.basis.now l.moves.moved.now l.r l.rows;
}
