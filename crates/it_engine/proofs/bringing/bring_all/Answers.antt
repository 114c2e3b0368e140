use Rattle.std.proofs.Common.{◌∙◌, arith}
use Rattle.it_engine.proofs.BehindRuns.{one_brought}
use Rattle.it_engine.proofs.bringing.bring_all.Goals as goal

pub loop-r-preserved : goal.loop-r-preserved
loop-r-preserved c = record {
  room = c.bring_if_behind.ensures.room ∙ c.loop-r.invariant.room;
  brought = one_brought c.args.run.now.columns.now c.args.run.now.limit c.args.rows.now c.args.moves.now.basis.now c.args.moves.now.moved.now c.loop-r.rows
      c.bring_if_behind.new.rows c.loop-r.r
      (omega (arith, c.loop-r-test.true, c.loop-r.auto.r-end)) c.if-not-bring_if_behind.ensures.brought
      c.if-not-bring_if_behind.ensures.kept c.loop-r.invariant.brought;
}
