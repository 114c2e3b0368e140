use Rattle.it_engine.specs.Behind.{AreShortened}
use Rattle.it_engine.proofs.bringing.shorten_moved.Given as goal

abbrev pub invariant-loop-k : goal.invariant-loop-k
invariant-loop-k l = record {
  shortened : AreShortened l.fn.rows l.rows;
}
