use Rattle.std.proofs.Common.{◌≤◌, ◌-◌}
use Rattle.it_copy.proofs.HeadLemmas.{AreLeft}
use Rattle.it_copy.proofs.heads.start_after.Given as goal

abbrev pub invariant-loop-passed : goal.invariant-loop-passed
invariant-loop-passed l = AreLeft l.bytes l.rest l.passed × (l.passed ≤ l.skipped)

abbrev pub decreases-loop-passed : goal.decreases-loop-passed
decreases-loop-passed l = l.skipped - l.passed
