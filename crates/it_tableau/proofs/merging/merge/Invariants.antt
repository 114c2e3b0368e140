use Rattle.std.proofs.Common.{◌+◌, ◌-◌, ◌≤◌, length}
use Rattle.it_tableau.proofs.MergeSteps.{IsMerging}
use Rattle.it_tableau.proofs.merging.merge.Given as goal

abbrev pub invariant-loop-i : goal.invariant-loop-i
invariant-loop-i l = IsMerging l.width l.old l.by l.q l.i l.j l.buffer.items × (l.i ≤ length l.old) × (l.j ≤ length l.by)

abbrev pub decreases-loop-i : goal.decreases-loop-i
decreases-loop-i l = length l.old - l.i + (length l.by - l.j)
