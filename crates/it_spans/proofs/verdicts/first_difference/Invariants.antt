use Rattle.std.proofs.Common.{◌≡◌, ◌≤◌, drop, length}
use Rattle.it_spans.specs.Verdicts.{first_difference}
use Rattle.it_spans.proofs.verdicts.first_difference.Given as goal

abbrev pub invariant-loop-place : goal.invariant-loop-place
invariant-loop-place l = (l.place ≤ length l.rows) × (first_difference l.place (drop l.place l.rows) (drop l.place l.others)
    ≡ first_difference 0 l.rows l.others)
