use Rattle.std.proofs.Common.{◌≡◌, ◌≤◌}
use Rattle.it_space.specs.Rows.{point_of}
use Rattle.it_facts.specs.Points.{sum_of_members}
use Rattle.it_facts.proofs.settling.sum_of_members.Given as goal

abbrev pub invariant-loop-variable : goal.invariant-loop-variable
invariant-loop-variable l = (l.variable ≤ l.n) × (l.total ≡ sum_of_members l.variable (point_of l.point) l.set)
