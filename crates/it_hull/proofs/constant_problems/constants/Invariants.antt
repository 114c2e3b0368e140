use Rattle.std.proofs.Common.{◌≡◌, ◌-◌, ◌++◌}
use Rattle.it_hull.specs.Constants.{constant_lines}
use Rattle.it_hull.proofs.constant_problems.constants.Given as goal

abbrev pub invariant-loop-variable : goal.invariant-loop-variable
invariant-loop-variable l = l.constraints.items ++ constant_lines l.variable (l.space.variables - l.variable) ≡ constant_lines 0 l.space.variables
