use Rattle.std.proofs.Common.{◌≡◌, ◌+◌, All, length}
use Rattle.it_space.specs.Rows.{IsOver}
use Rattle.it_units_solver.proofs.systems.push_constraints.Given as goal

abbrev pub invariant-loop-first : goal.invariant-loop-first
invariant-loop-first l = All (λ c. IsOver l.size c.row) l.constraints.items
    × (length l.constraints.items ≡ length l.initial.constraints.items + l.first-index)
