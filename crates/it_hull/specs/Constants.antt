-- The problem in which all variables are constant: where it is met sets are 0, so that only rates count.
use Rattle.std.specs.Prelude.{ℕ, zero, suc, ◌+◌, ◌^◌, pos, List, [], ◌∷◌}
use Rattle.it_problems.specs.declared.problems.Constraint.{Constraint}
use Rattle.it_problems.specs.declared.problems.Kind.TheVariants.{Equation}
use Rattle.it_problems.specs.declared.problems.Origin.TheVariants.{Given}
use Rattle.it_space.specs.declared.spaces.Space.{Space}
use Rattle.it_problems.specs.Problems.{ProblemView}

-- the constraint of the line that says that a variable is constant
abbrev pub constant_line : ℕ → Constraint
constant_line variable = record { row = (2 ^ variable, pos 1) ∷ []; kind = Equation; origin = Given (variable + 1) 1 1 }

-- such constraints for count variables, from variable on
abbrev pub constant_lines : ℕ → ℕ → List Constraint
constant_lines variable zero = []
constant_lines variable (suc count) = constant_line variable ∷ constant_lines (variable + 1) count

-- the problem of a space in which all variables are constant
abbrev pub constants : Space → ProblemView
constants s = record { space = s; constraints = constant_lines 0 s.variables }
