-- No public clause cites this module: the fault of a point at one generator.
use Rattle.std.specs.Prelude.{ℕ, ℤ, pos, length, Option}
use Rattle.it_problems.specs.Problems.{ProblemView}
use Rattle.it_polymatroid.specs.Elementals.{elementals}
use Rattle.it_elemental.specs.Generators.{generators, generator_at}
use Rattle.it_check.specs.Sums.{sum_within}
use Rattle.it_check.specs.Verdicts.{of_value}
use Rattle.it_check.specs.declared.verdicts.Verdict.{Verdict}

-- the fault at a problem's generator i: its value at the point is wide, or violates its kind
abbrev pub of_generator : ProblemView → ℕ → (ℕ → ℤ) → Option Verdict
of_generator q i p =
    of_value (length (elementals q.space.variables)) i (generator_at (generators q) i).kind (sum_within (pos 0) (generator_at (generators q) i).row p)
