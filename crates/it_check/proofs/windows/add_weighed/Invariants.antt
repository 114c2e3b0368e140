use Rattle.std.proofs.Common.{◌+◌, ◌-◌}
use Rattle.it_elemental.specs.Generators.{generators, generator_at}
use Rattle.it_check.specs.Windows.{window_length}
use Rattle.it_check.proofs.WindowLemmas.{IsAdding}
use Rattle.it_check.proofs.windows.add_weighed.Given as goal

abbrev pub invariant-loop-coordinate : goal.invariant-loop-coordinate
invariant-loop-coordinate l = IsAdding (generator_at (generators l.problem) l.weight.0).row l.weight.1 l.start l.initial.sums l.sums l.from

abbrev pub decreases-loop-coordinate : goal.decreases-loop-coordinate
decreases-loop-coordinate l = l.start + window_length + 1 - l.from
