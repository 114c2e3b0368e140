use Rattle.std.proofs.Common.{◌≡◌, ◌≤◌, ◌++◌, ◌*◌, drop}
use Rattle.it_space.specs.Rows.{coefficient}
use Rattle.it_elemental.specs.Generators.{generators}
use Rattle.it_prove.proofs.GeneratorWeights.{weights_from}
use Rattle.it_prove.proofs.certificates.generator_weights.Given as goal

abbrev pub invariant-loop-index : goal.invariant-loop-index
invariant-loop-index l = (l.column ≤ 2 * l.index) × (l.weights.items ++ weights_from l.index l.column (drop l.index (generators l.problem))
    (coefficient l.columns) ≡ weights_from 0 0 (generators l.problem) (coefficient l.columns))
