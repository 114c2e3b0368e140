use Rattle.std.proofs.Common.{ap, ◌∙◌, sym, arith, ◌<◌, ◌-◌, ◌^◌, to_z-of_z, FitsSigned, rules}
use Rattle.it_space.specs.Rows.{one_at}
use Rattle.it_space.proofs.SpaceLemmas.{few_sets}
use Rattle.it_polymatroid.specs.Elementals.{elemental_at, elemental_value}
use Rattle.it_elemental.proofs.PlaceLemmas.{is_elemental}
use Rattle.it_elemental.proofs.RowLemmas.{coefficient-row, within-row}
use Rattle.it_elemental.proofs.GeneratorLemmas.{no_coefficient_beyond}
use Rattle.it_elemental.proofs.generators.elemental_coefficient.Goals as goal
use mir.Syntax.{w128}

pub returns-then-coordinate-n : goal.returns-then-coordinate-n
returns-then-coordinate-n c =
    let fits : FitsSigned w128 c.coefficient.result = search rules in
    let below : 0 < c.from_number.result = omega (arith, c.from_number.ensures) in
    to_z-of_z fits ∙ c.coefficient.ensures.coordinate below ∙ ap (λ s. elemental_value c.args.n (one_at s)
    (elemental_at c.args.n c.args.index)) c.from_number.ensures
    ∙ sym (coefficient-row c.args.n c.args.coordinate (elemental_at c.args.n c.args.index) (omega arith))

pub returns-else-coordinate-n : goal.returns-else-coordinate-n
returns-else-coordinate-n c = sym (no_coefficient_beyond (2 ^ c.args.n - 1) _ c.args.coordinate
    (within-row c.args.n (elemental_at c.args.n c.args.index) (is_elemental c.args.n c.args.index c.requires.listed))
    (omega (arith, few_sets c.args.n c.requires.few)))
