use Rattle.std.proofs.Common.{◌≡◌, ◌+◌, ◌-◌, ◌<◌, sym, ap, get_or, ◌∙◌, arith}
use Rattle.it_contain.specs.Shapes.{small_sets}
use Rattle.it_contain.proofs.TupleLemmas.{at_small_sets, length_small_sets}
use Rattle.it_contain.proofs.singles.SmallSetsPartSets.set_at.Goals as goal

pub returns-else-number-eq0 : goal.returns-else-number-eq0
returns-else-number-eq0 c =
    let lt : c.args.number - 1 < c.args._variables = omega (arith, c.requires.within, length_small_sets c.args._variables, c.if-number-eq0.false) in
    let back : c.args.number - 1 + 1 ≡ c.args.number = omega (arith, c.if-number-eq0.false) in
    c.single.ensures ∙ sym (at_small_sets c.args._variables (c.args.number - 1) lt) ∙ ap (λ k. get_or (small_sets c.args._variables) k 0) back
