use Rattle.std.proofs.Common.{rules, FitsSigned, to_z-of_z, sym, ap, ◌∙◌}
use Rattle.it_space.specs.Rows.{coefficient}
use Rattle.it_elemental.specs.Generators.{generators, generator_at}
use Rattle.it_space.proofs.TermLemmas.{value-one_at}
use Rattle.it_lift.proofs.excesses.coefficient_at_set.Goals as goal
use mir.Syntax.{w128}

pub returns : goal.returns
returns c =
    let row = (generator_at (generators c.args.problem.now) c.args.index).row in
    let f : FitsSigned w128 c.coefficient_at.result = search rules in
    rw (to_z-of_z f) (c.coefficient_at.ensures ∙ ap (coefficient row) c.number.ensures ∙ sym (value-one_at row c.args.set))
