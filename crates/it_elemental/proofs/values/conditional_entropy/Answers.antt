use Rattle.std.proofs.Common.{rules, ◌∙◌, ap, FitsSigned, to_z-of_z}
use Rattle.it_space.specs.Rows.{point_of}
use Rattle.it_elemental.proofs.ValueLemmas.{conditional_value}
use Rattle.it_elemental.proofs.values.conditional_entropy.Goals as goal
use mir.Syntax.{w128}

pub returns : goal.returns
returns c =
    let whole : FitsSigned w128 c.at_set.result = search rules in
    let part : FitsSigned w128 c.at_set-2.result = search rules in
    let value = simp to_z-of_z at c.difference.ensures in
    conditional_value c.args.point.now c.args.n c.args.of c.difference.result c.at_set.result c.at_set-2.result c.at_set.ensures.within
    (c.at_set.ensures.value ∙ ap (point_of c.args.point.now) c.all_variables.ensures)
    (c.at_set-2.ensures.value ∙ ap (point_of c.args.point.now) c.all_but.ensures) value
