use Rattle.std.proofs.Common.{rules, ◌-◌, ◌^◌, ◌∙◌, ap, FitsSigned, to_z-of_z}
use Rattle.it_polymatroid.specs.Tables.{value_at}
use Rattle.it_elemental.proofs.FitLemmas.{table_conditional_value}
use Rattle.it_elemental.proofs.broken.conditional_entropy.Goals as goal
use mir.Syntax.{w128}

pub returns : goal.returns
returns c =
    let whole : FitsSigned w128 c.at.result = search rules in
    let part : FitsSigned w128 c.at-2.result = search rules in
    let value = simp to_z-of_z at c.difference.ensures in
    table_conditional_value c.args.table.now c.args.table.now.variables c.args.of c.difference.result c.at.result c.at-2.result c.at.ensures.table
    (c.at.ensures.value ∙ ap (value_at c.args.table.now) (c.all_variables.ensures ∙ ap (λ n. 2 ^ n - 1) c.variables-n.ensures.value))
    (c.at-2.ensures.value ∙ ap (value_at c.args.table.now) (c.all_but.ensures ∙ ap (λ n. 2 ^ n - 1 - 2 ^ c.args.of) c.variables-n.ensures.value)) value
