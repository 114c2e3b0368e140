use Rattle.std.proofs.Common.{◌∙◌, sym, ap, arith, ◌-◌, length, get_or, rules, FitsSigned, to_z-of_z}
use Rattle.it_space.specs.Rows.{coefficient}
use Rattle.it_polymatroid.specs.Elementals.{elementals}
use Rattle.it_elemental.proofs.GeneratorLemmas.{length-listed, front_is, after_is}
use Rattle.it_elemental.proofs.generators.coefficient_at.Goals as goal
use mir.Syntax.{w128}

pub bounds-constraints-index : goal.bounds-constraints-index
bounds-constraints-index c = rw c.constraints.ensures.value
    (grind (
      arith,
      length-listed c.args.problem.now.space.variables c.args.problem.now.constraints,
      c.space-n.ensures.value,
      c.count-elementals.ensures,
    ))

pub returns-then-index-elementals : goal.returns-then-index-elementals
returns-then-index-elementals c =
    let q = c.args.problem.now in
    let fits : FitsSigned w128 c.coefficient.result = search rules in
    let count = c.count-elementals.ensures ∙ ap (λ s. length (elementals s.variables)) c.space-n.ensures.value in
    let is = c.index-constraints-index.is ∙ ap (λ cs. get_or cs (c.args.index - c.count-elementals.result) c.index-constraints-index.result)
    c.constraints.ensures.value in
    to_z-of_z fits ∙ c.coefficient.ensures.value
    ∙ rw (← c.index-constraints-index.is) (sym (ap (λ g. coefficient g.row c.args.coordinate)
    (after_is q.space.variables q.constraints c.args.index c.count-elementals.result c.index-constraints-index.result count
    c.if-index-elementals.true c.requires.listed is)))

pub returns : goal.returns
returns c =
    let q = c.args.problem.now in
    let fits : FitsSigned w128 c.elemental_coefficient.result = search rules in
    let count = c.count-elementals.ensures ∙ ap (λ s. length (elementals s.variables)) c.space-n.ensures.value in
    to_z-of_z fits ∙ c.elemental_coefficient.ensures
    ∙ rw c.space-n.ensures.value (sym (ap (λ g. coefficient g.row c.args.coordinate)
    (front_is q.space.variables q.constraints c.args.index c.count-elementals.result count c.if-index-elementals.false)))
