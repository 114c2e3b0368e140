use Rattle.std.proofs.Common.{◌∙◌, sym, ap, arith, ◌-◌, length, get_or}
use Rattle.it_polymatroid.specs.Elementals.{elementals}
use Rattle.it_elemental.proofs.GeneratorLemmas.{length-listed, front_is, after_is}
use Rattle.it_elemental.proofs.generators.kind_at.Goals as goal

pub returns-then-index-elementals : goal.returns-then-index-elementals
returns-then-index-elementals c =
    let q = c.args.problem.now in
    let count = c.count-elementals.ensures ∙ ap (λ s. length (elementals s.variables)) c.space.ensures.value in
    sym (ap (λ g. g.kind) (front_is q.space.variables q.constraints c.args.index c.count-elementals.result count c.if-index-elementals.true))

pub bounds-constraints-index : goal.bounds-constraints-index
bounds-constraints-index c = rw c.constraints.ensures.value
    (grind (
      arith,
      length-listed c.args.problem.now.space.variables c.args.problem.now.constraints,
      c.space.ensures.value,
      c.count-elementals.ensures,
    ))

pub returns : goal.returns
returns c =
    let q = c.args.problem.now in
    let count = c.count-elementals.ensures ∙ ap (λ s. length (elementals s.variables)) c.space.ensures.value in
    let is = c.index-constraints-index.is ∙ ap (λ cs. get_or cs (c.args.index - c.count-elementals.result) c.index-constraints-index.result)
    c.constraints.ensures.value in
    rw (← c.index-constraints-index.is) (sym (ap (λ g. g.kind) (after_is q.space.variables q.constraints c.args.index
    c.count-elementals.result c.index-constraints-index.result count c.if-index-elementals.false c.requires.listed is)))

pub bounds-constraints-index-else-index-elementals : goal.bounds-constraints-index-else-index-elementals
bounds-constraints-index-else-index-elementals c = rw c.constraints.ensures.value
    (grind (
      arith,
      length-listed c.args.problem.now.space.variables c.args.problem.now.constraints,
      c.space.ensures.value,
      c.count-elementals.ensures,
    ))
