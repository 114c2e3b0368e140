use Rattle.std.proofs.Common.{◌<◌, ◌-◌, ◌∙◌, sym, ap, subst, arith, length, get_or, OkIff, ℕ}
use Rattle.it_space.specs.Rows.{ValueFits, point_of, value, IsOver}
use Rattle.it_elemental.specs.Generators.{Generator}
use Rattle.it_elemental.proofs.GeneratorLemmas.{length-listed, front_is, after_is}
use Rattle.it_check.proofs.values.generator_value.Goals as goal

pub bounds-constraints-index : goal.bounds-constraints-index
bounds-constraints-index c = rw c.constraints.ensures.value
    (grind (
      arith,
      length-listed c.args.problem.now.space.variables c.args.problem.now.constraints,
      c.space-n.ensures.value,
      c.count-elementals.ensures,
    ))

pub value-requires : goal.value-requires
value-requires c =
    let q = c.args.problem.now in
    let i = c.args.index - c.count-elementals.result in
    let below : i < length q.constraints = grind (arith, length-listed q.space.variables q.constraints, c.space-n.ensures.value, c.count-elementals.ensures) in
    let is = c.index-constraints-index.is ∙ ap (λ cs. get_or cs i c.index-constraints-index.result) c.constraints.ensures.value in
    rw (← c.index-constraints-index.is) (subst (λ (n : ℕ). IsOver n c.index-constraints-index.result.row) (sym c.requires.complete)
    (rw (ap (λ k. k.row) is) (c.facts.ensures.rows i c.index-constraints-index.result below)))

pub returns-then-index-elementals : goal.returns-then-index-elementals
returns-then-index-elementals c =
    let n = c.space-n.result.variables in
    let cs = c.constraints.result.now in
    rw (← c.space-n.ensures.value, ← c.constraints.ensures.value) (subst
    (λ (g : Generator). OkIff c.value.result (ValueFits g.row (point_of c.args.point.now)) (value g.row (point_of c.args.point.now)))
    (sym (after_is n cs c.args.index c.count-elementals.result c.index-constraints-index.result c.count-elementals.ensures
    c.if-index-elementals.true (rw (c.space-n.ensures.value, c.constraints.ensures.value) c.requires.listed)
    c.index-constraints-index.is)) (rw c.index-constraints-index.is c.value.ensures))

pub returns : goal.returns
returns c =
    let n = c.space-n.result.variables in
    rw (← c.space-n.ensures.value) (subst (λ (g : Generator). OkIff c.value_at.result (ValueFits g.row (point_of c.args.point.now))
    (value g.row (point_of c.args.point.now)))
    (sym (front_is n c.args.problem.now.constraints c.args.index c.count-elementals.result c.count-elementals.ensures
    c.if-index-elementals.false)) c.value_at.ensures)
