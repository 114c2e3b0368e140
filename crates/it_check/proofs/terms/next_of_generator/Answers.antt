use Rattle.std.proofs.Common.{◌∙◌, sym, ap, subst, arith, ◌-◌, length, get_or}
use Rattle.it_polymatroid.specs.Elementals.{elementals}
use Rattle.it_elemental.specs.Generators.{Generator}
use Rattle.it_elemental.proofs.GeneratorLemmas.{length-listed, front_is, after_is}
use Rattle.it_check.specs.NextTerms.{IsNextTerm}
use Rattle.it_check.proofs.terms.next_of_generator.Goals as goal

pub bounds-constraints-index : goal.bounds-constraints-index
bounds-constraints-index c = rw c.constraints.ensures.value
    (grind (
      arith,
      length-listed c.args.problem.now.space.variables c.args.problem.now.constraints,
      c.space-n.ensures.value,
      c.count-elementals.ensures,
    ))

pub returns-then-index-elementals : goal.returns-then-index-elementals
returns-then-index-elementals c =
    let q = c.args.problem.now in
    let count = c.count-elementals.ensures ∙ ap (λ s. length (elementals s.variables)) c.space-n.ensures.value in
    let is = c.index-constraints-index.is ∙ ap (λ cs. get_or cs (c.args.index - c.count-elementals.result) c.index-constraints-index.result)
    c.constraints.ensures.value in
    subst (λ (g : Generator). IsNextTerm c.args.from g.row c.next_of_row.result)
    (sym (after_is q.space.variables q.constraints c.args.index c.count-elementals.result c.index-constraints-index.result count
    c.if-index-elementals.true c.requires.listed is)) (rw (← c.index-constraints-index.is) at c.next_of_row.ensures)

pub returns : goal.returns
returns c =
    let q = c.args.problem.now in
    let count = c.count-elementals.ensures ∙ ap (λ s. length (elementals s.variables)) c.space-n.ensures.value in
    subst (λ (g : Generator). IsNextTerm c.args.from g.row c.next_of_elemental.result)
    (sym (front_is q.space.variables q.constraints c.args.index c.count-elementals.result count c.if-index-elementals.false))
    (rw (← c.space-n.ensures.value) c.next_of_elemental.ensures)
