use Rattle.std.proofs.Common.{◌≡◌, ◌∙◌, sym, ap, arith, ◌-◌, get_or}
use Rattle.it_space.specs.Rows.{Terms}
use Rattle.it_polymatroid.specs.Elementals.{elemental_at}
use Rattle.it_elemental.specs.Rows.{elemental_row}
use Rattle.it_run.proofs.AnswerLemmas.{if_ok}
use Rattle.it_elemental.specs.Generators.{generators, generator_at}
use Rattle.it_elemental.proofs.GeneratorLemmas.{length-listed, front_is, after_is}
use Rattle.it_columns.proofs.rows.generator_row.Goals as goal

pub returns-then-index-elementals : goal.returns-then-index-elementals
returns-then-index-elementals c =
    let n = c.space-n.result.variables in
    rw (← c.space-n.ensures.value) (if_ok c.row.result (λ (r : Terms). r ≡ elemental_row n (elemental_at n c.args.index))
    (λ (r : Terms). r ≡ (generator_at (generators (record { space = c.space-n.result; constraints = c.args.problem.now.constraints }))
    c.args.index).row) c.row.ensures.terms
    (λ r e. e ∙ sym (ap (λ g. g.row) (front_is n c.args.problem.now.constraints c.args.index c.count-elementals.result
    c.count-elementals.ensures c.if-index-elementals.true))))

pub bounds-constraints-index : goal.bounds-constraints-index
bounds-constraints-index c = rw c.constraints.ensures.value
    (grind (
      arith,
      length-listed c.args.problem.now.space.variables c.args.problem.now.constraints,
      c.space-n.ensures.value,
      c.count-elementals.ensures,
    ))

pub returns : goal.returns
returns c =
    let n = c.space-n.result.variables in
    let cs = c.constraints.result.now in
    rw (← c.space-n.ensures.value, ← c.constraints.ensures.value) (if_ok c.copy.result
    (λ (r : Terms). r ≡ (get_or cs (c.args.index - c.count-elementals.result) c.index-constraints-index.result).row)
    (λ (r : Terms). r ≡ (generator_at (generators (record { space = c.space-n.result; constraints = cs })) c.args.index).row)
    c.copy.ensures
    (λ r e. e ∙ sym (ap (λ d. d.row) c.index-constraints-index.is)
    ∙ sym (ap (λ g. g.row) (after_is n cs c.args.index c.count-elementals.result c.index-constraints-index.result
    c.count-elementals.ensures c.if-index-elementals.false (rw (c.space-n.ensures.value, c.constraints.ensures.value) c.requires.listed)
    c.index-constraints-index.is))))
