use Rattle.std.proofs.Common.{length, ap, ◌∙◌, arith}
use Rattle.it_space.specs.declared.spaces.Space.{Space}
use Rattle.it_polymatroid.specs.Elementals.{elementals}
use Rattle.it_elemental.proofs.GeneratorLemmas.{after_is, front_is, length-listed}
use Rattle.it_print.proofs.proof_lines.write_generator_row.Goals as goal

pub returns-then-generator-elementals : goal.returns-then-generator-elementals
returns-then-generator-elementals c =
    let e = c.count-elementals.ensures ∙ ap (λ (s : Space). length (elementals s.variables)) c.space.ensures.counts in
    rw (front_is (length c.args.names.now.variables) c.args.constraints.now c.args.generator c.count-elementals.result e
    (omega (arith, c.if-generator-elementals.true))) c.write_elemental_row.ensures

pub returns-else-generator-elementals : goal.returns-else-generator-elementals
returns-else-generator-elementals c =
    let n = length c.args.names.now.variables in
    let e = c.count-elementals.ensures ∙ ap (λ (s : Space). length (elementals s.variables)) c.space.ensures.counts in
    rw (after_is n c.args.constraints.now c.args.generator c.count-elementals.result c.index-constraints-generator.result e
    (omega (arith, c.if-generator-elementals.false)) (omega (arith, length-listed n c.args.constraints.now, c.requires.there))
    c.index-constraints-generator.is)
    c.write_constraint_row.ensures
