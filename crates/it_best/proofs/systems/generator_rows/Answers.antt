use Rattle.std.proofs.Common.{arith, ap, map, ◌∙◌, ◌++◌, ◌∷◌, []}
use Rattle.it_space.specs.Rows.{Terms}
use Rattle.it_elemental.specs.Generators.{Generator, generators}
use Rattle.it_best.proofs.WalkLemmas.{generator_more}
use Rattle.it_best.proofs.systems.generator_rows.Goals as goal

pub loop-index-preserved : goal.loop-index-preserved
loop-index-preserved c =
    let gs = generators c.args.problem.now in
    generator_more (λ (g : Generator). g.row) gs c.loop-index.index c.loop-index.rows.items c.push.new.self.items
    (map (λ (g : Generator). g.row) gs) (omega (arith, c.generator_count-index-end.ensures))
    (c.in_ok-push.ensures.items ∙ ap (λ (r : Terms). c.loop-index.rows.items ++ r ∷ []) c.in_ok-row.ensures) c.loop-index.invariant
