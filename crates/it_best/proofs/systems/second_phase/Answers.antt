use Rattle.std.proofs.Common.{arith, map}
use Rattle.it_elemental.specs.Generators.{generator_at, generators}
use Rattle.it_best.specs.Phases.{unknown_views}
use Rattle.it_best.proofs.WalkLemmas.{generator_more, views_pushed}
use Rattle.it_best.proofs.systems.second_phase.Goals as goal

pub loop-index-preserved : goal.loop-index-preserved
loop-index-preserved c =
    let gs = generators c.args.problem.now in
    generator_more (λ g. g) gs c.loop-index.index (unknown_views c.loop-index.unknowns.items) (unknown_views c.push.new.self.items)
    (map (λ g. g) gs) (omega (arith, c.generator_count-index-end.ensures))
    (views_pushed c.loop-index.unknowns.items c.push.new.self.items _ (generator_at gs c.loop-index.index) c.in_ok-push.ensures.items
    c.in_ok-unknown.ensures) c.loop-index.invariant
