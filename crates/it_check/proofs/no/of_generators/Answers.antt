use Rattle.std.proofs.Common.{length, arith}
use Rattle.it_space.specs.Rows.{point_of}
use Rattle.it_polymatroid.specs.Elementals.{elementals}
use Rattle.it_elemental.specs.Generators.{generators}
use Rattle.it_check.proofs.NoSteps.{generators_found, generators_more, generators_done}
use Rattle.it_check.proofs.no.of_generators.Goals as goal

pub returns-in-Some : goal.returns-in-Some
returns-in-Some c = let q = c.args.problem.now in
    generators_found (length (elementals q.space.variables)) (generators q)
    (point_of c.args.point.now) c.loop-index.index c.loop-index.invariant c.in-Some.verdict
    (omega (arith, c.generator_count-index-end.ensures)) c.in-Some.ensures

pub loop-index-preserved : goal.loop-index-preserved
loop-index-preserved c = let q = c.args.problem.now in
    generators_more (length (elementals q.space.variables)) (generators q)
    (point_of c.args.point.now) c.loop-index.index c.loop-index.invariant
    (omega (arith, c.generator_count-index-end.ensures)) c.in_default.ensures

pub returns : goal.returns
returns c = let q = c.args.problem.now in
    generators_done (length (elementals q.space.variables)) (generators q)
    (point_of c.args.point.now) c.loop-index.index c.loop-index.invariant (omega (arith, c.generator_count-index-end.ensures))
