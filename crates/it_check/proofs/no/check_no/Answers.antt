use Rattle.std.proofs.Common.{Some, None, length}
use Rattle.it_space.specs.Rows.{point_of}
use Rattle.it_polymatroid.specs.Elementals.{elementals}
use Rattle.it_elemental.specs.Generators.{generators}
use Rattle.it_check.proofs.NoSteps.{by_generators, by_target}
use Rattle.it_check.proofs.no.check_no.Goals as goal

pub returns-in-Some : goal.returns-in-Some
returns-in-Some c = let q = c.args.problem.now in
    by_generators (length (elementals q.space.variables)) (generators q) c.args.target.now (point_of c.args.point.now) c.in-Some.verdict c.in-Some.ensures

pub returns-in-Some-of_target : goal.returns-in-Some-of_target
returns-in-Some-of_target c = let q = c.args.problem.now in
    by_target (length (elementals q.space.variables)) (generators q) c.args.target.now (point_of c.args.point.now)
    (Some c.in-Some-of_target.verdict) c.in_default.ensures c.in-Some-of_target.ensures

pub returns-in-None : goal.returns-in-None
returns-in-None c = let q = c.args.problem.now in
    by_target (length (elementals q.space.variables)) (generators q) c.args.target.now (point_of c.args.point.now) None c.in_default.ensures c.in-None.ensures
