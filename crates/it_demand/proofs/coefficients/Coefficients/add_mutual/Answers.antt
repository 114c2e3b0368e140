use Rattle.std.proofs.Common.{FitsSigned, to_z-of_z}
use Rattle.it_demand.proofs.CoefficientLemmas.{added_mutual}
use Rattle.it_demand.proofs.coefficients.Coefficients.add_mutual.Goals as goal
use mir.Syntax.{w128}

pub returns : goal.returns
returns c =
    let f : FitsSigned w128 c.args.times = c.ranges.times in
    added_mutual c.args.self.now c.add_set.new.self c.add_set-2.new.self c.take_set.new.self c.take_set-2.new.self c.args.times _ _ _ c.args.given
    (simp (to_z-of_z, c.union.ensures) at c.add_set.ensures)
    (simp (to_z-of_z, c.union-2.ensures) at c.add_set-2.ensures)
    (simp (to_z-of_z, c.union-4.ensures, c.union-3.ensures) at c.take_set.ensures)
    (simp to_z-of_z at c.take_set-2.ensures)
