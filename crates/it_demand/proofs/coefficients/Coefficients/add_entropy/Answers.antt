use Rattle.std.proofs.Common.{FitsSigned, to_z-of_z}
use Rattle.it_demand.proofs.CoefficientLemmas.{added_entropy}
use Rattle.it_demand.proofs.coefficients.Coefficients.add_entropy.Goals as goal
use mir.Syntax.{w128}

pub returns : goal.returns
returns c =
    let f : FitsSigned w128 c.args.times = c.ranges.times in
    added_entropy _ _ _ c.args.times _ c.args.given (simp (to_z-of_z, c.union.ensures) at c.add_set.ensures) (simp to_z-of_z at c.take_set.ensures)
