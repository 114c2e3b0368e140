use Rattle.std.proofs.Common.{rules, ◌≡◌, pos, neg_ℤ, ◌+ℤ◌, FitsSigned, to_z-of_z, arith}
use Rattle.std.proofs.lemmas.Int.{ints}
use Rattle.it_demand.proofs.CoefficientLemmas.{added_negated}
use Rattle.it_demand.proofs.coefficients.Coefficients.take_set.Goals as goal
use mir.Syntax.{w128}

pub returns : goal.returns
returns c =
    let f : FitsSigned w128 c.args.times = c.ranges.times in
    let g : FitsSigned w128 (neg_ℤ c.args.times) = search rules in
    let e : pos 0 +ℤ neg_ℤ c.args.times ≡ neg_ℤ c.args.times = omega (arith, ints) in
    added_negated _ _ c.args.times c.args.set (simp (to_z-of_z, e) at c.add_set.ensures)
