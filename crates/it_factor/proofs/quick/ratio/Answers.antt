use Rattle.std.proofs.Common.{rules, ◌≡◌, ◌≢◌, FitsSigned, to_z-of_z, pos, ◌*ℤ◌, sym, subst}
use Rattle.std.specs.Int.{w128}
use Rattle.it_rational.specs.Rational.{Rational}
use Rattle.it_factor.proofs.QuickLemmas.{ratio_is}
use Rattle.it_factor.proofs.quick.ratio.Goals as goal

pub returns : goal.returns
returns c =
    let some : c.args.above ≢ pos 0 = search rules in
    let above_fits : FitsSigned w128 c.args.above = search rules in
    let below_fits : FitsSigned w128 c.args.below = search rules in
    let is = simp to_z-of_z at c.lowest.ensures in
    subst (λ (x : Rational). pos x.den *ℤ c.args.below ≡ x.num *ℤ c.args.above) (sym is) (ratio_is c.args.above c.args.below some)
