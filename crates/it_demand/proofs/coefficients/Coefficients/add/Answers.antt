use Rattle.std.proofs.Common.{◌+◌, ◌<◌, ◌^◌, ℤ, ◌*ℤ◌, unsigned_abs, List, length, sym, subst, FitsSigned, to_z-of_z}
use Rattle.it_demand.specs.Coefficients.{mass, IsFormAdded}
use Rattle.it_demand.proofs.CoefficientLemmas.{room-fits, form_added}
use Rattle.it_demand.proofs.coefficients.Coefficients.add.Goals as goal
use mir.Syntax.{w128}

pub unreachable-requires : goal.unreachable-requires
unreachable-requires c =
    let f : FitsSigned w128 c.args.times = c.ranges.times in
    let wide = simp to_z-of_z at c.in_default.ensures.wide in
    wide (room-fits c.self.inside.sums c.args.coordinate c.args.times (subst
    (λ (xs : List ℤ). mass xs + unsigned_abs c.args.times < 2 ^ 127) (sym c.self.view_is) c.requires.room))

pub returns : goal.returns
returns c =
    let f : FitsSigned w128 c.args.times = c.ranges.times in
    let added = simp to_z-of_z at c.in-Ok.ensures.added in
    let within : c.args.coordinate < length c.self.inside.sums = subst (λ (xs : List ℤ). c.args.coordinate < length xs)
    (sym c.self.view_is) c.requires.within in
    subst (λ (xs : List ℤ). IsFormAdded xs c.add.new.self (unsigned_abs c.args.times) (λ p. c.args.times *ℤ p c.args.coordinate)) c.self.view_is
    (form_added c.self.inside.sums c.add.new.self c.args.coordinate c.args.times within added)
