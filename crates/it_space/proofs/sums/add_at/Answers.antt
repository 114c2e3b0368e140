use Rattle.std.proofs.Common.{rules, ℤ, pos, get_or, FitsSigned, to_z-of_z}
use Rattle.it_space.proofs.SumLemmas.{added-set}
use Rattle.it_space.proofs.sums.add_at.Goals as goal
use mir.Syntax.{w128}

pub returns-clause-added : goal.returns-clause-added
returns-clause-added c =
    let x : ℤ = get_or c.args.values.now c.args.place (pos 0) in
    let f : FitsSigned w128 x = search rules in
    let g : FitsSigned w128 c.in_ok-values.field-0 = search rules in
    let h : FitsSigned w128 c.args.amount = c.ranges.amount in
    let e = simp to_z-of_z at c.in_ok-values.ensures in
    rw (to_z-of_z g) (added-set c.args.values.now c.args.place c.args.amount c.in_ok-values.field-0 c.requires e.1 e.0)
