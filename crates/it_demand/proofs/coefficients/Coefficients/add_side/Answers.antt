use Rattle.std.proofs.Common.{rules, ◌*◌, ◌*ℤ◌, ◌+◌, ◌^◌, ℤ, unsigned_abs, arith, drop, FitsSigned, to_z-of_z}
use Rattle.it_syntax.specs.Meaning.{atom_at}
use Rattle.it_demand.proofs.ListLemmas.{under_way-more, side_form, side-splits}
use Rattle.it_demand.proofs.coefficients.Coefficients.add_side.Goals as goal
use mir.Syntax.{w128}

pub loop-term-preserved : goal.loop-term-preserved
loop-term-preserved c =
    let n = c.args.space.variables in
    let times : ℤ = c.multiplicity.result in
    let fits : FitsSigned w128 times = search (rules, c.multiplicity.ensures.small) in
    under_way-more (side_form n c.args.multiple c.args.negative) (λ p. times *ℤ atom_at n p c.term-item.result.atom) (2 ^ 98) (4 * unsigned_abs times)
    c.args.self.now c.loop-term.self c.add_atom.new.self c.args.terms.now c.loop-term.term-index c.term-item.result
    (omega arith) c.term-item.is (side-splits n c.args.multiple c.args.negative c.term-item.result
    (drop (c.loop-term.term-index + 1) c.args.terms.now) times c.multiplicity.ensures.value)
    (omega (arith, c.multiplicity.ensures.small)) (simp to_z-of_z at c.add_atom.ensures) c.loop-term.invariant
