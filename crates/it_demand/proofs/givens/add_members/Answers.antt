use Rattle.std.proofs.Common.{ℕ, pos, ◌*ℤ◌, arith}
use Rattle.std.proofs.lemmas.Int.{ints}
use Rattle.it_syntax.specs.declared.types.Atom.TheVariants.{Entropy}
use Rattle.it_syntax.specs.Meaning.{atom_at}
use Rattle.it_syntax.specs.Givens.{sum_of_conditionals}
use Rattle.it_demand.proofs.ListLemmas.{under_way-more}
use Rattle.it_demand.proofs.givens.add_members.Goals as goal

pub loop-member-preserved : goal.loop-member-preserved
loop-member-preserved c =
    let n : ℕ = c.args.space.variables in
    let member : ℕ = c.member-item.result in
    under_way-more (λ members p. sum_of_conditionals n p members c.args.given) (λ p. pos 1 *ℤ atom_at n p (Entropy member c.args.given)) 4 4
    c.args.sums.now c.loop-member.sums c.add_atom.new.self c.args.members.now c.loop-member.member-index member
    (omega arith) c.member-item.is (λ p. omega (arith, ints)) (omega arith) c.add_atom.ensures c.loop-member.invariant
