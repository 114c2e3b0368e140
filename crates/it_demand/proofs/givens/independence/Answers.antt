use Rattle.std.proofs.Common.{◌≡◌, ◌+◌, ◌*◌, ℕ, ℤ, negsuc, ◌*ℤ◌, ◌+ℤ◌, ◌-ℤ◌, ap, ◌∙◌, length, arith}
use Rattle.std.proofs.lemmas.Int.{ints}
use Rattle.it_syntax.specs.declared.types.Atom.TheVariants.{Entropy}
use Rattle.it_syntax.specs.Meaning.{atom_at}
use Rattle.it_syntax.specs.Givens.{sum_of_conditionals}
use Rattle.it_demand.specs.Demands.{independence_form}
use Rattle.it_demand.proofs.ChainLemmas.{union_below}
use Rattle.it_demand.proofs.RowLemmas.{row_of_sums}
use Rattle.it_demand.proofs.CoefficientLemmas.{added-same, added-trans}
use Rattle.it_demand.proofs.givens.independence.Goals as goal

pub add_atom-requires-clause-atom : goal.add_atom-requires-clause-atom
add_atom-requires-clause-atom c = rw c.union_of.ensures (union_below c.args.space.variables c.args.members.now c.requires.within.within, c.requires.given)

pub returns : goal.returns
returns c =
    let n : ℕ = c.args.space.variables in
    let sum : (ℕ → ℤ) → ℤ = λ p. sum_of_conditionals n p c.args.members.now c.args.given in
    let joint : (ℕ → ℤ) → ℤ = λ p. negsuc 0 *ℤ atom_at n p (Entropy c.union_of.result c.args.given) in
    row_of_sums c.args.space c.in_ok-sums.sums c.add_atom.new.self (4 * length c.args.members.now + 4)
    (independence_form n c.args.members.now c.args.given) c.into_row.result c.in_ok-sums.ensures.complete
    c.in_ok-sums.ensures.small c.in_ok-sums.ensures.zero (omega (arith, c.requires.within.few))
    (added-same c.in_ok-sums.sums c.add_atom.new.self (4 * length c.args.members.now + 4) (4 * length c.args.members.now + 4)
    (λ p. sum p +ℤ joint p) (independence_form n c.args.members.now c.args.given) (omega arith)
    (λ p. minus_one_times (sum p) (atom_at n p (Entropy c.union_of.result c.args.given))
    ∙ ap (λ (u : ℕ). sum p -ℤ atom_at n p (Entropy u c.args.given)) c.union_of.ensures)
    (added-trans c.in_ok-sums.sums c.add_members.new.sums c.add_atom.new.self
    (4 * length c.args.members.now) 4 sum joint c.add_members.ensures c.add_atom.ensures))
    c.into_row.ensures.same c.into_row.ensures.coordinates c.into_row.ensures.canonical c.into_row.ensures.bounded
  where
    minus_one_times : (x y : ℤ) → x +ℤ negsuc 0 *ℤ y ≡ x -ℤ y
    minus_one_times x y = omega (arith, ints)
