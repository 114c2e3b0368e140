use Rattle.std.proofs.Common.{ℕ, pos, ◌*ℤ◌, arith}
use Rattle.std.proofs.lemmas.Int.{ints}
use Rattle.it_syntax.specs.Meaning.{atom_at}
use Rattle.it_demand.proofs.RowLemmas.{row_of_sums}
use Rattle.it_demand.proofs.CoefficientLemmas.{added-same}
use Rattle.it_demand.proofs.givens.row_of.Goals as goal

pub into_row-requires-clause-complete : goal.into_row-requires-clause-complete
into_row-requires-clause-complete c = omega (arith, c.in_ok-sums.ensures.few, c.add_atom.ensures.complete)

pub returns : goal.returns
returns c =
    let n : ℕ = c.args.space.variables in
    row_of_sums c.args.space c.in_ok-sums.sums c.add_atom.new.self _ (λ p. atom_at n p c.args.atom) c.into_row.result
    c.in_ok-sums.ensures.complete c.in_ok-sums.ensures.small c.in_ok-sums.ensures.zero (omega arith)
    (added-same _ _ 4 4 (λ p. pos 1 *ℤ atom_at n p c.args.atom) (λ p. atom_at n p c.args.atom) (omega arith) (λ p. omega (arith, ints)) c.add_atom.ensures)
    c.into_row.ensures.same c.into_row.ensures.coordinates c.into_row.ensures.canonical c.into_row.ensures.bounded
