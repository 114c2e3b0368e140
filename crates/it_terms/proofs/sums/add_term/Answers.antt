use Rattle.std.proofs.Common.{rules, to_z-of_z, arith, FitsSigned}
use Rattle.it_terms.proofs.SumLemmas.{plus_from_added}
use Rattle.it_terms.proofs.sums.add_term.Goals as goal
use mir.Syntax.{w128}

pub returns : goal.returns
returns c =
    let often : FitsSigned w128 c.args.weight.now.1 = search rules in
    let number : FitsSigned w128 c.args.term.now.1 = search rules in
    let amount : FitsSigned w128 c.in_ok-amount.amount = search rules in
    plus_from_added c.args.sums.now c.add.new.self c.args.term.now.0 c.args.weight.now.1 c.args.term.now.1 c.in_ok-amount.amount
    (omega arith) (simp to_z-of_z at c.in_ok-amount.ensures.1)
    (simp to_z-of_z at c.in_ok-add.ensures.added)
