use Rattle.std.proofs.Common.{ℕ, ℤ, ◌+◌, ◌*ℤ◌, arith, drop, get_or, pos}
use Rattle.it_terms.proofs.SumLemmas.{item_read, part_added-more, part_added-all, times_form, times_form-splits, times_form-nothing}
use Rattle.it_terms.proofs.sums.add_terms.Goals as goal

pub loop-term-preserved : goal.loop-term-preserved
loop-term-preserved c =
    let i = c.loop-term.term-index in
    let times : ℤ = c.args.weight.now.1 in
    let term : ℕ × ℤ = get_or c.args.terms.now i (0, pos 0) in
    part_added-more (times_form times) (λ p. times *ℤ (term.1 *ℤ p term.0)) c.args.sums.now c.loop-term.sums c.add_term.new.sums
    c.args.terms.now i term (omega arith) (item_read c.args.terms.now i (0, pos 0) (omega arith))
    (times_form-splits times term (drop (i + 1) c.args.terms.now)) c.in_ok-add_term.ensures c.loop-term.invariant

pub returns : goal.returns
returns c = part_added-all (times_form c.args.weight.now.1) c.args.sums.now c.loop-term.sums c.args.terms.now c.loop-term.term-index
    (omega arith) (times_form-nothing c.args.weight.now.1) c.loop-term.invariant
