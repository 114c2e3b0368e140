use Rattle.std.proofs.Common.{◌≡◌, ◌<◌, ◌∙◌, ℕ, ℤ, pos, get_or, length, ap, arith}
use Rattle.std.proofs.lemmas.List.{get_or_default}
use Rattle.it_space.specs.Rows.{Terms}
use Rattle.it_space.specs.Spaces.{size_of}
use Rattle.it_region.specs.Pairs.{pair_coordinate}
use Rattle.it_region.proofs.RowLemmas.{goes_on, row_at_end}
use Rattle.it_region.proofs.pulled_rows.pulled_row.Goals as goal

pub loop-term-preserved : goal.loop-term-preserved
loop-term-preserved c =
    let items : Terms = c.terms-term-items.result.now in
    let i : ℕ = c.loop-term.term-index in
    let t : ℕ × ℤ = get_or items i (0, pos 0) in
    let below : i < length items = c.loop-term-test.true in
    let same : items ≡ c.args.row.now = c.terms-term-items.ensures.value in
    goes_on (pair_coordinate c.args.pair.now c.args.sets.now) c.args.negated c.args.row.now
    (size_of c.args.pair.now.first.space) c.loop-term.sums c.add_term.new.sums i t
    (omega (arith, below, ap length same)) (get_or_default items i (0, pos 0) t below ∙ ap (λ (ts : Terms). get_or ts i t) same)
    c.add_term.ensures c.loop-term.invariant

pub returns : goal.returns
returns c = row_at_end c.args.pair.now.first.space (pair_coordinate c.args.pair.now c.args.sets.now) c.args.negated c.args.row.now
    c.loop-term.sums c.loop-term.term-index c.into_row.result
    (omega (arith, c.loop-term-test.false, ap length c.terms-term-items.ensures.value)) c.loop-term.invariant c.into_row.ensures.same
    c.into_row.ensures.coordinates c.into_row.ensures.canonical
