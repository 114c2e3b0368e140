use Rattle.std.proofs.Common.{rules, ◌≡◌, ◌<◌, true, false, drop, length, arith}
use Rattle.it_spans.specs.HullRows.{same_first}
use Rattle.it_spans.specs.Verdicts.{first_difference}
use Rattle.it_spans.proofs.VerdictLemmas.{difference_found, difference_goes, difference_last}
use Rattle.it_spans.proofs.verdicts.first_difference.Goals as goal

pub returns-then-not-is_same_at : goal.returns-then-not-is_same_at
returns-then-not-is_same_at c =
    let other : same_first (drop c.loop-place.place c.args.rows.now) (drop c.loop-place.place c.args.others.now) ≡ false = search rules in
    difference_found c.args.rows.now c.args.others.now c.loop-place.place
    (first_difference 0 c.args.rows.now c.args.others.now) c.loop-place-test.true other c.loop-place.invariant.1

pub loop-place-preserved : goal.loop-place-preserved
loop-place-preserved c =
    let same : same_first (drop c.loop-place.place c.args.rows.now) (drop c.loop-place.place c.args.others.now) ≡ true = search rules in
    let l = c.loop-place-test.true in (
      omega (arith, l),
      difference_goes c.args.rows.now c.args.others.now c.loop-place.place (first_difference 0 c.args.rows.now c.args.others.now) same c.loop-place.invariant.1,
    )

pub returns-then-rows-others : goal.returns-then-rows-others
returns-then-rows-others c =
    let more : length c.args.rows.now < length c.args.others.now = search rules in
    difference_last c.args.rows.now c.args.others.now c.loop-place.place
    (first_difference 0 c.args.rows.now c.args.others.now) c.loop-place-test.false c.loop-place.invariant.0 more
    c.loop-place.invariant.1
