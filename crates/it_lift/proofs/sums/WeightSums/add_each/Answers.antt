use Rattle.std.proofs.Common.{rules, ◌<◌, ℕ, pos, length, get_or, arith}
use Rattle.std.proofs.lemmas.List.{get_or_default}
use Rattle.it_lift.proofs.SumSteps.{each-more, each-stops}
use Rattle.it_lift.proofs.sums.WeightSums.add_each.Goals as goal

pub returns-in_err-add-clause-wide : goal.returns-in_err-add-clause-wide
returns-in_err-add-clause-wide c =
    let k : ℕ = c.loop-index.index-index in
    let i : ℕ = get_or c.args.indexes.now k 0 in
    let below : k < length c.args.indexes.now = omega arith in
    let stops = each-stops (pos c.args.amount) c.args.indexes.now k i c.args.self.now c.loop-index.self below
    (get_or_default c.args.indexes.now k 0 i below) c.loop-index.invariant c.in_err-add.ensures.wide in
    search (rules, stops)

pub loop-index-preserved : goal.loop-index-preserved
loop-index-preserved c =
    let k : ℕ = c.loop-index.index-index in
    let i : ℕ = get_or c.args.indexes.now k 0 in
    let below : k < length c.args.indexes.now = omega arith in
    each-more (pos c.args.amount) c.args.indexes.now k i c.args.self.now c.loop-index.self c.add.new.self below
    (get_or_default c.args.indexes.now k 0 i below) c.loop-index.invariant c.in_ok-add.ensures.added
