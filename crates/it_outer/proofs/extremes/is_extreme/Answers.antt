use Rattle.std.proofs.Common.{rules, ◌≡◌, ◌∙◌, false, true, not, sym, ap}
use Rattle.it_outer.specs.Extremes.{is_outdone}
use Rattle.it_outer.proofs.OrderLemmas.{any_here, any_later, any_none, any_of_lists}
use Rattle.it_outer.proofs.extremes.is_extreme.Goals as goal

pub loop-other-preserved : goal.loop-other-preserved
loop-other-preserved c =
    let no : is_outdone c.args.list.now c.other-item.result.items ≡ false = search rules in
    any_later (λ v. is_outdone c.args.list.now v.items) c.args.lists.now c.loop-other.other-index c.other-item.result c.loop-other-test.true
    c.other-item.is no c.loop-other.invariant

pub returns-then-is_outdone : goal.returns-then-is_outdone
returns-then-is_outdone c =
    let yes : is_outdone c.args.list.now c.other-item.result.items ≡ true = search rules in
    sym (ap not (any_of_lists (is_outdone c.args.list.now) c.args.lists.now
    ∙ any_here (λ v. is_outdone c.args.list.now v.items) c.args.lists.now c.loop-other.other-index c.other-item.result
    c.loop-other-test.true c.other-item.is yes c.loop-other.invariant))

pub returns : goal.returns
returns c = sym (ap not (any_of_lists (is_outdone c.args.list.now) c.args.lists.now
    ∙ any_none (λ v. is_outdone c.args.list.now v.items) c.args.lists.now c.loop-other.other-index c.loop-other-test.false
    c.loop-other.invariant))
