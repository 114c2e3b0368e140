use Rattle.std.proofs.Common.{rules, ap, drop, ◌∙◌, ◌+◌}
use Rattle.it_contain.proofs.BoxLemmas.{same_length}
use Rattle.it_contain.proofs.TryLemmas.{try_finds, try_fails, try_passes}
use Rattle.it_contain.proofs.SearchLemmas.{passed_all, passed_tries}
use Rattle.it_contain.specs.Search.{pair_goal}
use Rattle.it_contain.proofs.search.try_box.Goals as goal

pub returns-in-Some-2-clause-ends : goal.returns-in-Some-2-clause-ends
returns-in-Some-2-clause-ends g c =
    try_finds (pair_goal c.args.goal.now.pair.now c.args.goal.now.effort) c.args.tries _ _ _ c.in-Some.candidate c.loop-count.count
    c.in-Some-2.proof c.in_ok-proof.field-0 _ _ _
    c.in_ok-proof.ensures.judges c.in_ok-proof.ensures.plans c.in-Some-2.is c.loop-count.invariant.passed c.in-Some.ensures.takes
    (search rules) (c.in-Some.ensures.plans ∙ c.loop-count.invariant.plans)

pub loop-count-preserved : goal.loop-count-preserved
loop-count-preserved g c =
    let not = try_fails (pair_goal c.args.goal.now.pair.now c.args.goal.now.effort) c.in-Some.candidate c.in_ok-proof.field-0 _ _ _ _
    c.in_ok-proof.ensures.judges c.in_ok-proof.ensures.pending c.in_ok-proof.ensures.plans c.in-None.is in
    let n = same_length _ _ c.try_one.new.boxes.items c.next_at.new.boxes.items not.2 in
    let m = same_length _ _ c.next_at.new.boxes.items c.loop-count.boxes.items c.in-Some.ensures.plans in
    record {
      within = search (rules, n, m);
      passed = try_passes (pair_goal c.args.goal.now.pair.now c.args.goal.now.effort) c.in-Some.candidate _ _ _ _ c.args.i
          c.loop-count.count not.0 not.1 c.loop-count.invariant.passed c.in-Some.ensures.takes;
      plans = not.2 ∙ c.in-Some.ensures.plans ∙ c.loop-count.invariant.plans;
      later = ap (drop (c.args.i + 1)) not.1 ∙ c.in-Some.ensures.later ∙ c.loop-count.invariant.later;
      outcomes = search rules;
    }

pub returns-in_default-clause-ends : goal.returns-in_default-clause-ends
returns-in_default-clause-ends g c = (
  passed_all (pair_goal c.args.goal.now.pair.now c.args.goal.now.effort) c.args.tries _ _ c.loop-count.count c.loop-count.invariant.passed
      c.in_default.ensures.takes.0 (search rules),
  c.in_default.ensures.plans ∙ c.loop-count.invariant.plans,
)

pub returns-clause-ends : goal.returns-clause-ends
returns-clause-ends g c = (
  passed_tries (pair_goal c.args.goal.now.pair.now c.args.goal.now.effort) c.args.tries _ _ c.loop-count.count c.loop-count.invariant.passed (search rules),
  c.loop-count.invariant.plans,
)
