use Rattle.std.proofs.Common.{rules, length, ◌≤◌, drop, ◌∙◌, ◌+◌}
use Rattle.std.proofs.lemmas.List.{drop_all}
use Rattle.it_space.proofs.ListLemmas.{drop_item}
use Rattle.it_contain.proofs.SearchLemmas.{passed_more, passed_all, passed_most}
use Rattle.it_contain.proofs.TryLemmas.{try_finds, try_fails}
use Rattle.it_contain.specs.Search.{pair_goal}
use Rattle.it_contain.proofs.search.try_list.Goals as goal

pub returns-in-Some-clause-ends : goal.returns-in-Some-clause-ends
returns-in-Some-clause-ends g c =
    try_finds (pair_goal c.args.goal.now.pair.now c.args.goal.now.effort) c.args.tries _ _
    (drop (c.loop-candidate.candidate-index + 1) c.args.first.now) c.candidate-item.result c.loop-candidate.count c.in-Some.proof
    c.in_ok-proof.field-0 _ _ _
    c.in_ok-proof.ensures.judges c.in_ok-proof.ensures.plans c.in-Some.is c.loop-candidate.invariant.passed
    (drop_item c.args.first.now c.loop-candidate.candidate-index c.candidate-item.result (search rules) c.candidate-item.is)
    (search rules) c.loop-candidate.invariant.plans

pub loop-candidate-preserved : goal.loop-candidate-preserved
loop-candidate-preserved g c =
    let not = try_fails (pair_goal c.args.goal.now.pair.now c.args.goal.now.effort) c.candidate-item.result c.in_ok-proof.field-0 _ _ _ _
    c.in_ok-proof.ensures.judges c.in_ok-proof.ensures.pending c.in_ok-proof.ensures.plans c.in-None.is in
    record {
      within = search rules;
      passed = passed_more (pair_goal c.args.goal.now.pair.now c.args.goal.now.effort) c.args.first.now _
          (drop (c.loop-candidate.candidate-index + 1) c.args.first.now) c.candidate-item.result c.loop-candidate.count
          c.loop-candidate.invariant.passed (drop_item c.args.first.now c.loop-candidate.candidate-index c.candidate-item.result
          (search rules) c.candidate-item.is) not.0;
      plans = not.2 ∙ c.loop-candidate.invariant.plans;
      pending = not.1 ∙ c.loop-candidate.invariant.pending;
      outcomes = search rules;
    }

pub returns-then-count-tries-clause-ends : goal.returns-then-count-tries-clause-ends
returns-then-count-tries-clause-ends g c = (
  passed_most (pair_goal c.args.goal.now.pair.now c.args.goal.now.effort) c.args.tries _ _ c.loop-candidate.count
      c.loop-candidate.invariant.passed (search rules),
  c.loop-candidate.invariant.plans,
)

pub returns-clause-ends : goal.returns-clause-ends
returns-clause-ends g c =
    let past : length c.args.first.now ≤ c.loop-candidate.candidate-index = search rules in (
      passed_all (pair_goal c.args.goal.now.pair.now c.args.goal.now.effort) c.args.tries _ _ c.loop-candidate.count
          c.loop-candidate.invariant.passed (drop_all c.loop-candidate.candidate-index c.args.first.now past)
          c.loop-candidate.invariant.within,
      c.loop-candidate.invariant.plans,
    )
