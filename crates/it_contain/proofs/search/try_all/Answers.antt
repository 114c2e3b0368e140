use Rattle.std.proofs.Common.{rules, ◌∙◌, arith, []}
use Rattle.std.proofs.lemmas.List.{length-map}
use Rattle.it_contain.proofs.BoxLemmas.{same_length, rest_more}
use Rattle.it_contain.proofs.ContainLemmas.{found_at_once, found_in_box, open_at_first, open_one_more, open_at_end, open_within, open_end, open_keeps_later}
use Rattle.it_contain.specs.Search.{pair_goal}
use Rattle.it_contain.specs.Shapes.{shape_of}
use Rattle.it_contain.proofs.search.try_all.Goals as goal

pub returns-in-Found : goal.returns-in-Found
returns-in-Found g c = found_at_once (pair_goal c.args.goal.now.pair.now c.args.goal.now.effort) c.args.tries c.args.first.now
    (shape_of c.args.goal.now.pair.now) _ _ _ c.in-Found.candidate c.in-Found.proof c.in_ok-candidate.field-0 c.in_ok-candidate.ensures.ends c.in-Found.is
    c.begin_all.ensures.plan

pub loop-i-init : goal.loop-i-init
loop-i-init g c =
    let o = open_end (pair_goal c.args.goal.now.pair.now c.args.goal.now.effort) c.args.tries c.args.first.now _ _ c.in_ok-candidate.field-0
    c.in-Open.tried c.in_ok-candidate.ensures.ends c.in-Open.is in
    record {
      end = search rules;
      within = open_within (pair_goal c.args.goal.now.pair.now c.args.goal.now.effort) c.args.tries c.in-Open.tried c.args.first.now o.0;
      open_so_far = open_at_first (pair_goal c.args.goal.now.pair.now c.args.goal.now.effort) c.args.tries c.args.first.now [] c.in-Open.tried o.0;
      plans = o.1 ∙ c.begin_all.ensures.plan;
      later = open_keeps_later c.in_ok-candidate.field-0 c.in-Open.tried _ _ c.in_ok-candidate.ensures.later c.in-Open.is
          ∙ (rw c.shape_of-shape.ensures.value at c.begin_all.ensures.pending);
      outcomes = search rules;
    }

pub returns-in-Found-2 : goal.returns-in-Found-2
returns-in-Found-2 g c =
    let n = same_length _ _ c.loop-i.boxes.items c.args.boxes.now.items c.loop-i.invariant.plans in
    found_in_box (pair_goal c.args.goal.now.pair.now c.args.goal.now.effort) c.args.tries c.args.first.now
    (shape_of c.args.goal.now.pair.now) _ _ _ _ c.loop-i.i
    c.loop-i.count c.in-Found-2.candidate c.in-Found-2.proof c.in_ok-candidate-2.field-0
    (simp length-map (search (rules, n))) c.loop-i.invariant.later c.loop-i.invariant.plans c.loop-i.invariant.open_so_far
    c.in_ok-candidate-2.ensures.ends c.in-Found-2.is

pub loop-i-preserved : goal.loop-i-preserved
loop-i-preserved g c =
    let n = same_length _ _ c.loop-i.boxes.items c.args.boxes.now.items c.loop-i.invariant.plans in
    let o = open_end (pair_goal c.args.goal.now.pair.now c.args.goal.now.effort) _ _ _ _ c.in_ok-candidate-2.field-0 c.in-Open-2.more
    c.in_ok-candidate-2.ensures.ends c.in-Open-2.is in
    let m = same_length _ _ c.try_box.new.boxes.items c.loop-i.boxes.items o.1 in
    let w = open_within (pair_goal c.args.goal.now.pair.now c.args.goal.now.effort) _ c.in-Open-2.more _ o.0 in
    let within = c.loop-i.invariant.within in
    record {
      end = search (rules, n, m);
      within = omega (arith, w, within);
      open_so_far = open_one_more (pair_goal c.args.goal.now.pair.now c.args.goal.now.effort) c.args.tries c.args.first.now _ _ c.loop-i.i
          c.loop-i.count c.in-Open-2.more (simp length-map (search (rules, n))) c.loop-i.invariant.later c.loop-i.invariant.open_so_far o.0;
      plans = o.1 ∙ c.loop-i.invariant.plans;
      later = open_keeps_later c.in_ok-candidate-2.field-0 c.in-Open-2.more _ _ c.in_ok-candidate-2.ensures.later c.in-Open-2.is
          ∙ rest_more _ _ c.loop-i.i c.loop-i.invariant.later;
      outcomes = search rules;
    }

pub returns : goal.returns
returns g c =
    let n = same_length _ _ c.loop-i.boxes.items c.args.boxes.now.items c.loop-i.invariant.plans in (
      open_at_end (pair_goal c.args.goal.now.pair.now c.args.goal.now.effort) c.args.tries c.args.first.now (shape_of c.args.goal.now.pair.now) _ c.loop-i.i
          c.loop-i.count (simp length-map (search (rules, n))) c.loop-i.invariant.open_so_far,
      c.loop-i.invariant.plans,
    )
