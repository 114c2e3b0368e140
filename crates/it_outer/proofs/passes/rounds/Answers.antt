use Rattle.std.proofs.Common.{rules, ◌≡◌, length}
use Rattle.it_outer.specs.Rounds.{search_of}
use Rattle.it_outer.proofs.RoundLemmas.{last_result, round_ends, round_first, round_goes, round_kept}
use Rattle.it_outer.proofs.passes.rounds.Goals as goal

pub loop-count-init : goal.loop-count-init
loop-count-init c =
    let is : c.len-count.result ≡ length c.args.rays.items = search rules in record {
      leads = round_first (search_of c.args.frame.now) c.args.frame.now.limits.rays c.args.hull.rows.items c.args.rays.items c.len-count.result is;
      hull = c.requires.hull;
      rays = c.requires.rays;
      outcomes = c.requires.outcomes;
    }

pub loop-count-preserved : goal.loop-count-preserved
loop-count-preserved c =
    let kept = round_kept (search_of c.args.frame.now) c.in_ok-next.field-0 c.in-Goes.next c.in-Goes.found c.in-Goes.is c.in_ok-next.ensures.round in record {
      leads = round_goes (search_of c.args.frame.now) c.args.frame.now.limits.rays c.args.hull.rows.items c.args.rays.items
          c.loop-count.hull.rows.items c.loop-count.rays.items c.loop-count.count c.in_ok-next.field-0 c.in-Goes.next c.in-Goes.found
          c.loop-count-test.true c.in_ok-next.ensures.ends c.in-Goes.is c.loop-count.invariant.leads;
      hull = kept.0;
      rays = kept.1;
      outcomes = c.in_ok-next.ensures.outcomes;
    }

pub returns-in-Ends : goal.returns-in-Ends
returns-in-Ends c = record {
  ends = round_ends (search_of c.args.frame.now) c.args.frame.now.limits.rays c.args.hull.rows.items c.args.rays.items
      c.loop-count.hull.rows.items c.loop-count.rays.items c.loop-count.count c.in_ok-next.field-0 c.in-Ends.end
      c.loop-count-test.true c.in_ok-next.ensures.ends c.in-Ends.is c.loop-count.invariant.leads;
  outcomes = c.in_ok-next.ensures.outcomes;
}

pub returns : goal.returns
returns c = record {
  ends = last_result (search_of c.args.frame.now) c.args.frame.now.limits.rays c.args.hull.rows.items c.args.rays.items
      c.loop-count.hull.rows.items c.loop-count.rays.items c.loop-count.count c.last_round.result
      c.loop-count-test.false c.last_round.ensures.ends c.loop-count.invariant.leads;
  outcomes = c.last_round.ensures.outcomes;
}
