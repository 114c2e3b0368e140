use Rattle.std.proofs.Common.{refl}
use Rattle.it_problems.specs.declared.problems.System.{System}
use Rattle.it_bounds.proofs.StepLemmas.{few_left, none_by_rows, none_by_width, ray_of_next, step_is_made, under_constants}
use Rattle.it_bounds.proofs.steps.made_step.Goals as goal

pub reduced_step-requires : goal.reduced_step-requires
reduced_step-requires c = let hull : System = record { space = c.args.frame.space; rows = c.args.rows } in record {
  left = under_constants c.args.frame hull c.in-Region.next c.args.ray.now c.in_ok-left.left refl c.in-Region.is c.in_ok-left.ensures.hull
      c.args.givens.now c.requires.frame c.requires.givens;
  few_rows = few_left c.args.frame c.args.rows.items c.args.ray.now c.in-Region.next c.in_ok-left.left c.in-Region.is
      c.in_ok-left.ensures.ends c.requires.frame c.requires.rows;
  ray = ray_of_next c.args.frame hull c.in-Region.next c.args.ray.now c.in_ok-left.left refl c.in-Region.is c.in_ok-left.ensures.hull c.requires.ray;
}

pub returns-in-Region : goal.returns-in-Region
returns-in-Region c = step_is_made c.args.frame c.args.rows.items c.args.ray.now c.in-Region.next c.in_ok-left.left c.in-Region.is
    c.in_ok-left.ensures.ends c.args.effort c.args.givens.now c.in_ok-made-in-Region.made
    c.requires.givens c.in_ok-made-in-Region.ensures

pub returns-in-Rows : goal.returns-in-Rows
returns-in-Rows c = none_by_rows c.args.frame c.args.effort c.args.rows.items c.args.ray.now c.in_ok-left.left _ c.in-Rows.is c.in_ok-left.ensures.ends

pub returns : goal.returns
returns c = none_by_width c.args.frame c.args.effort c.args.rows.items c.args.ray.now c.in_ok-left.left _ c.in-Wide.is c.in_ok-left.ensures.ends
