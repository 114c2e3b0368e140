use Rattle.std.proofs.Common.{rules, ◌++◌, ◌∙◌, ap, get_or, refl, FitsSigned, to_z-of_z}
use Rattle.it_bounds.specs.Lines.{rate_text}
use Rattle.it_bounds.proofs.LineLemmas.{rate_more, rates_done}
use Rattle.it_bounds.proofs.rays.write_rates.Goals as goal
use mir.Syntax.{w128}

pub loop-at-preserved : goal.loop-at-preserved
loop-at-preserved c =
    let fits : FitsSigned w128 c.divided_at.result = search rules in
    rate_more c.args.names.now c.args.kept.now c.args.point.now c.common_divisor-common.result c.loop-at.at-index
    (get_or c.args.kept.now c.loop-at.at-index 0) c.loop-at.some c.loop-at.out.items
    c.write_between.new.out.items c.write_rate.new.out.items _ c.loop-at-test.true refl c.in_ok-write_between.ensures
    (c.in_ok-write_rate.ensures ∙ ap (λ x. c.write_between.new.out.items
    ++ rate_text c.args.names.now (get_or c.args.kept.now c.loop-at.at-index 0, x)) (to_z-of_z fits ∙ c.divided_at.ensures))
    c.loop-at.invariant

pub returns : goal.returns
returns c = rates_done c.args.names.now c.args.kept.now c.args.point.now c.common_divisor-common.result c.loop-at.at-index c.loop-at.some
    c.loop-at.out.items c.args.out.now.items
    c.common_divisor-common.ensures.value c.loop-at-test.false c.loop-at.invariant
