use Rattle.it_fraction.proofs.Results.{OkIff-err}
use Rattle.it_columns.proofs.ScaleSteps.{scale_more, scale_done, scale_wide}
use Rattle.it_columns.proofs.scaling.common_scale.Goals as goal

pub loop-number-preserved : goal.loop-number-preserved
loop-number-preserved c = scale_more c.args.numbers.now c.loop-number.number-index c.loop-number.scale c.in_ok-scale.scale
    c.number-item.result c.loop-number-test.true c.number-item.is c.in_ok-scale.ensures c.loop-number.invariant

pub returns-clause-value : goal.returns-clause-value
returns-clause-value c = scale_done c.args.numbers.now c.loop-number.number-index c.loop-number.scale c.loop-number-test.false c.loop-number.invariant

pub returns-in_err-scale-clause-value : goal.returns-in_err-scale-clause-value
returns-in_err-scale-clause-value c = OkIff-err _ _ _ c.from_residual.ensures.0
    (scale_wide c.args.numbers.now c.loop-number.number-index c.loop-number.scale c.number-item.result c.loop-number-test.true
    c.number-item.is c.in_err-scale.ensures c.loop-number.invariant)
