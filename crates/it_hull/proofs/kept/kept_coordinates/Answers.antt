use Rattle.it_hull.specs.KeptRates.{kept_coordinates}
use Rattle.it_hull.proofs.KeptLemmas.{rate_more, rates_done}
use Rattle.it_hull.proofs.kept.kept_coordinates.Goals as goal

pub loop-rate-preserved : goal.loop-rate-preserved
loop-rate-preserved c = rate_more c.args.space c.args.gone.now c.loop-rate.rate c.args.space.rates c.loop-rate.kept.items
    c.push_kept.new.kept.items (kept_coordinates c.args.space c.args.gone.now) c.loop-rate-test.true c.in_ok-push_kept.ensures
    c.loop-rate.invariant

pub returns : goal.returns
returns c = rates_done c.args.space c.args.gone.now c.loop-rate.rate c.args.space.rates c.loop-rate.kept.items
    (kept_coordinates c.args.space c.args.gone.now) c.loop-rate-test.false c.loop-rate.invariant
