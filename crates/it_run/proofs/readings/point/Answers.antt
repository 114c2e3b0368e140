use Rattle.std.proofs.Common.{◌+◌, sym, subst, arith, List}
use Rattle.it_rational.specs.Rational.{Rational}
use Rattle.it_run.proofs.FillingLemmas.{ValuesSoFar, values_more}
use Rattle.it_run.proofs.readings.point.Goals as goal

pub loop-k-preserved : goal.loop-k-preserved
loop-k-preserved c = subst (λ (out : List Rational). ValuesSoFar c.args.tableau.now out (c.loop-k.k + 1)) (sym c.in_ok-push.ensures.items)
    (values_more c.args.tableau.now c.loop-k.out.items c.loop-k.k c.value_at.result (omega (arith, c.loop-k-test.true)) c.value_at.ensures c.loop-k.invariant)
