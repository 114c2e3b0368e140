use Rattle.std.proofs.Common.{◌+◌, ◌∙◌, pos, cond, sym, ap, subst, arith, List}
use Rattle.it_rational.specs.Rational.{Rational, times, integer, minus}
use Rattle.it_engine.proofs.Readings.{PointSoFar, point_all, point_more}
use Rattle.it_engine.proofs.reading.point.Goals as goal

pub loop-k-preserved : goal.loop-k-preserved
loop-k-preserved c = subst (λ (out : List Rational). PointSoFar c.args.coordinates.now c.args.target.now c.args.rows.now c.args.basis.now
    out (c.loop-k.k + 1)) (sym c.in_ok-push.ensures.items)
    (point_more c.args.coordinates.now c.args.target.now c.args.rows.now c.args.basis.now c.loop-k.out.items c.loop-k.k
    c.signed_value.result (omega (arith, c.loop-k-test.true))
    (c.signed_value.ensures ∙ ap (λ b. times (cond b (integer (pos 1)) (minus (integer (pos 1)))) c.fraction_at-cost.result) c.keeps_sign.ensures
    ∙ ap (times (cond _ (integer (pos 1)) (minus (integer (pos 1))))) c.fraction_at-cost.ensures)
    c.loop-k.invariant)

pub returns : goal.returns
returns c = point_all c.args.coordinates.now c.args.target.now c.args.rows.now c.args.basis.now c.loop-k.out.items c.loop-k.k
    (omega (arith, c.loop-k-test.false)) c.loop-k.invariant
