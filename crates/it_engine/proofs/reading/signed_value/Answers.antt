use Rattle.std.proofs.Common.{◌∙◌, ◌∷◌, [], pos, cond, refl, ap, sym}
use Rattle.it_number.proofs.Ring.{ring, v, times, minus, one}
use Rattle.it_rational.specs.Rational.{integer}
use Rattle.it_rational.specs.Rational as Q
use Rattle.it_rational.proofs.RationalLaws.{ring_ℚ}
use Rattle.it_engine.proofs.reading.signed_value.Goals as goal

pub returns-then-kept : goal.returns-then-kept
returns-then-kept c = sym (ring_ℚ.unit-mul c.args.value) ∙ ap (λ b. Q.times (cond b (integer (pos 1)) (Q.minus (integer (pos 1))))
    c.args.value) (sym c.if-kept.true)

pub returns-else-kept : goal.returns-else-kept
returns-else-kept c = c.neg.ensures ∙ ring ring_ℚ (c.args.value ∷ []) (minus (v 0)) (times (minus one) (v 0)) refl
    ∙ ap (λ b. Q.times (cond b (integer (pos 1)) (Q.minus (integer (pos 1)))) c.args.value) (sym c.if-kept.false)
