use Rattle.std.proofs.Common.{pos, cond, [], ◌∷◌, refl, sym, ap, subst, ◌∙◌}
use Rattle.it_number.proofs.Ring.{ring, v, times, minus, one}
use Rattle.it_rational.specs.Rational.{Rational, integer}
use Rattle.it_rational.specs.Rational as Q
use Rattle.it_rational.proofs.RationalLaws.{ring_ℚ}
use Rattle.it_space.specs.Rows.{coefficient}
use Rattle.it_tableau.specs.Rows.{IsWholeNumber}
use Rattle.it_tableau.proofs.WholeNumbers.{minus_number}
use Rattle.it_tableau.proofs.start.signed_coefficient.Goals as goal

pub returns-then-kept-clause-value : goal.returns-then-kept-clause-value
returns-then-kept-clause-value c = let q : Rational = integer (coefficient c.args.row.now c.args.coordinate) in
    c.number-value.ensures.value
    ∙ ring ring_ℚ (q ∷ []) (v 0) (times one (v 0)) refl
    ∙ ap (λ b. Q.times (cond b (integer (pos 1)) (Q.minus (integer (pos 1)))) q) (sym c.if-kept.true)

pub returns-else-kept-clause-value : goal.returns-else-kept-clause-value
returns-else-kept-clause-value c = let q : Rational = integer (coefficient c.args.row.now c.args.coordinate) in
    c.neg.ensures ∙ ap Q.minus (c.number-value.ensures.value)
    ∙ ring ring_ℚ (q ∷ []) (minus (v 0)) (times (minus one) (v 0)) refl
    ∙ ap (λ b. Q.times (cond b (integer (pos 1)) (Q.minus (integer (pos 1)))) q) (sym c.if-kept.false)

pub returns-else-kept-clause-whole_number : goal.returns-else-kept-clause-whole_number
returns-else-kept-clause-whole_number c = subst IsWholeNumber (sym c.neg.ensures) (minus_number c.number-value.result c.number-value.ensures.whole_number)
