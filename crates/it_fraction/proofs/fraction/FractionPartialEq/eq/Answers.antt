use Rattle.std.proofs.Common.{◌≡◌, FitsSigned, to_z, to_z-of_z, of_z, rules, ap, sym, ◌∙◌}
use Rattle.std.specs.Int.{w128}
use Rattle.it_rational.specs.Rational.{Rational}
use Rattle.it_fraction.proofs.Equality.{same_tops, other_tops}
use Rattle.it_fraction.proofs.fraction.FractionPartialEq.eq.Goals as goal

pub returns-then-self-other : goal.returns-then-self-other
returns-then-self-other c =
    let f : FitsSigned w128 c.self.inside.numerator = search rules in
    let g : FitsSigned w128 c.other.inside.numerator = search rules in
    let tops : c.self.inside.numerator ≡ c.other.inside.numerator = sym (to_z-of_z f) ∙ ap (to_z w128) c.if-self-other.true ∙ to_z-of_z g in
    same_tops c.args.self.now c.args.other.now c.self.inside.denominator c.other.inside.denominator
    (sym (ap (λ (q : Rational). q.num) c.self.view_is) ∙ tops ∙ ap (λ (q : Rational). q.num) c.other.view_is)
    (sym (ap (λ (q : Rational). q.den) c.self.view_is)) (sym (ap (λ (q : Rational). q.den) c.other.view_is))

pub returns-else-self-other : goal.returns-else-self-other
returns-else-self-other c =
    other_tops c.args.self.now c.args.other.now (of_z w128 c.self.inside.numerator) (of_z w128 c.other.inside.numerator) c.if-self-other.false
    (λ e. ap (of_z w128) (ap (λ (q : Rational). q.num) c.self.view_is ∙ e ∙ sym (ap (λ (q : Rational). q.num) c.other.view_is)))
