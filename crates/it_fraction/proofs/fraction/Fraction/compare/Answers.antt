use Rattle.std.proofs.Common.{int_cmp, ap, ap₂, sym, ◌∙◌}
use Rattle.it_rational.specs.Rational.{Rational}
use Rattle.it_rational.proofs.Total.{rational_cmp-same_den}
use Rattle.it_fraction.proofs.fraction.Fraction.compare.Goals as goal

pub returns-then-self-other : goal.returns-then-self-other
returns-then-self-other c =
    c.cmp.ensures ∙ ap₂ (λ (q r : Rational). int_cmp q.num r.num) c.self.view_is c.other.view_is
    ∙ rational_cmp-same_den c.args.self c.args.other (sym (ap (λ (q : Rational). q.den) c.self.view_is) ∙ c.if-self-other.true
    ∙ ap (λ (q : Rational). q.den) c.other.view_is)
