use Rattle.std.proofs.Common.{◌++◌, ◌∷◌, [], ap, ◌∙◌, refl, subst, inl, inr}
use Rattle.it_fraction.specs.Fits.{IsNarrow}
use Rattle.it_rational.specs.Rational.{Rational}
use Rattle.it_tableau.proofs.merging.append.Goals as goal

pub returns-in_ok-push : goal.returns-in_ok-push
returns-in_ok-push c = inr (
  c.if-not-is_zero.ensures.no,
  subst IsNarrow c.narrow_number.ensures.value c.narrow_number.ensures.narrow,
  c.in_ok-push.ensures.items ∙ ap (λ (v : Rational). c.args.terms.now.items ++ (c.args.column, v) ∷ []) c.narrow_number.ensures.value,
)

pub returns-else-not-is_zero : goal.returns-else-not-is_zero
returns-else-not-is_zero c = inl (c.if-not-is_zero.ensures.yes, refl)
