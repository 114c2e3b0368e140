use Rattle.std.proofs.Common.{◌≡◌, ◌*ℤ◌, ℤ, FitsSigned, to_z-of_z, rules, ap, ap₂, subst, sym, refl, pos, ◌∙◌}
use Rattle.std.specs.Int.{w128}
use Rattle.std.specs.Result.{OkIff}
use Rattle.it_number.specs.Limit.{IsWithin}
use Rattle.it_rational.specs.Rational.{Rational, integer}
use Rattle.it_fraction.specs.Fits.{IsNarrow}
use Rattle.it_fraction.proofs.Results.{OkIff-same}
use Rattle.it_fraction.proofs.ZeroLemmas.{numerator_of_zero, whole-product, whole-narrow, zero-product, zero-product-narrow, product-zero, product-zero-narrow}
use Rattle.it_fraction.proofs.fraction.Fraction.mul.Goals as goal
use Rattle.it_fraction.proofs.fraction.Fraction.mul.Goals.{then-is_zero-via-then-is_zero, then-is_zero-via-else-is_zero+then-is_zero-2}

pub returns-then-are_one : goal.returns-then-are_one
returns-then-are_one c =
    let x = c.args.self in let y = c.args.other in
    let fx : FitsSigned w128 c.self.inside.numerator = search rules in
    let fy : FitsSigned w128 c.other.inside.numerator = search rules in
    let ex : x.den ≡ 1 = sym (ap (λ q. q.den) c.self.view_is) ∙ c.if-are_one.ensures.yes.0 in
    let ey : y.den ≡ 1 = sym (ap (λ q. q.den) c.other.view_is) ∙ c.if-are_one.ensures.yes.1 in
    let tops : c.self.inside.numerator *ℤ c.other.inside.numerator ≡ x.num *ℤ y.num = ap₂ (λ (q r : Rational). q.num *ℤ r.num) c.self.view_is c.other.view_is in
    subst (λ (q : Rational). OkIff c.whole_product.result (IsNarrow q) q) (whole-product x y ex ey)
    (OkIff-same _ _ _ _ _ (whole-narrow (x.num *ℤ y.num)) refl (subst (λ (z : ℤ). OkIff c.whole_product.result (IsWithin z) (integer z))
    tops (simp to_z-of_z at c.whole_product.ensures)))

pub parts_product-requires-clause-left : goal.parts_product-requires-clause-left
parts_product-requires-clause-left c = let f : FitsSigned w128 c.self-2.inside.numerator = search rules in simp to_z-of_z c.self-2.inside.lowest

pub parts_product-requires-clause-right : goal.parts_product-requires-clause-right
parts_product-requires-clause-right c = let f : FitsSigned w128 c.other-2.inside.numerator = search rules in simp to_z-of_z c.other-2.inside.lowest

pub returns-then-is_zero : goal.returns-then-is_zero
returns-then-is_zero c =
    elim c.then-is_zero.branch [
      | then-is_zero-via-then-is_zero w ↦
          let e : c.args.self.num ≡ pos 0 = numerator_of_zero c.args.self w.if-is_zero.ensures.yes in
          (zero-product-narrow c.args.self c.args.other e, c.whole.ensures ∙ sym (zero-product c.args.self c.args.other e))
      | then-is_zero-via-else-is_zero+then-is_zero-2 w ↦
          let e : c.args.other.num ≡ pos 0 = numerator_of_zero c.args.other w.if-is_zero-2.ensures.yes in
          (product-zero-narrow c.args.self c.args.other e, c.whole.ensures ∙ sym (product-zero c.args.self c.args.other e))
    ]
