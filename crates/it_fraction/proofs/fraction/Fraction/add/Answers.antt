use Rattle.std.proofs.Common.{◌≡◌, ◌+ℤ◌, ℤ, FitsSigned, to_z-of_z, rules, ap, ap₂, subst, sym, pos, ◌∙◌}
use Rattle.std.specs.Int.{w128}
use Rattle.std.specs.Result.{OkIff}
use Rattle.it_number.specs.Limit.{IsWithin}
use Rattle.it_rational.specs.Rational.{Rational, integer}
use Rattle.it_fraction.specs.Fits.{IsNarrow}
use Rattle.it_fraction.proofs.Results.{OkIff-same}
use Rattle.it_fraction.proofs.ZeroLemmas.{numerator_of_zero, whole-sum-fits, whole-sum, zero-sum-fits, zero-sum, sum-zero-fits, sum-zero}
use Rattle.it_fraction.proofs.fraction.Fraction.add.Goals as goal

pub returns-then-are_one : goal.returns-then-are_one
returns-then-are_one c =
    let x = c.args.self in let y = c.args.other in
    let fx : FitsSigned w128 c.self.inside.numerator = search rules in
    let fy : FitsSigned w128 c.other.inside.numerator = search rules in
    let ex : x.den ≡ 1 = sym (ap (λ q. q.den) c.self.view_is) ∙ c.if-are_one.ensures.yes.0 in
    let ey : y.den ≡ 1 = sym (ap (λ q. q.den) c.other.view_is) ∙ c.if-are_one.ensures.yes.1 in
    let tops : c.self.inside.numerator +ℤ c.other.inside.numerator ≡ x.num +ℤ y.num = ap₂ (λ (q r : Rational). q.num +ℤ r.num) c.self.view_is c.other.view_is in
    OkIff-same _ _ _ _ _ (whole-sum-fits x y ex ey (subst IsNarrow c.self.view_is c.self.invariant)
    (subst IsNarrow c.other.view_is c.other.invariant)) (whole-sum x y ex ey)
    (subst (λ (z : ℤ). OkIff c.whole_sum.result (IsWithin z) (integer z)) tops (simp to_z-of_z at c.whole_sum.ensures))

pub parts_sum-requires-clause-left : goal.parts_sum-requires-clause-left
parts_sum-requires-clause-left c = let f : FitsSigned w128 c.self-2.inside.numerator = search rules in simp to_z-of_z c.self-2.inside.lowest

pub parts_sum-requires-clause-right : goal.parts_sum-requires-clause-right
parts_sum-requires-clause-right c = let f : FitsSigned w128 c.other-2.inside.numerator = search rules in simp to_z-of_z c.other-2.inside.lowest

pub returns-then-is_zero : goal.returns-then-is_zero
returns-then-is_zero c =
    let e : c.args.self.num ≡ pos 0 = numerator_of_zero c.args.self c.if-is_zero.ensures.yes in
    (zero-sum-fits c.args.self c.args.other e (subst IsNarrow c.other.view_is c.other.invariant), sym (zero-sum c.args.self c.args.other e))

pub returns-then-is_zero-2 : goal.returns-then-is_zero-2
returns-then-is_zero-2 c =
    let e : c.args.other.num ≡ pos 0 = numerator_of_zero c.args.other c.if-is_zero-2.ensures.yes in
    (sum-zero-fits c.args.self c.args.other e (subst IsNarrow c.self.view_is c.self.invariant), sym (sum-zero c.args.self c.args.other e))
