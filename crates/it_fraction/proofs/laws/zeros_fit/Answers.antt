use Rattle.std.proofs.Common.{◌≡◌, pos, subst}
use Rattle.it_number.specs.Limit.{IsWithin}
use Rattle.it_rational.specs.Rational.{integer}
use Rattle.it_fraction.specs.Fits.{IsNarrow}
use Rattle.it_fraction.proofs.ZeroLemmas.{zero_parts, minus-narrow, sum-zero-fits, zero-sum-fits, difference-zero-fits, zero-difference-fits, product-zero-narrow, zero-product-narrow, zero-quotient-narrow}
use Rattle.it_fraction.proofs.laws.zeros_fit.Goals as goal
use Rattle.it_fraction.proofs.laws.zeros_fit.Goals.{After-den-den}

argument_is_narrow : (c : After-den-den) → IsNarrow c.args.x
argument_is_narrow c = (rw (← c.num-num.ensures.value) c.num-num.ensures.within, subst IsWithin c.den-den.ensures.value c.den-den.ensures.within)

pub returns : goal.returns
returns c =
    let n = argument_is_narrow (goal.at.returns c).After-den-den in
    let zero = integer (pos 0) in
    let e : zero.num ≡ pos 0 = zero_parts.0 in
    record {
      sum = sum-zero-fits c.args.x zero e n;
      sum_from_zero = zero-sum-fits zero c.args.x e n;
      difference = difference-zero-fits c.args.x zero e n;
      difference_from_zero = zero-difference-fits zero c.args.x e (minus-narrow c.args.x n);
      product = product-zero-narrow c.args.x zero e;
      product_from_zero = zero-product-narrow zero c.args.x e;
      quotient_of_zero = zero-quotient-narrow zero c.args.x e;
    }
