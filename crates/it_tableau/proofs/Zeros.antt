-- Operations with a 0.
use Rattle.std.proofs.Common.{◌≡◌, ◌↔◌, pos, Result, Ok, Err}
use Rattle.std.specs.Result.{IfErr}
use Rattle.it_rational.specs.Rational.{Rational, integer, plus, minus, times, inverse}
use Rattle.it_fraction.specs.Fits.{IsNarrow}
use Rattle.it_fraction.proofs.ZeroLemmas.{numerator_of_zero, zero-product, zero-product-narrow, product-zero, product-zero-narrow, difference-zero, difference-zero-fits, zero-difference, zero-difference-fits, minus-narrow}
use Rattle.it_tableau.specs.Fits.{EntryFits}

-- what holds anyway holds of an error
pub any_err : {X F : Type 0} (r : Result X F) (w : F) (Q : Type 0) → Q → IfErr r (λ f. f ≡ w → Q)
any_err (Ok x) w Q q = tt
any_err (Err y) w Q q = λ _. q

-- 0 is subtracted
pub difference_of_null_entry : (x y q : Rational) → IsNarrow x → y ≡ integer (pos 0) → EntryFits x y q × (plus x (minus (times y q)) ≡ x)
difference_of_null_entry x y q n e =
    let z : times y q ≡ integer (pos 0) = zero-product y q (numerator_of_zero y e) in (
      record {
        product = zero-product-narrow y q (numerator_of_zero y e);
        difference = difference-zero-fits x (times y q)
            (numerator_of_zero (times y q) z) n;
      },
      difference-zero x (times y q) (numerator_of_zero (times y q) z),
    )

-- and so where the factor is 0
pub difference_of_null_factor : (x y q : Rational) → IsNarrow x → q ≡ integer (pos 0) → EntryFits x y q × (plus x (minus (times y q)) ≡ x)
difference_of_null_factor x y q n e =
    let z : times y q ≡ integer (pos 0) = product-zero y q (numerator_of_zero q e) in (
      record {
        product = product-zero-narrow y q (numerator_of_zero q e);
        difference = difference-zero-fits x (times y q)
            (numerator_of_zero (times y q) z) n;
      },
      difference-zero x (times y q) (numerator_of_zero (times y q) z),
    )

-- a product is subtracted from 0
pub difference_from_null : (x y q : Rational) → x ≡ integer (pos 0) → (IsNarrow (times y q) ↔ EntryFits x y q)
    × (plus x (minus (times y q)) ≡ minus (times y q))
difference_from_null x y q e = (
  ((λ n. record { product = n; difference = zero-difference-fits x (times y q) (numerator_of_zero x e) (minus-narrow (times y q) n) }), (λ f. f.product)),
  zero-difference x (times y q) (numerator_of_zero x e),
)

-- 0 divided
pub quotient_of_null : (x p : Rational) → x ≡ integer (pos 0) → IsNarrow (times x (inverse p)) × (times x (inverse p) ≡ integer (pos 0))
quotient_of_null x p e = (zero-product-narrow x (inverse p) (numerator_of_zero x e), zero-product x (inverse p) (numerator_of_zero x e))
