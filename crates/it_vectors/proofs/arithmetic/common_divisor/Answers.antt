use Rattle.std.proofs.Common.{◌≡◌, ℕ, arith, ◌∙◌, ap, sym}
use Rattle.std.proofs.lemmas.Nat.Gcd.{IsGcd-swap, same_from_IsGcd}
use Rattle.it_number.specs.Gcd.{gcd}
use Rattle.it_number.proofs.Divisors.{gcd_is, gcd-step, gcd-zero, one-gcd, gcd_some}
use Rattle.it_vectors.proofs.arithmetic.common_divisor.Goals as goal

gcd_swap : (a b : ℕ) → gcd b a ≡ gcd a b
gcd_swap a b = same_from_IsGcd a b (gcd b a) (gcd a b) (IsGcd-swap b a (gcd b a) (gcd_is b a)) (gcd_is a b)

pub loop-smaller-init : goal.loop-smaller-init
loop-smaller-init c = gcd_swap c.args.a c.args.b

pub returns-then-a-eq1-clause-value : goal.returns-then-a-eq1-clause-value
returns-then-a-eq1-clause-value c = let e = c.if-a-eq1.true in sym (ap (λ a. gcd a c.args.b) e ∙ one-gcd c.args.b)

pub loop-smaller-preserved : goal.loop-smaller-preserved
loop-smaller-preserved c = gcd-step c.loop-smaller.larger c.loop-smaller.smaller ∙ c.loop-smaller.invariant

pub returns : goal.returns
returns c =
    let e = sym (gcd-zero c.loop-smaller.larger c.loop-smaller.smaller (omega arith)) ∙ c.loop-smaller.invariant in
    record { value = e; some = λ h. rw e (gcd_some c.args.a c.args.b h) }
