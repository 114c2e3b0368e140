use Rattle.std.proofs.Common.{rules, ◌≡◌, ◌<◌, ◌^◌, ◌∙◌, ℕ, ℤ, pos, unsigned_abs, sym, arith, length, get_or, FitsSigned, to_z-of_z}
use Rattle.std.proofs.lemmas.List.{get_or_default}
use Rattle.it_number.specs.Gcd.{gcd}
use Rattle.it_number.specs.Limit.{IsWithin}
use Rattle.it_number.proofs.Divisors.{gcd_below}
use Rattle.it_space.proofs.CanonicalRows.{coefficient_within}
use Rattle.it_space.proofs.Contents.{content-more}
use Rattle.it_space.proofs.divisors.content.Goals as goal
use mir.Syntax.{w128}

pub with_coefficient-common-requires-clause-coefficient : goal.with_coefficient-common-requires-clause-coefficient
with_coefficient-common-requires-clause-coefficient c =
    let i : ℕ = c.loop-coefficient.coefficient-index in
    let t : ℕ × ℤ = get_or c.args.terms.now i (0, pos 0) in
    let below : i < length c.args.terms.now = omega arith in
    let fits : FitsSigned w128 t.1 = search rules in
    rw (to_z-of_z fits) (coefficient_within 0 c.args.terms.now i (0, pos 0) c.requires below)

pub loop-coefficient-preserved : goal.loop-coefficient-preserved
loop-coefficient-preserved c =
    let i : ℕ = c.loop-coefficient.coefficient-index in
    let t : ℕ × ℤ = get_or c.args.terms.now i (0, pos 0) in
    let below : i < length c.args.terms.now = omega arith in
    let fits : FitsSigned w128 t.1 = search rules in
    let within : IsWithin t.1 = coefficient_within 0 c.args.terms.now i (0, pos 0) c.requires below in
    let is : c.with_coefficient-common.result ≡ gcd c.loop-coefficient.common (unsigned_abs t.1) = simp to_z-of_z at c.with_coefficient-common.ensures in
    rw is (
      sym (content-more c.loop-coefficient.common i c.args.terms.now t below (get_or_default c.args.terms.now i (0, pos 0) t below))
          ∙ c.loop-coefficient.invariant.0,
      gcd_below c.loop-coefficient.common (unsigned_abs t.1) (2 ^ 127) c.loop-coefficient.invariant.1 within,
    )
