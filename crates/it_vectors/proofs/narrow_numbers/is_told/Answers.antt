use Rattle.std.proofs.Common.{rules, nat_le, nat_eq, ◌≡◌, ◌≤◌, ◌*ℤ◌, ◌∙◌, ap, sym, subst, ℤ, FitsSigned, to_z-of_z, w32, to_z, of_z, arith}
use Rattle.it_vectors.proofs.Quotients.{both_tests, product_is_short}
use Rattle.it_vectors.specs.Quotients.{likely_quotient_of}
use Rattle.it_vectors.proofs.narrow_numbers.is_told.Goals as goal

pub returns : goal.returns
returns c =
    let fq : FitsSigned w32 c.likely_quotient-quotient.result = search rules in
    let fk : FitsSigned w32 c.args.k = c.ranges.k in
    let fz : FitsSigned w32 c.args.z = c.ranges.z in
    let fi : FitsSigned w32 c.args.inverse = c.ranges.inverse in
    let fp : FitsSigned w32 c.wrapped_product.result = search rules in
    let v = simp to_z-of_z at c.unsigned_abs.ensures.value in
    let w = simp to_z-of_z at c.wrapped_product.ensures in
    let q = simp to_z-of_z at c.likely_quotient-quotient.ensures in
    both_tests (nat_le c.unsigned_abs.result c.args.most) (nat_eq (of_z w32 c.wrapped_product.result) (of_z w32 c.args.z))
    (likely_quotient_of c.args.shift c.args.inverse c.args.z *ℤ c.args.k ≡ c.args.z) (λ small same.
    let l : c.unsigned_abs.result ≤ c.args.most = search (rules, small) in
    let e : of_z w32 c.wrapped_product.result ≡ of_z w32 c.args.z = search (rules, same) in
    let p : c.wrapped_product.result ≡ c.args.z = sym (to_z-of_z fp) ∙ ap (to_z w32) e ∙ to_z-of_z fz in
    subst (λ (y : ℤ). y *ℤ c.args.k ≡ c.args.z) q
    (sym (w (product_is_short c.likely_quotient-quotient.result c.args.k c.args.most (omega (arith, v, l)) c.requires.most)) ∙ p))
