use Rattle.std.proofs.Common.{rules, ◌≡◌, ◌*ℤ◌, pos, ◌∙◌, ap, ℤ, FitsSigned, to_z-of_z, w32, w64}
use Rattle.it_number.specs.Division.{int_quotient}
use Rattle.it_vectors.proofs.Divisions.{quotient_fits, whole_over}
use Rattle.it_vectors.proofs.narrow_numbers.narrow_quotient.Goals as goal

pub returns : goal.returns
returns c =
    let fz : FitsSigned w32 c.args.z = c.ranges.z in
    let f : FitsSigned w64 c.quotient.result = search rules in
    let g : FitsSigned w64 c.from.result = search rules in
    let x : c.from.result ≡ c.args.z = search rules in
    let y = simp to_z-of_z at c.quotient.ensures in
    let e : c.quotient.result *ℤ pos c.args.shared.now.value ≡ c.args.z =
    whole_over c.args.z c.quotient.result c.args.shared.now.value c.requires.divides (y ∙ ap (λ (z : ℤ). int_quotient z c.args.shared.now.value) x) in
    let h : FitsSigned w32 c.quotient.result = quotient_fits c.quotient.result c.args.z c.args.shared.now.value c.requires.some e fz in
    rw (to_z-of_z f) (rw (to_z-of_z h) e)
