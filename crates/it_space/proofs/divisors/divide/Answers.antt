use Rattle.std.proofs.Common.{rules, ◌≡◌, ◌<◌, ℕ, ℤ, pos, arith, length, get_or, FitsSigned, to_z-of_z}
use Rattle.std.proofs.lemmas.List.{get_or_default}
use Rattle.std.proofs.lemmas.List.Edits.{map_over_more}
use Rattle.it_number.specs.Division.{int_quotient}
use Rattle.it_space.proofs.CanonicalRows.{coefficient_within}
use Rattle.it_space.proofs.Contents.{item_not_reached}
use Rattle.it_space.proofs.divisors.divide.Goals as goal
use mir.Syntax.{w128}

pub quotient-term-requires-clause-within : goal.quotient-term-requires-clause-within
quotient-term-requires-clause-within c =
    let i : ℕ = c.loop-term.term-index in
    let t : ℕ × ℤ = get_or c.loop-term.terms i (0, pos 0) in
    let below : i < length c.args.terms.now = omega arith in
    let fits : FitsSigned w128 t.1 = search rules in
    let was : t ≡ get_or c.args.terms.now i (0, pos 0) = item_not_reached
    (λ t. (t.0, int_quotient t.1 c.args.by)) c.args.terms.now c.loop-term.terms i (0, pos 0) below c.loop-term.invariant in
    rw (to_z-of_z fits, was) (coefficient_within 0 c.args.terms.now i (0, pos 0) c.requires.within below)

pub loop-term-preserved : goal.loop-term-preserved
loop-term-preserved c =
    let i : ℕ = c.loop-term.term-index in
    let t : ℕ × ℤ = get_or c.loop-term.terms i (0, pos 0) in
    let below : i < length c.args.terms.now = omega arith in
    let fits : FitsSigned w128 t.1 = search rules in
    let result_fits : FitsSigned w128 c.quotient-term.result = search rules in
    let is : c.quotient-term.result ≡ int_quotient t.1 c.args.by = simp to_z-of_z at c.quotient-term.ensures in
    rw (to_z-of_z result_fits, is) (map_over_more (λ t. (t.0, int_quotient t.1 c.args.by)) c.args.terms.now c.loop-term.terms i t below c.loop-term.invariant
    (get_or_default c.loop-term.terms i (0, pos 0) t (omega arith)))
