use Rattle.std.proofs.Common.{rules, ◌≤◌, ◌∙◌, ℤ, List, pos, length, set, w64, FitsSigned, to_z-of_z, ap, ap₂, subst}
use Rattle.it_engine.proofs.RowStarts.{unit_row_is}
use Rattle.it_engine.proofs.loading.unit_row.Goals as goal

pub returns : goal.returns
returns c =
    let cs = c.args.coordinates.now in
    let fits : FitsSigned w64 c.signed-last.result = search rules in
    unit_row_is cs c.args.target.now c.args.limit c.requires.some c.from_numbers.result c.from_numbers.ensures.denominator c.args.k c.requires.row
    (subst (λ n. n ≤ c.args.limit) c.in-Some.ensures.0 c.in-Some.ensures.1)
    (c.from_numbers.ensures.numbers ∙ ap₂ (λ (xs : List ℤ) (y : ℤ). set (set xs c.args.k (pos 1)) (length cs) y) c.in_ok-numbers.ensures
    (to_z-of_z fits ∙ c.signed-last.ensures ∙ ap pos c.in-Some.ensures.0))
