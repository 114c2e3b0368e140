use Rattle.std.proofs.Common.{rules, ◌≤◌, ◌∙◌, ℤ, List, pos, neg_ℤ, length, set, w64, FitsSigned, to_z-of_z, ap, ap₂, subst}
use Rattle.it_engine.proofs.RowStarts.{cost_row_is}
use Rattle.it_engine.proofs.loading.cost_row.Goals as goal

pub returns : goal.returns
returns c =
    let cs = c.args.coordinates.now in
    let fits : FitsSigned w64 c.negated-last.result = search rules in
    cost_row_is cs c.args.target.now c.args.limit c.requires.some c.from_numbers.result c.from_numbers.ensures.denominator
    (subst (λ n. n ≤ c.args.limit) c.requires.sum c.requires.within)
    (c.from_numbers.ensures.numbers ∙ ap₂ (λ (xs : List ℤ) (y : ℤ). set xs (length cs) y) c.in_ok-numbers.ensures
    (to_z-of_z fits ∙ c.negated-last.ensures ∙ ap (λ n. neg_ℤ (pos n)) c.requires.sum))
