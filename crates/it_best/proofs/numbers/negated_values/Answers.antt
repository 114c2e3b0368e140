use Rattle.std.proofs.Common.{◌≡◌, rules, ap, get_or, map, neg_ℤ, pos, ◌++◌, ◌∷◌, ◌-ℤ◌, ◌∙◌, [], FitsSigned, to_z-of_z, arith, ℤ}
use Rattle.std.proofs.lemmas.Int.{ints}
use Rattle.std.proofs.lemmas.List.{get_or_default}
use Rattle.it_best.proofs.NumberSteps.{negated_fits}
use Rattle.it_best.proofs.WalkLemmas.{map_more, map_end}
use Rattle.it_best.proofs.numbers.negated_values.Goals as goal
use mir.Syntax.{w128}

pub loop-value-preserved : goal.loop-value-preserved
loop-value-preserved c =
    let x : ℤ = get_or c.args.values.now c.loop-value.value-index (pos 0) in
    let fits : FitsSigned w128 (get_or c.args.values.now c.loop-value.value-index (pos 0)) = search rules in
    let negated : FitsSigned w128 (pos 0 -ℤ get_or c.args.values.now c.loop-value.value-index (pos 0)) = negated_fits x
    (c.requires c.loop-value.value-index (pos 0) c.loop-value-test.true) in
    let same : pos 0 -ℤ x ≡ neg_ℤ x = omega (arith, ints) in
    map_more neg_ℤ c.args.values.now c.loop-value.value-index x c.loop-value.negated.items c.push.new.self.items
    (map neg_ℤ c.args.values.now) c.loop-value-test.true
    (get_or_default c.args.values.now c.loop-value.value-index (pos 0) x c.loop-value-test.true)
    (simp (to_z-of_z fits, to_z-of_z negated) at c.in_ok-push.ensures.items ∙ ap (λ y. c.loop-value.negated.items ++ y ∷ []) same) c.loop-value.invariant

pub returns : goal.returns
returns c = map_end neg_ℤ c.args.values.now c.loop-value.value-index c.loop-value.negated.items
    (map neg_ℤ c.args.values.now) c.loop-value-test.false c.loop-value.invariant
