use Rattle.std.proofs.Common.{All, map, neg_ℤ, subst, sym, ap, ◌∙◌}
use Rattle.it_number.specs.Limit.{IsWithin}
use Rattle.it_columns.specs.Scaling.{scaled_point}
use Rattle.it_best.proofs.NumberSteps.{negated_within}
use Rattle.it_best.proofs.numbers.negated_point.Goals as goal

pub new-requires-clause-within : goal.new-requires-clause-within
new-requires-clause-within c = subst (All IsWithin) (sym
    (c.in_ok-negated.ensures ∙ ap (map neg_ℤ) (c.as_slice.ensures.value ∙ c.in_ok-values.ensures.value)))
    (negated_within (scaled_point c.args.numbers.now) c.in_ok-values.ensures.within)
