use Rattle.std.proofs.Common.{◌+◌, length, ap, arith, refl, sym, ◌∙◌}
use Rattle.it_space.specs.declared.spaces.Space.{Space}
use Rattle.it_question.specs.OwnLines.{OwnLinesView}
use Rattle.it_question.specs.Questions.{verb_view}
use Rattle.it_region.proofs.PairLemmas.{pair_by}
use Rattle.it_region.proofs.pairs.pair_of.Goals as goal

pub returns-clause-pair : goal.returns-clause-pair
returns-clause-pair c = rw c.auxiliaries.ensures (pair_by c.args.question.now.body c.in-Contain.first
    c.in-Contain.second c.in-Contain.tries.items _ (1 + length c.givens.result.now) (1 + length c.rows.result.now) (sym c.verb.ensures.value ∙ ap verb_view c.in-Contain.is)
    c.in_ok-first.ensures.poses c.space-space.ensures.counts
    (omega (arith, c.givens.ensures.count, ap (λ (own : OwnLinesView). length own.givens) c.lines.ensures.value))
    (omega (arith, c.rows.ensures.count, ap (λ (own : OwnLinesView). length own.rows) c.lines-2.ensures.value))
    c.in_ok-own.ensures (ap (λ (s : Space). s.variables) c.space.ensures.counts) refl)
