use Rattle.std.proofs.Common.{◌∙◌}
use Rattle.it_question.proofs.TextLemmas.{last_blank, last_kept}
use Rattle.it_question.proofs.texts.without_trailing.Goals as goal

pub returns-then-last-ne32 : goal.returns-then-last-ne32
returns-then-last-ne32 c = last_kept c.loop-last.rest.now c.in-Some.front.now c.in-Some.last.now c.in-Some.ensures.cases.0
    c.if-last-ne32.true ∙ c.loop-last.invariant

pub loop-last-preserved : goal.loop-last-preserved
loop-last-preserved c = last_blank c.loop-last.rest.now c.in-Some.front.now c.in-Some.last.now c.in-Some.ensures.cases.0
    c.if-last-ne32.false ∙ c.loop-last.invariant
