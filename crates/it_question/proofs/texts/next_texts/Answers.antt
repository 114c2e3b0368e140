use Rattle.it_question.proofs.MovedTexts.{one_moved}
use Rattle.it_question.proofs.texts.next_texts.Goals as goal

pub loop-preserved : goal.loop-preserved
loop-preserved c = one_moved c.args.n c.loop.counter _ _ _ c.in-Some.line c.loop.texts.items c.push.new.self.items c.into_text.result
    c.loop.invariant c.loop-test.true c.in-Some.ensures.cases.0 c.into_text.ensures c.in-Ok.ensures.items
