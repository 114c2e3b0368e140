use Rattle.std.proofs.Common.{◌∙◌, sym, arith}
use Rattle.it_gen.proofs.QuestionSteps.{one_more, no_more}
use Rattle.it_gen.proofs.files.write_questions.Goals as goal

pub loop-preserved : goal.loop-preserved
loop-preserved c = (
  omega arith,
  rw (c.in_ok-write_question.ensures.text, c.in_ok-write_question.ensures.state)
      (one_more c.loop.draws.state c.args.count c.loop.counter c.loop.out.items (omega arith) ∙ c.loop.invariant.1),
)

pub returns : goal.returns
returns c = sym (no_more c.loop.draws.state c.args.count c.loop.counter c.loop.out.items (omega arith)) ∙ c.loop.invariant.1
