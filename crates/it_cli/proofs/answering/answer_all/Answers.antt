use Rattle.std.proofs.Common.{arith, ap, inr, refl, ◌∙◌}
use Rattle.it_outside.specs.Causes.{next_count}
use Rattle.it_question.specs.AsciiTexts.{IsAsciiQuestion}
use Rattle.it_cli.proofs.RightLemmas.{all_answered, answers_more, answers_stop, first_answered, none_answered}
use Rattle.it_cli.proofs.answering.answer_all.Goals as goal

pub loop-i-init : goal.loop-i-init
loop-i-init g c = (none_answered c.args.request.limits c.args.request.budgets _ c.args.request.format _ _, refl)

pub answer_one-requires : goal.answer_one-requires
answer_one-requires g c = record {
  ascii = rw c.index-questions-i.is (c.requires.ascii c.loop-i.i c.index-questions-i.result (omega arith));
}

pub returns-in_default : goal.returns-in_default
returns-in_default g c bytes asked = (
  c.loop-i.invariant.1,
  inr (first_answered c.args.request.limits c.args.request.budgets _ _ c.args.request.format _ _ bytes _ c.loop-i.i
      asked c.loop-i.invariant.0),
)

pub returns-in_default-write_all : goal.returns-in_default-write_all
returns-in_default-write_all g c bytes asked = (
  c.in_default-write_all.ensures.counted ∙ ap next_count c.loop-i.invariant.1,
  inr (answers_stop c.args.request.limits c.args.request.budgets _ _ _ c.args.request.format _ _ _ bytes c.args.questions.now c.loop-i.i c.index-questions-i.result
      c.in-Ok.text.items c.as_slice.result.now asked c.loop-i.invariant.0 (omega arith) c.index-questions-i.is
      c.in-Ok.ensures c.as_slice.ensures.value c.in_default-write_all.ensures.part),
)

pub loop-i-preserved : goal.loop-i-preserved
loop-i-preserved g c = (
  answers_more c.args.request.limits c.args.request.budgets _ _ _ c.args.request.format _ _ _ c.args.questions.now c.loop-i.i c.index-questions-i.result c.in-Ok.text.items
      c.as_slice.result.now c.loop-i.invariant.0 (omega arith) c.index-questions-i.is
      c.in-Ok.ensures c.as_slice.ensures.value c.in-Ok-write_all.ensures.whole,
  c.in-Ok-write_all.ensures.counted ∙ c.loop-i.invariant.1,
)

pub returns : goal.returns
returns g c bytes asked = (
  c.loop-i.invariant.1,
  all_answered c.args.request.limits c.args.request.budgets _ _ c.args.request.format _ _ bytes _ c.loop-i.i asked
      c.loop-i.invariant.0 (omega arith),
)
