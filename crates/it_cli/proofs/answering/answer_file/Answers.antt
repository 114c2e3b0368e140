use Rattle.std.proofs.Common.{map}
use Rattle.it_question.proofs.AsciiLemmas.{texts_are_ascii}
use Rattle.it_cli.proofs.answering.answer_file.Goals as goal

pub answer_all-requires : goal.answer_all-requires
answer_all-requires g c = record {
  ascii = rw c.as_slice.ensures.value
      (texts_are_ascii c.args.request.limits c.args.bytes.now c.in-Ok.questions.items c.in-Ok.ensures.read);
}

pub returns-in-Ok : goal.returns-in-Ok
returns-in-Ok g c = c.answer_all.ensures c.args.bytes.now (rw c.as_slice.ensures.value c.in-Ok.ensures.read)
