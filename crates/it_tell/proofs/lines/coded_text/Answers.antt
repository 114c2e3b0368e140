use Rattle.it_space.specs.Answers.{answer_view}
use Rattle.it_tell.proofs.CodeLemmas.{named_variables}
use Rattle.it_tell.proofs.lines.coded_text.Goals as goal

pub code_text-requires-clause-named : goal.code_text-requires-clause-named
code_text-requires-clause-named c = rw c.names.ensures.value
    (named_variables c.args.question.now.body (answer_view c.args.answer.now) c.args.code.now c.requires.fits)
