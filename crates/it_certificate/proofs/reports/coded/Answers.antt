use Rattle.serde_json.specs.View.{view}
use Rattle.it_space.specs.Answers.{answer_view}
use Rattle.it_certificate.proofs.CodeFits.{coded_fits}
use Rattle.it_certificate.proofs.ReportLemmas.{code_err, code_ok}
use Rattle.it_certificate.proofs.reports.coded.Goals as goal

pub returns-in-Ok-question_code-clause-reading : goal.returns-in-Ok-question_code-clause-reading
returns-in-Ok-question_code-clause-reading c =
    code_ok c.args.limits (view c.args.value.now) c.requires.told c.requires.outer c.requires.factors c.requires.code c.in_ok-question.question
    c.in_ok-question.ensures.reading
    c.in-Ok.answer c.in-Ok-question_code.code c.in-Ok.ensures c.in-Ok-question_code.ensures

pub returns-in-Ok-question_code-clause-limits : goal.returns-in-Ok-question_code-clause-limits
returns-in-Ok-question_code-clause-limits c = (
  c.in_ok-question.ensures.limits,
  coded_fits c.in_ok-question.question (view c.args.value.now) (answer_view c.in-Ok.answer)
      c.in-Ok-question_code.code c.in-Ok.ensures c.in-Ok-question_code.ensures,
)

pub returns-in-Err-question_code-clause-reading : goal.returns-in-Err-question_code-clause-reading
returns-in-Err-question_code-clause-reading c =
    code_err c.args.limits (view c.args.value.now) c.requires.told c.requires.outer c.requires.factors c.requires.code c.in_ok-question.question
    c.in_ok-question.ensures.reading
    c.in-Ok.answer c.in-Err-question_code.fault c.in-Ok.ensures c.in-Err-question_code.ensures
