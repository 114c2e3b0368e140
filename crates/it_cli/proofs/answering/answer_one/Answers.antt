use Rattle.it_run.proofs.AnswerLemmas.{if_ok}
use Rattle.it_space.specs.Answers.{answer_view}
use Rattle.it_answer.proofs.KindLemmas.{is_answer_to}
use Rattle.it_cli.specs.InnerEnds.{IsAnswerText, IsToldText}
use Rattle.it_cli.proofs.LineLemmas.{few_constraints, right_is_printable}
use Rattle.it_cli.proofs.OriginLemmas.{right_rows_over}
use Rattle.it_cli.proofs.answering.answer_one.Goals as goal

pub lines-requires-clause-fits : goal.lines-requires-clause-fits
lines-requires-clause-fits g c = is_answer_to c.args.request.budgets _ c.args.question.now.body
    (record { answer = answer_view c.in_ok-answered.answered.answer; found = c.in_ok-answered.ensures.answered.found })
    c.in_ok-answered.ensures.answered.right

pub lines-requires-clause-printable : goal.lines-requires-clause-printable
lines-requires-clause-printable g c =
    right_is_printable c.args.request.budgets _ c.args.question.now.body _ c.in_ok-answered.answered.answer
    c.in_ok-answered.ensures.answered.found c.facts.ensures
    (few_constraints c.args.question.now.body c.in_ok-answered.answered.problem.space
    c.in_ok-answered.answered.problem.constraints c.in_ok-answered.ensures.problem)
    c.in_ok-answered.ensures.answered.right

pub lines-requires-clause-rows : goal.lines-requires-clause-rows
lines-requires-clause-rows g c =
    right_rows_over c.args.request.budgets _ c.args.question.now.body
    (record { answer = answer_view c.in_ok-answered.answered.answer; found = c.in_ok-answered.ensures.answered.found })
    c.in_ok-answered.ensures.answered.right

pub returns : goal.returns
returns g c = if_ok c.lines.result (λ t. IsToldText c.args.request.format c.args.k c.args.question.now
    (answer_view c.in_ok-answered.answered.answer) t.items)
    (λ t. IsAnswerText c.args.request.budgets _ c.args.request.format c.args.k c.args.question.now _ t.items) c.lines.ensures (λ t told. record {
      told = record {
        reply = record { answer = answer_view c.in_ok-answered.answered.answer; found = c.in_ok-answered.ensures.answered.found };
        origins = told.origins;
      };
      right = record { reply = c.in_ok-answered.ensures.answered.right; origins = told.told };
      learned = c.in_ok-answered.ensures.answered.learned;
      is = told.is;
    })
