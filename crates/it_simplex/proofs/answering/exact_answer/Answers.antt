use Rattle.std.proofs.Common.{ℕ, Option, sym, subst}
use Rattle.it_run.specs.Answers.{end_of_answer, RunsFrom}
use Rattle.it_run.proofs.AnswerLemmas.{if_ok}
use Rattle.it_tableau.specs.Problems.{feasibility_problem}
use Rattle.it_simplex.specs.Answers.{Solves}
use Rattle.it_simplex.proofs.AnswerLemmas.{run_solves, start_is_of_problem}
use Rattle.it_simplex.proofs.answering.exact_answer.Goals as goal

pub exact_run-requires-clause-start : goal.exact_run-requires-clause-start
exact_run-requires-clause-start c = (
  feasibility_problem c.args.coordinates.now c.args.columns.now c.args.target.now,
  start_is_of_problem
      c.args.coordinates.now c.args.columns.now c.args.target.now c.in-Ok.start c.in-Ok.ensures.value,
)

pub returns-in-Ok : goal.returns-in-Ok
returns-in-Ok c =
    if_ok c.exact_run.result (RunsFrom c.in-Ok.start c.steps.result) (λ a. Solves c.args.coordinates.now c.args.columns.now
    c.args.target.now c.args.budget (end_of_answer a)) c.exact_run.ensures
    (λ a r. subst (λ (o : Option ℕ). Solves c.args.coordinates.now c.args.columns.now c.args.target.now o (end_of_answer a)) (sym c.steps.ensures)
    (run_solves c.args.coordinates.now c.args.columns.now c.args.target.now c.in-Ok.start c.in-Ok.ensures.value c.steps.result a c.in-Ok.ensures.ok r))
