use Rattle.std.proofs.Common.{◌≢◌, ℕ, Option, subst}
use Rattle.it_run.specs.Answers.{end_of_answer}
use Rattle.it_run.specs.Runs.RunEndView.{Pivots}
use Rattle.it_simplex.specs.Answers.{Solves}
use Rattle.it_simplex.proofs.AnswerLemmas.{if_none, answer_is_right, ends_within_budget}
use Rattle.it_simplex.proofs.answering.solve.Goals as goal

pub returns-clause-unbound : goal.returns-clause-unbound
returns-clause-unbound c = if_none c.args.budget ((k : ℕ) → end_of_answer c.in_ok-solved.solved ≢ Pivots k)
    (λ e. ends_within_budget c.args.coordinates.now c.args.columns.now c.args.target.now (end_of_answer c.in_ok-solved.solved)
    (subst (λ (o : Option ℕ). Solves c.args.coordinates.now c.args.columns.now c.args.target.now o (end_of_answer c.in_ok-solved.solved)) e
    c.in_ok-solved.ensures))

pub returns-clause-right : goal.returns-clause-right
returns-clause-right c = answer_is_right c.args.coordinates.now c.args.columns.now c.args.target.now c.args.budget c.in_ok-solved.solved c.in_ok-solved.ensures
