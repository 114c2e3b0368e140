use Rattle.std.proofs.Common.{ℕ, Option, inr, sym, subst}
use Rattle.it_run.specs.Answers.{end_of_answer}
use Rattle.it_engine.specs.Answers.{RunsFromStart}
use Rattle.it_engine.proofs.Answers.{of_some}
use Rattle.it_simplex.specs.Answers.{Solves}
use Rattle.it_simplex.proofs.answering.run_answer.Goals as goal

pub returns-in-Some : goal.returns-in-Some
returns-in-Some c =
    let r = of_some c.in_ok-solved.field-0 c.in-Some.solved (RunsFromStart c.args.coordinates.now c.args.columns.now c.args.target.now
    c.steps.result) c.in-Some.is c.in_ok-solved.ensures in
    subst (λ (o : Option ℕ). Solves c.args.coordinates.now c.args.columns.now c.args.target.now o (end_of_answer c.in-Some.solved))
    (sym c.steps.ensures) (inr (r.fits, r.ends))
