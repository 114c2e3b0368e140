use Rattle.std.proofs.Common.{◌≡◌, subst}
use Rattle.it_tableau.specs.TableauViews.{height, table}
use Rattle.it_run.specs.Runs.RunEndView.{Pivots, Width}
use Rattle.it_run.specs.Steps.{run_end_view, LeavesTableau, ReachesBy}
use Rattle.it_run.specs.declared.run.RunEnd.{RunEnd}
use Rattle.it_run.specs.declared.run.RunEnd.TheVariants.{Weights, Point}
use Rattle.it_run.specs.declared.run.RunEnd.TheVariants as run_ends
use Rattle.it_run.proofs.AnswerLemmas.{by_weights, by_point, holds_start, read_run}
use Rattle.it_run.proofs.answering.exact_run.Goals as goal
use Rattle.it_run.proofs.answering.exact_run.Goals.{In_ok-run}

-- the run's contract where its ending is known
run_reaches : (c : In_ok-run) (e : RunEnd) → c.in_ok-run.field-0 ≡ e
    → ReachesBy (height c.args.start) c.args.start.generator_columns c.args.budget (table c.args.start)
    (run_end_view e (table c.run.new.tableau))
run_reaches c e q = subst (λ (x : RunEnd). ReachesBy (height c.args.start) c.args.start.generator_columns c.args.budget (table c.args.start)
    (run_end_view x (table c.run.new.tableau))) q c.in_ok-run.ensures.end

run_leaves : (c : In_ok-run) (e : RunEnd) → c.in_ok-run.field-0 ≡ e → LeavesTableau e c.args.start c.run.new.tableau
run_leaves c e q = subst (λ (x : RunEnd). LeavesTableau x c.args.start c.run.new.tableau) q c.in_ok-run.ensures.kept

pub run-requires-clause-holds : goal.run-requires-clause-holds
run-requires-clause-holds c = holds_start c.args.start c.requires.start

pub returns-in-Weights : goal.returns-in-Weights
returns-in-Weights c p s = let d = (goal.at.returns-in-Weights c).In_ok-run in let k = run_leaves d Weights c.in-Weights.is in
    by_weights c.args.start c.run.new.tableau p c.args.budget c.in_ok-weights-in-Weights.field-0.items k.frame
    (run_reaches d Weights c.in-Weights.is) c.in_ok-weights-in-Weights.ensures

pub returns-in-Point : goal.returns-in-Point
returns-in-Point c p s = let d = (goal.at.returns-in-Point c).In_ok-run in let k = run_leaves d Point c.in-Point.is in
    by_point c.args.start c.run.new.tableau p c.args.budget c.in_ok-point-in-Point.field-0.items k.frame s.signs
    (run_reaches d Point c.in-Point.is) (c.in_ok-point-in-Point.ensures p)

pub returns-in-Pivots : goal.returns-in-Pivots
returns-in-Pivots c p s = let d = (goal.at.returns-in-Pivots c).In_ok-run in
    read_run (height c.args.start) c.args.start.generator_columns p c.args.budget (table c.args.start) (Pivots c.in-Pivots.steps)
    (run_reaches d (run_ends.Pivots c.in-Pivots.steps) c.in-Pivots.is)

pub returns : goal.returns
returns c p s = let d = (goal.at.returns c).In_ok-run in
    read_run (height c.args.start) c.args.start.generator_columns p c.args.budget (table c.args.start) (Width c.in-Width.step)
    (run_reaches d (run_ends.Width c.in-Width.step) c.in-Width.is)
