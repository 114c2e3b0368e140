use Rattle.std.proofs.Common.{sym, ap, ◌∙◌, refl}
use Rattle.it_space.specs.declared.answers.Cause.TheVariants as causes
use Rattle.it_run.specs.Answers.{end_of_answer}
use Rattle.it_run.specs.Runs.RunEndView.{Weights, Point, Pivots, Width}
use Rattle.it_run.proofs.AnswerLemmas.{if_ok}
use Rattle.it_prove.specs.ProofViews.{EndsByRun, Follows, Undecided, proof_view}
use Rattle.it_prove.proofs.ProofLemmas.{answer_ends, answer_sums, answer_separates}
use Rattle.it_prove.proofs.proving.closed_proof.Goals as goal

pub by_weights-requires-clause-sum : goal.by_weights-requires-clause-sum
by_weights-requires-clause-sum c = answer_sums c.args.problem.now c.args.target.now c.as_slice.result.now
    c.args.closed.now.coordinates.items c.as_slice.ensures.value c.requires.coordinates
    c.as_slice-2.result.now c.args.closed.now.columns.items c.as_slice-2.ensures.value c.requires.columns c.args.collapsed.now
    c.requires.collapsed c.in_ok-weights.field-0
    c.in_ok-weights.ensures.right c.as_slice-in-Weights.result.now (ap end_of_answer c.in-Weights.is ∙ ap Weights (sym c.as_slice-in-Weights.ensures.value))

pub returns-in-Weights : goal.returns-in-Weights
returns-in-Weights c = if_ok c.by_weights.result (λ proof. Follows c.args.problem.now c.args.target.now
    (Weights c.as_slice-in-Weights.result.now) (proof_view proof))
    (λ proof. EndsByRun c.args.problem.now c.args.target.now c.args.budget (proof_view proof)) c.by_weights.ensures
    (λ proof f. answer_ends c.args.problem.now c.args.target.now c.as_slice.result.now c.args.closed.now.coordinates.items
    c.as_slice.ensures.value c.requires.coordinates
    c.as_slice-2.result.now c.args.closed.now.columns.items c.as_slice-2.ensures.value c.requires.columns c.args.collapsed.now
    c.requires.collapsed c.in_ok-weights.field-0
    c.requires.fits c.args.budget c.in_ok-weights.ensures.end (Weights c.as_slice-in-Weights.result.now) (proof_view proof)
    (ap end_of_answer c.in-Weights.is ∙ ap Weights (sym c.as_slice-in-Weights.ensures.value)) f)

pub by_point-requires-clause-apart : goal.by_point-requires-clause-apart
by_point-requires-clause-apart c = answer_separates c.args.problem.now c.args.target.now c.as_slice.result.now
    c.args.closed.now.coordinates.items c.as_slice.ensures.value c.requires.coordinates
    c.as_slice-2.result.now c.args.closed.now.columns.items c.as_slice-2.ensures.value c.requires.columns c.args.collapsed.now
    c.requires.collapsed c.in_ok-weights.field-0
    c.in_ok-weights.ensures.right c.as_slice-in-Point-2.result.now (ap end_of_answer c.in-Point.is ∙ ap Point (sym c.as_slice-in-Point-2.ensures.value))

pub returns-in-Point : goal.returns-in-Point
returns-in-Point c = if_ok c.by_point.result (λ proof. Follows c.args.problem.now c.args.target.now (Point c.as_slice-in-Point-2.result.now) (proof_view proof))
    (λ proof. EndsByRun c.args.problem.now c.args.target.now c.args.budget (proof_view proof)) c.by_point.ensures
    (λ proof f. answer_ends c.args.problem.now c.args.target.now c.as_slice.result.now c.args.closed.now.coordinates.items
    c.as_slice.ensures.value c.requires.coordinates
    c.as_slice-2.result.now c.args.closed.now.columns.items c.as_slice-2.ensures.value c.requires.columns c.args.collapsed.now
    c.requires.collapsed c.in_ok-weights.field-0
    c.requires.fits c.args.budget c.in_ok-weights.ensures.end (Point c.as_slice-in-Point-2.result.now) (proof_view proof)
    (ap end_of_answer c.in-Point.is ∙ ap Point (sym c.as_slice-in-Point-2.ensures.value)) f)

pub returns-in-Pivots : goal.returns-in-Pivots
returns-in-Pivots c = answer_ends c.args.problem.now c.args.target.now c.as_slice.result.now c.args.closed.now.coordinates.items
    c.as_slice.ensures.value c.requires.coordinates
    c.as_slice-2.result.now c.args.closed.now.columns.items c.as_slice-2.ensures.value c.requires.columns c.args.collapsed.now
    c.requires.collapsed c.in_ok-weights.field-0
    c.requires.fits c.args.budget c.in_ok-weights.ensures.end (Pivots c.in-Pivots.steps) (Undecided (causes.Pivots c.in-Pivots.steps))
    (ap end_of_answer c.in-Pivots.is) refl

pub returns-in-Width : goal.returns-in-Width
returns-in-Width c = answer_ends c.args.problem.now c.args.target.now c.as_slice.result.now c.args.closed.now.coordinates.items
    c.as_slice.ensures.value c.requires.coordinates
    c.as_slice-2.result.now c.args.closed.now.columns.items c.as_slice-2.ensures.value c.requires.columns c.args.collapsed.now
    c.requires.collapsed c.in_ok-weights.field-0
    c.requires.fits c.args.budget c.in_ok-weights.ensures.end (Width c.in-Width.step) (Undecided (causes.Width c.in-Width.step))
    (ap end_of_answer c.in-Width.is) refl
