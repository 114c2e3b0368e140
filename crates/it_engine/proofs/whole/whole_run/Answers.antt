use Rattle.std.proofs.Common.{List, sym, subst}
use Rattle.it_space.specs.Rows.{Terms}
use Rattle.it_tableau.specs.Problems.{feasibility_problem}
use Rattle.it_tableau.specs.TableauViews.{start_of}
use Rattle.it_engine.specs.Ends.{IsStart}
use Rattle.it_engine.proofs.Answers.{answers_from_start, of_some}
use Rattle.it_engine.proofs.whole.whole_run.Goals as goal
use Rattle.it_engine.proofs.whole.whole_run.Goals.{After-as_slice}

is_start : (c : After-as_slice) → IsStart c.args.coordinates.now c.args.generators.now c.args.target.now c.as_slice.result.now
    c.in-Some.start.limit c.in-Some.start.engine
is_start c = subst (λ (columns : List Terms). IsStart c.args.coordinates.now c.args.generators.now c.args.target.now columns
    c.in-Some.start.limit c.in-Some.start.engine) (sym c.as_slice.ensures.value)
    (of_some c.in_ok-start.field-0 c.in-Some.start (λ start. IsStart c.args.coordinates.now c.args.generators.now c.args.target.now
    start.columns.items start.limit start.engine) c.in-Some.is c.in_ok-start.ensures)

pub answer_by_width-requires-clause-stands : goal.answer_by_width-requires-clause-stands
answer_by_width-requires-clause-stands c = (
  feasibility_problem c.args.coordinates.now c.args.generators.now c.args.target.now,
  start_of c.args.coordinates.now
      c.args.generators.now c.args.target.now,
  (is_start (goal.at.answer_by_width-requires-clause-stands c).After-as_slice).stands,
)

pub returns : goal.returns
returns c =
    let d = (goal.at.returns c).After-as_slice in
    answers_from_start c.args.coordinates.now c.args.generators.now c.args.target.now c.as_slice.result.now c.in-Some.start.limit
    c.in-Some.start.engine (is_start d) c.args.budget c.answer_by_width.result c.answer_by_width.ensures
