use Rattle.std.proofs.Common.{◌≡◌, ◌∙◌, ap, sym, subst, length}
use Rattle.std.specs.Option.{IfSome}
use Rattle.it_run.specs.declared.answering.Solved.{Solved}
use Rattle.it_run.proofs.AnswerLemmas.{if_ok}
use Rattle.it_engine.specs.Ends.{AnswersQuestion}
use Rattle.it_engine.specs.Engine.{EngineView, IsSafe, Represents}
use Rattle.it_engine.specs.Tables.{AreAllAtMost}
use Rattle.it_engine.proofs.Answers.{if_some_more, of_some}
use Rattle.it_engine.proofs.LowerLimits.{answers_below, safe_below, stands_below}
use Rattle.it_engine.proofs.whole.narrow_answer.Goals as goal
use Rattle.it_engine.proofs.whole.narrow_answer.Goals.{In-Some}

-- the engine in 32 bits shows the same
engine_is : (c : In-Some) → c.in-Some.narrow ≡ c.args.engine.now
engine_is c = of_some c.in_ok-narrow.field-0 c.in-Some.narrow (λ (e : EngineView). e ≡ c.args.engine.now) c.in-Some.is c.in_ok-narrow.ensures.engine

numbers_are_small : (c : In-Some) → AreAllAtMost c.narrow_limit-lower.result c.args.engine.now.rows
numbers_are_small c = of_some c.in_ok-narrow.field-0 c.in-Some.narrow (λ (e : EngineView). AreAllAtMost c.narrow_limit-lower.result
    c.args.engine.now.rows) c.in-Some.is c.in_ok-narrow.ensures.small

pub answer-requires-clause-height : goal.answer-requires-clause-height
answer-requires-clause-height c = let d = (goal.at.answer-requires-clause-height c).In-Some
    in ap (λ (e : EngineView). length e.basis) (engine_is d) ∙ c.requires.height

pub answer-requires-clause-engine : goal.answer-requires-clause-engine
answer-requires-clause-engine c =
    let d = (goal.at.answer-requires-clause-engine c).In-Some in
    subst (λ (e : EngineView). IsSafe c.args.task.now.columns.now c.narrow_limit-lower.result e.rows e.basis) (sym (engine_is d))
    (safe_below c.args.task.now.columns.now c.args.limit c.narrow_limit-lower.result c.args.engine.now.rows c.args.engine.now.basis
    c.narrow_limit-lower.ensures.below (numbers_are_small d) c.requires.engine)

pub answer-requires-clause-stands : goal.answer-requires-clause-stands
answer-requires-clause-stands c =
    let d = (goal.at.answer-requires-clause-stands c).In-Some in
    let s = c.requires.stands in (
      s.0,
      s.1,
      subst (λ (e : EngineView). Represents s.0 s.1 c.args.task.now.columns.now c.narrow_limit-lower.result e.rows e.basis) (sym (engine_is d))
          (stands_below c.args.task.now.columns.now c.args.limit c.narrow_limit-lower.result c.args.engine.now.rows c.args.engine.now.basis
          c.narrow_limit-lower.ensures.below (numbers_are_small d) s.0 s.1 s.2),
    )

pub returns-in-Some : goal.returns-in-Some
returns-in-Some c =
    let d = (goal.at.returns-in-Some c).In-Some in
    let columns = c.args.task.now.columns.now in
    let rows = c.args.engine.now.rows in
    let basis = c.args.engine.now.basis in
    let lower = c.narrow_limit-lower.result in
    let P : Solved → Type 0 = λ solved. AnswersQuestion c.args.task.now.coordinates.now c.args.task.now.target.now columns lower c.in-Some.narrow.rows
    c.in-Some.narrow.basis c.args.task.now.budget solved in
    let Q : Solved → Type 0 = λ solved. AnswersQuestion c.args.task.now.coordinates.now c.args.task.now.target.now
    columns c.args.limit rows basis c.args.task.now.budget solved in
    if_ok c.answer.result (λ o. IfSome o P) (λ o. IfSome o Q) c.answer.ensures
    (λ o h. if_some_more o P Q h (λ solved a. answers_below columns c.args.limit lower rows basis c.narrow_limit-lower.ensures.below
    (numbers_are_small d) c.args.task.now.coordinates.now c.args.task.now.target.now c.args.task.now.budget solved
    (subst (λ (e : EngineView). AnswersQuestion c.args.task.now.coordinates.now c.args.task.now.target.now
    columns lower e.rows e.basis c.args.task.now.budget solved) (engine_is d) a)))
