use Rattle.std.proofs.Common.{◌∙◌, ℕ, List, [], length, ap, sym, subst, arith}
use Rattle.it_space.specs.Rows.{Terms}
use Rattle.it_engine.specs.Ends.{AreWeightsOf, IsPointOf}
use Rattle.it_engine.specs.Engine.{IsFinished, IsSafe}
use Rattle.it_whole.specs.WholeRows.{WholeRowView}
use Rattle.it_engine.specs.declared.engine.EngineEnd.{EngineEnd}
use Rattle.it_engine.proofs.Answers.{by_budget, by_point, by_weights}
use Rattle.it_engine.proofs.whole.answer.Goals as goal

-- what is safe with columns is so without
without_columns : (columns : List Terms) (limit : ℕ) (rows : List WholeRowView) (basis : List ℕ) → IsSafe columns limit rows basis → IsSafe [] limit rows basis
without_columns columns limit rows basis s = record { rows_are = s.rows_are; usable = s.usable; fitting = λ j l. absurd (omega arith); limit_is = s.limit_is }

pub weights-requires : goal.weights-requires
weights-requires c = (
  c.args.limit,
  subst (λ (rows : List WholeRowView). IsSafe c.args.task.now.columns.now c.args.limit rows c.basis.result.now) (sym c.rows.ensures)
      (subst (IsSafe c.args.task.now.columns.now c.args.limit c.run.new.self.rows) (sym c.basis.ensures) c.in-Ok-Weights.ensures.engine),
)

pub point-requires-clause-height : goal.point-requires-clause-height
point-requires-clause-height c = ap length c.basis-in-Ok-Point.ensures ∙ c.in-Ok-Point.ensures.height ∙ c.requires.height

pub point-requires-clause-engine : goal.point-requires-clause-engine
point-requires-clause-engine c = (
  c.args.limit,
  subst (λ (rows : List WholeRowView). IsSafe [] c.args.limit rows c.basis-in-Ok-Point.result.now) (sym c.rows-in-Ok-Point.ensures)
      (subst (IsSafe [] c.args.limit c.run.new.self.rows) (sym c.basis-in-Ok-Point.ensures)
      (without_columns c.args.task.now.columns.now c.args.limit c.run.new.self.rows c.run.new.self.basis c.in-Ok-Point.ensures.engine)),
)

pub returns-in-Ok-Weights : goal.returns-in-Ok-Weights
returns-in-Ok-Weights c =
    let ws = c.in_ok-weights-in-Ok-Weights.field-0.items in
    by_weights c.args.task.now.coordinates.now c.args.task.now.target.now c.args.task.now.columns.now c.args.limit
    c.args.engine.rows c.args.engine.basis c.args.task.now.budget
    c.run.new.self.rows c.run.new.self.basis ws
    (subst (λ (f : EngineEnd). IsFinished c.args.task.now.columns.now c.args.limit c.args.engine.rows c.args.engine.basis c.args.task.now.budget
    c.run.new.self.rows c.run.new.self.basis f) c.in-Ok-Weights.field-0-is c.in-Ok-Weights.ensures)
    (subst (λ (rows : List WholeRowView). AreWeightsOf c.args.task.now.columns.now rows c.run.new.self.basis ws) c.rows.ensures
    (subst (λ (basis : List ℕ). AreWeightsOf c.args.task.now.columns.now c.rows.result.now basis ws) c.basis.ensures c.in_ok-weights-in-Ok-Weights.ensures))

pub returns-in-Ok-Point : goal.returns-in-Ok-Point
returns-in-Ok-Point c =
    let q = c.in_ok-point-in-Ok-Point.field-0.items in
    by_point c.args.task.now.coordinates.now c.args.task.now.target.now c.args.task.now.columns.now c.args.limit
    c.args.engine.rows c.args.engine.basis c.args.task.now.budget
    c.run.new.self.rows c.run.new.self.basis q
    (subst (λ (f : EngineEnd). IsFinished c.args.task.now.columns.now c.args.limit c.args.engine.rows c.args.engine.basis c.args.task.now.budget
    c.run.new.self.rows c.run.new.self.basis f) c.in-Ok-Point.field-0-is c.in-Ok-Point.ensures)
    (subst (λ (rows : List WholeRowView). IsPointOf c.args.task.now.coordinates.now c.args.task.now.target.now rows c.run.new.self.basis q)
    c.rows-in-Ok-Point.ensures
    (subst (λ (basis : List ℕ). IsPointOf c.args.task.now.coordinates.now c.args.task.now.target.now c.rows-in-Ok-Point.result.now basis q)
    c.basis-in-Ok-Point.ensures c.in_ok-point-in-Ok-Point.ensures))

pub returns-in-Ok-Pivots : goal.returns-in-Ok-Pivots
returns-in-Ok-Pivots c =
    by_budget c.args.task.now.coordinates.now c.args.task.now.target.now c.args.task.now.columns.now c.args.limit
    c.args.engine.rows c.args.engine.basis c.args.task.now.budget
    c.run.new.self.rows c.run.new.self.basis c.in-Ok-Pivots.steps
    (subst (λ (f : EngineEnd). IsFinished c.args.task.now.columns.now c.args.limit c.args.engine.rows c.args.engine.basis c.args.task.now.budget
    c.run.new.self.rows c.run.new.self.basis f) c.in-Ok-Pivots.field-0-is c.in-Ok-Pivots.ensures)
