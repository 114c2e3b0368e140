use Rattle.std.proofs.Common.{rules, ◌≡◌, ◌<◌, ◌+◌, ◌∙◌, ap, ap₂, sym, subst, ℕ, length, List, [], refl, slice_index_or, slice_set, Some}
use Rattle.std.proofs.lemmas.List.{get_or_default, length-set, with_items_is}
use Rattle.std.specs.Vec.{with_items}
use Rattle.it_space.specs.Rows.{Terms}
use Rattle.it_engine.specs.Choosing.{best_row, entry_of}
use Rattle.it_engine.specs.Engine.{EngineView, IsEngineStep}
use Rattle.it_engine.specs.PivotedRows.{AreUsable, AreWholeRowsPivoted, IsFitting}
use Rattle.it_whole.specs.WholeRows.{WholeRowView}
use Rattle.it_engine.proofs.Steps.{engine_kept, step_is_made, stuck_here}
use Rattle.it_engine.proofs.engine.Engine.step.Goals as goal
use Rattle.it_engine.proofs.engine.Engine.step.Goals.{After-index-run-column}

pub returns-in_default : goal.returns-in_default
returns-in_default c = (
  refl,
  refl,
  λ p t s. stuck_here p t c.args.run.now.columns.now c.args.run.now.limit c.args.self.now.rows c.args.self.now.basis s c.in_default.ensures.none,
)

-- the rows that are borrowed
rows_are_lent : (c : After-index-run-column) → c.as_mut_slice.result.now ≡ c.args.self.now.rows
rows_are_lent c = c.as_mut_slice.ensures.value ∙ ap (λ (e : EngineView). e.rows) c.self.view_is

-- the basic columns that are borrowed
basis_is_lent : (c : After-index-run-column) → c.as_slice.result.now ≡ c.args.self.now.basis
basis_is_lent c = c.as_slice.ensures.value ∙ ap (λ (e : EngineView). e.basis) c.self.view_is

-- the entering column
column_is : (c : After-index-run-column) → slice_index_or c.args.run.now.columns.now c.in-Some.column c.index-run-column.result
    ≡ slice_index_or c.args.run.now.columns.now c.in-Some.column []
column_is c = get_or_default c.args.run.now.columns.now c.in-Some.column c.index-run-column.result [] (search rules)

pub enter-requires-clause-height : goal.enter-requires-clause-height
enter-requires-clause-height c = let d = (goal.at.enter-requires-clause-height c).After-index-run-column in
    ap length (rows_are_lent d) ∙ c.requires.rows_are ∙ ap (λ (b : List ℕ). length b + 1) (sym (basis_is_lent d))

pub enter-requires-clause-rows : goal.enter-requires-clause-rows
enter-requires-clause-rows c = let d = (goal.at.enter-requires-clause-rows c).After-index-run-column in
    subst (λ (rows : List WholeRowView). AreUsable (length rows) c.args.run.now.limit rows) (sym (rows_are_lent d)) c.requires.usable

pub enter-requires-clause-column : goal.enter-requires-clause-column
enter-requires-clause-column c = let d = (goal.at.enter-requires-clause-column c).After-index-run-column in
    subst (λ (rows : List WholeRowView). IsFitting (length rows) c.args.run.now.limit
    (slice_index_or c.args.run.now.columns.now c.in-Some.column c.index-run-column.result)) (sym (rows_are_lent d))
    (subst (IsFitting (length c.args.self.now.rows) c.args.run.now.limit) (sym (column_is d)) (c.requires.fitting c.in-Some.column (search rules)))

pub returns : goal.returns
returns c =
    let d = (goal.at.returns c).After-index-run-column in
    let rows = c.args.self.now.rows in
    let basis = c.args.self.now.basis in
    let ts = slice_index_or c.args.run.now.columns.now c.in-Some.column [] in
    let leaves : best_row ts rows basis (length basis) ≡ Some c.in-Some-enter.row =
    sym (ap₂ (λ (rows : List WholeRowView) (basis : List ℕ). best_row ts rows basis (length basis)) (rows_are_lent d) (basis_is_lent d))
    ∙ ap (λ (ts : Terms). best_row ts c.as_mut_slice.result.now c.as_slice.result.now (length c.as_slice.result.now)) (sym (column_is d))
    ∙ c.in-Some-enter.ensures.leaves in
    let pivoted : AreWholeRowsPivoted (length rows) c.args.run.now.limit rows (entry_of ts rows) c.in-Some-enter.row c.enter.new.rows =
    subst (λ (old : List WholeRowView). AreWholeRowsPivoted (length old) c.args.run.now.limit old (entry_of ts old) c.in-Some-enter.row
    c.enter.new.rows) (rows_are_lent d)
    (subst (λ (x : Terms). AreWholeRowsPivoted (length c.as_mut_slice.result.now) c.args.run.now.limit c.as_mut_slice.result.now
    (entry_of x c.as_mut_slice.result.now) c.in-Some-enter.row c.enter.new.rows) (column_is d) c.in-Some-enter.ensures.pivoted) in
    let written : (with_items c.self.inside.rows c.enter.new.rows).items ≡ c.enter.new.rows =
    with_items_is c.self.inside.rows c.enter.new.rows (pivoted.same_length ∙ ap (λ (e : EngineView). length e.rows) (sym c.self.view_is)
    ∙ sym c.self.inside.rows.ok.0) in
    let within : c.in-Some-enter.row < length basis = subst (λ (b : List ℕ). c.in-Some-enter.row < length b) (basis_is_lent d) c.in-Some-enter.ensures.within in
    subst (λ (new : List WholeRowView). IsEngineStep c.args.run.now.columns.now c.args.run.now.limit rows basis new
    (slice_set c.self.inside.basis.items c.in-Some-enter.row c.in-Some.column)) (sym written)
    (subst (λ (b : List ℕ). IsEngineStep c.args.run.now.columns.now c.args.run.now.limit rows basis c.enter.new.rows
    (slice_set b c.in-Some-enter.row c.in-Some.column)) (ap (λ (e : EngineView). e.basis) (sym c.self.view_is)) record {
      engine = engine_kept c.args.run.now.columns.now c.args.run.now.limit rows c.enter.new.rows basis
          (entry_of ts rows) c.in-Some-enter.row c.in-Some.column within c.requires pivoted;
      height = length-set basis c.in-Some-enter.row c.in-Some.column;
      made = λ p t s. step_is_made p t c.args.run.now.columns.now c.args.run.now.limit rows basis s c.in-Some.column c.in-Some-enter.row
          c.in-Some.ensures.within c.in-Some.ensures.some leaves c.enter.new.rows pivoted;
    })
