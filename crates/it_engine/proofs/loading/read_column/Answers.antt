use Rattle.std.proofs.Common.{◌<◌, ◌≤◌, ◌∙◌, ℕ, ℤ, Bool, [], pos, length, slice_index_or, FitsSigned, to_z, of_z, to_z-of_z, rules, sym, ap, subst, arith}
use Rattle.std.specs.Bool.{OnTrue}
use Rattle.std.specs.Int.{w128}
use Rattle.it_space.specs.Rows.{Terms}
use Rattle.it_engine.specs.Loading.{IsTermPut}
use Rattle.it_engine.proofs.ColumnSteps.{column_first, column_more, column_whole, IsColumnUnderWay}
use Rattle.it_engine.proofs.loading.read_column.Goals as goal

pub loop-i-init : goal.loop-i-init
loop-i-init c = subst (IsColumnUnderWay c.args.coordinates.now c.args.target.now (slice_index_or c.args.generators.now c.args.j []) 0)
    (sym c.empty-column.ensures) (column_first c.args.coordinates.now c.args.target.now (slice_index_or c.args.generators.now c.args.j []))

pub loop-i-preserved : goal.loop-i-preserved
loop-i-preserved c =
    let terms : Terms = slice_index_or c.args.generators.now c.args.j [] in
    let cs = c.args.coordinates.now in
    let target = c.args.target.now in
    let i = c.loop-i.i in
    let inside : i < length terms = subst (λ (ts : Terms). i < length ts) c.terms_of-terms.ensures c.loop-i-test.true in
    let fits : FitsSigned w128 c.coefficient_at-number.result = search rules in
    column_more cs target terms i c.loop-i.column c.put_term.new.column c.requires.ascending inside
    (subst (λ (x : ℕ). IsTermPut cs target x (slice_index_or terms i (0, pos 0)).1 c.loop-i.column c.put_term.new.column)
    (c.coordinate_at-coordinate.ensures ∙ ap (λ (ts : Terms). (slice_index_or ts i (0, pos 0)).0) c.terms_of-terms.ensures)
    (subst (λ (z : ℤ). IsTermPut cs target c.coordinate_at-coordinate.result z c.loop-i.column c.put_term.new.column)
    (to_z-of_z fits ∙ c.coefficient_at-number.ensures ∙ ap (λ (ts : Terms). (slice_index_or ts i (0, pos 0)).1) c.terms_of-terms.ensures)
    (subst (λ (b : Bool). OnTrue b (IsTermPut cs target c.coordinate_at-coordinate.result
    (to_z w128 (of_z w128 c.coefficient_at-number.result)) c.loop-i.column c.put_term.new.column)) c.if-not-short.false
    c.in_ok-short.ensures)))
    c.loop-i.invariant

pub returns : goal.returns
returns c =
    let terms : Terms = slice_index_or c.args.generators.now c.args.j [] in
    let over : length terms ≤ c.loop-i.i = subst (λ (ts : Terms). length ts ≤ c.loop-i.i) c.terms_of-terms.ensures (omega (arith, c.loop-i-test.false)) in
    column_whole c.args.coordinates.now c.args.target.now terms c.loop-i.i c.loop-i.column over c.loop-i.invariant
