use Rattle.std.proofs.Common.{◌≡◌, ◌<◌, ◌+◌, pos, false, List, length, sym, subst, ap, ◌∙◌, arith}
use Rattle.std.proofs.lemmas.List.{with_items_is}
use Rattle.std.specs.Vec.{with_items}
use Rattle.it_rational.specs.Rational.{Rational}
use Rattle.it_tableau.specs.Operations.{rationals}
use Rattle.it_tableau.specs.Fits.{PivotFits}
use Rattle.it_tableau.specs.Entries.{entry_at, row_at}
use Rattle.it_tableau.specs.Rows.{ArePivoted, RowsPivotFits}
use Rattle.it_tableau.specs.TableauViews.{TableauView, IsSound, table, height}
use Rattle.it_tableau.specs.SimplexTables.{pivot}
use Rattle.it_tableau.proofs.Positive.{positive_some}
use Rattle.it_tableau.proofs.ViewLemmas.{pivot_sound, pivot_is_shown, pivot_numbers_fit}
use Rattle.it_tableau.proofs.tableau.Tableau.pivot.Goals as goal
use Rattle.it_tableau.proofs.tableau.Tableau.pivot.Goals.{After-as_mut_slice, After-pivot_rows}

-- the rows that are borrowed
abbrev Old : After-as_mut_slice → List (List Rational)
Old c = c.self.inside.rows.items

lent_rows : (c : After-as_mut_slice) → c.as_mut_slice.result.now ≡ c.self.inside.rows.items
lent_rows c = c.as_mut_slice.ensures.value

seen_rows : (c : After-as_mut_slice) → c.self.inside.rows.items ≡ c.args.self.now.rows
seen_rows c = ap (λ (s : TableauView). s.rows) c.self.view_is

table_is_usable : (c : After-as_mut_slice) → c.self.inside.spent ≡ false
table_is_usable c = ap (λ (s : TableauView). s.spent) c.self.view_is ∙ c.requires.usable

rows_are_sound : (c : After-as_mut_slice) → IsSound c.self.inside.generator_columns c.self.inside.width c.self.inside.rows.items
    c.self.inside.basis.items c.self.inside.negated.items
rows_are_sound c = c.self.invariant (table_is_usable c)

row_within : (c : After-as_mut_slice) → c.args.row < length c.self.inside.basis.items
row_within c = let e = ap (λ (s : TableauView). length s.basis) c.self.view_is in omega (arith, e, c.requires.row)

pub pivot_rows-requires-clause-some : goal.pivot_rows-requires-clause-some
pivot_rows-requires-clause-some c =
    subst (λ (rows : List (List Rational)). (entry_at (row_at rows c.args.row) c.args.column).num ≡ pos 0 → ⊥) (sym (lent_rows c ∙ seen_rows c))
    (positive_some (entry_at (row_at c.args.self.now.rows c.args.row) c.args.column) c.requires.positive)

-- the rows that are written back are those that the pivot made
written_rows : (c : After-pivot_rows) → ArePivoted c.as_mut_slice.result.now c.args.row c.args.column c.pivot_rows.new.rows
    → (with_items c.self.inside.rows c.pivot_rows.new.rows).items ≡ c.pivot_rows.new.rows
written_rows c p = with_items_is c.self.inside.rows c.pivot_rows.new.rows
    (p.same_length ∙ ap length c.as_mut_slice.ensures.value ∙ sym c.self.inside.rows.ok.0)

-- on the rows of the fields
rows_are_pivoted : (c : After-pivot_rows) → ArePivoted c.as_mut_slice.result.now c.args.row c.args.column c.pivot_rows.new.rows
    → ArePivoted c.self.inside.rows.items c.args.row c.args.column (with_items c.self.inside.rows c.pivot_rows.new.rows).items
rows_are_pivoted c p =
    subst (λ (old : List (List Rational)). ArePivoted old c.args.row c.args.column
    (with_items c.self.inside.rows c.pivot_rows.new.rows).items) c.as_mut_slice.ensures.value
    (subst (ArePivoted c.as_mut_slice.result.now c.args.row c.args.column) (sym (written_rows c p)) p)

pub invariant_of-self : goal.invariant_of-self
invariant_of-self c spent = let d = (goal.at.invariant_of-self c).After-as_mut_slice in
    let e = (goal.at.invariant_of-self c).After-pivot_rows in
    pivot_sound c.self.inside.generator_columns c.self.inside.width c.self.inside.rows.items
    (with_items c.self.inside.rows c.pivot_rows.new.rows).items c.self.inside.basis.items c.self.inside.negated.items
    c.args.row c.args.column (row_within d) (rows_are_sound d) (rows_are_pivoted e c.in-Ok.ensures.value)

pub returns-in-Ok-clause-value : goal.returns-in-Ok-clause-value
returns-in-Ok-clause-value c = let d = (goal.at.returns-in-Ok-clause-value c).After-as_mut_slice in
    let e = (goal.at.returns-in-Ok-clause-value c).After-pivot_rows in
    let m = length c.self.inside.basis.items in
    let columns : c.args.column < c.self.inside.generator_columns
    + m = (let w = ap (λ (s : TableauView). s.generator_columns + length s.basis) c.self.view_is in omega (arith, w, c.requires.column))
    in
    pivot_is_shown m c.self.inside.generator_columns c.self.inside.rows.items
    (with_items c.self.inside.rows c.pivot_rows.new.rows).items c.self.inside.basis.items
    c.args.row c.args.column (row_within d) columns (rows_are_sound d).shape (rows_are_pivoted e c.in-Ok.ensures.value)
    ∙ ap (λ (s : TableauView). pivot rationals (table s) c.args.row c.args.column) c.self.view_is

pub returns-in-Ok-clause-ok : goal.returns-in-Ok-clause-ok
returns-in-Ok-clause-ok c = let d = (goal.at.returns-in-Ok-clause-ok c).After-as_mut_slice in
    subst (λ (s : TableauView). PivotFits (height s) s.generator_columns (table s) c.args.row c.args.column) c.self.view_is
    (pivot_numbers_fit (length c.self.inside.basis.items) c.self.inside.generator_columns c.self.inside.rows.items c.self.inside.basis.items
    c.args.row c.args.column (row_within d) (rows_are_sound d).shape
    (subst (λ (old : List (List Rational)). RowsPivotFits old c.args.row c.args.column) (lent_rows d) c.in-Ok.ensures.ok))
