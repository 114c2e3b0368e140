-- Rows after the givens leave the dependences as they are, and the generators of the givens before all others: the closed problem of
-- the givens serves the problem with the rows.
use Rattle.std.proofs.Common.{◌≡◌, ℕ, zero, suc, ◌+◌, ◌≤◌, List, [], ◌∷◌, ◌++◌, length, map, take, refl, sym, ap, subst, ◌∙◌, arith, append_assoc, length-append}
use Rattle.std.proofs.lemmas.List.{map-append, get_or_append_left}
use Rattle.it_problems.specs.declared.problems.Constraint.{Constraint}
use Rattle.it_problems.specs.declared.problems.Kind.TheVariants.{Inequality}
use Rattle.it_problems.specs.Problems.{ProblemView}
use Rattle.it_space.specs.Rows.{Terms}
use Rattle.it_polymatroid.specs.Elementals.{elementals}
use Rattle.it_elemental.specs.Generators.{Generator, of_elemental, of_constraint, generator_list, generators}
use Rattle.it_closure.specs.declared.dependences.Dependence.{Dependence}
use Rattle.it_closure.specs.Collapse.{CollapseFits}
use Rattle.it_closure.specs.Coordinates.{closed_coordinates}
use Rattle.it_closure.specs.Reading.{dependences_of, dependence_list, read_from, read_one}
use Rattle.it_prove.specs.declared.closed.ClosedProblem.{ClosedProblem}
use Rattle.it_prove.specs.Closed.{collapsed_generator}
use Rattle.it_prove.specs.ClosedProblems.{AreColumns, IsClosedProblem, SameRows}
use Rattle.it_columns.specs.Columns.{columns}
use Rattle.it_eliminate.specs.RowLines.{row_constraints, with_rows}

-- a row is no dependence
rows_read : (n g line : ℕ) (rows : List Terms) → read_from n g (row_constraints line rows) ≡ []
rows_read n g line [] = refl
rows_read n g line (row ∷ rows) = rows_read n (g + 1) (line + 1) rows

read_after : (n g : ℕ) (cs : List Constraint) (rows : List Terms) → read_from n g (cs ++ row_constraints 1 rows) ≡ read_from n g cs
read_after n g [] rows = rows_read n g 1 rows
read_after n g (c ∷ cs) rows = ap (λ ds. dependence_list (read_one n g c) ++ ds) (read_after n (g + 1) cs rows)

generators_after : (n : ℕ) (cs ds : List Constraint) → generator_list n (cs ++ ds) ≡ generator_list n cs ++ map of_constraint ds
unfolding generator_list
generators_after n cs ds =
    ap (λ gs. map (of_elemental n) (elementals n) ++ gs) (map-append of_constraint cs ds)
    ∙ sym (append_assoc (map (of_elemental n) (elementals n)) (map of_constraint cs) (map of_constraint ds))

-- the first generators of two lists
take_front : (gs hs : List Generator) (i : ℕ) → i ≤ length gs → take i (gs ++ hs) ≡ take i gs
take_front gs hs zero h = refl
take_front [] hs (suc i) h = absurd (omega arith)
take_front (g ∷ gs) hs (suc i) h = ap (λ xs. g ∷ xs) (take_front gs hs i (omega arith))

columns_after : (n : ℕ) (ds : List Dependence) (gs hs : List Generator) (i : ℕ) (rows : List Terms) → i ≤ length gs
    → AreColumns n ds gs i rows → AreColumns n ds (gs ++ hs) i rows
columns_after n ds gs hs i rows h a = record {
  same = subst (λ xs. SameRows rows (columns (map (collapsed_generator n ds) xs))) (sym (take_front gs hs i h)) a.same;
  fits = λ j l. subst (λ (g : Generator). CollapseFits n ds g.row) (sym
      (get_or_append_left gs hs (record { kind = Inequality; row = [] }) j (omega arith))) (a.fits j l);
}

pub closed_after : (givens : ProblemView) (rows : List Terms) (c : ClosedProblem) → IsClosedProblem givens c → IsClosedProblem (with_rows givens rows) c
closed_after givens rows c h =
    let n = givens.space.variables in
    let read : dependences_of (with_rows givens rows) ≡ dependences_of givens = read_after n (length (elementals n)) givens.constraints rows in
    let all : generators (with_rows givens rows) ≡ generators givens ++ map of_constraint (row_constraints 1 rows) = generators_after n
    givens.constraints (row_constraints 1 rows) in
    record {
      space = h.space;
      list = h.list ∙ sym read;
      coordinates = h.coordinates ∙ ap (closed_coordinates n givens.space.rates) (sym read);
      few = let more : length (generators (with_rows givens rows)) ≡ length (generators givens) + length (map of_constraint (row_constraints 1 rows))
          = ap length all ∙ length-append (generators givens) (map of_constraint (row_constraints 1 rows)) in omega (arith, more, h.few);
      columns = subst (λ gs. AreColumns n (dependences_of (with_rows givens rows)) gs c.count c.columns.items) (sym all)
          (subst (λ ds. AreColumns n ds (generators givens ++ map of_constraint (row_constraints 1 rows)) c.count c.columns.items) (sym read)
          (columns_after n (dependences_of givens) (generators givens) (map of_constraint (row_constraints 1 rows)) c.count c.columns.items h.few h.columns));
    }
