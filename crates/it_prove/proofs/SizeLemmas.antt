-- The size of a problem's table, by the columns of the run.
use Rattle.std.proofs.Common.{◌≡◌, ℕ, ◌+◌, ◌*◌, List, [], ◌∷◌, ◌++◌, map, length, refl, sym, ap, ◌∙◌, arith}
use Rattle.it_problems.specs.declared.problems.Kind.{Kind}
use Rattle.it_problems.specs.declared.problems.Kind.TheVariants.{Inequality, Equation}
use Rattle.it_problems.specs.declared.problems.Constraint.{Constraint}
use Rattle.it_space.specs.Rows.{Terms}
use Rattle.it_polymatroid.specs.Elementals.{Elemental, elementals}
use Rattle.it_elemental.specs.Generators.{Generator, of_elemental, of_constraint, generator_list}
use Rattle.it_closure.specs.declared.dependences.Dependence.{Dependence}
use Rattle.it_closure.specs.Reading.{dependences_of}
use Rattle.it_closure.specs.Sizes.{column_count, constraint_columns, table_size}
use Rattle.it_prove.specs.Closed.{collapsed_generator, collapsed_row, closed_places, closed_generators}
use Rattle.it_columns.specs.Columns.{columns_by, columns}
use Rattle.it_prove.specs.ProofViews.{SizeIsOfStart}

length_by_kind : (k : Kind) (row : Terms) (rest : List Terms) → length (columns_by k row ++ rest) ≡ column_count k + length rest
length_by_kind Inequality row rest = omega arith
length_by_kind Equation row rest = omega arith

module _ (n : ℕ) (ds : List Dependence) where
  length-constraints : (cs : List Constraint) → length (columns (map (collapsed_generator n ds) (map of_constraint cs))) ≡ constraint_columns cs
  unfolding columns
  length-constraints [] = refl
  length-constraints (c ∷ cs) = length_by_kind c.kind (collapsed_row n ds c.row)
      (columns (map (collapsed_generator n ds) (map of_constraint cs))) ∙ ap (λ k. column_count c.kind + k) (length-constraints cs)

  length-elementals : (m : ℕ) (es : List Elemental) (gs : List Generator)
      → length (columns (map (collapsed_generator n ds) (map (of_elemental m) es ++ gs)))
      ≡ length es + length (columns (map (collapsed_generator n ds) gs))
  unfolding columns
  length-elementals m [] gs = omega arith
  length-elementals m (e ∷ es) gs = omega (arith, length-elementals m es gs)

-- the columns of the generators are those that the size counts
pub size_of_start : SizeIsOfStart
unfolding table_size generator_list
size_of_start q =
    let n = q.space.variables in
    let ds = dependences_of q in
    let k = length (closed_places q) in
    let gs = map of_constraint q.constraints in
    let e : length (columns (closed_generators q)) ≡ length (elementals n) + constraint_columns q.constraints = length-elementals n ds n
    (elementals n) gs ∙ ap (λ c. length (elementals n) + c) (length-constraints n ds q.constraints) in
    sym (ap (λ c. k * (c + k)) e)
