-- How many steps are left to an engine, as a number that its state determines: those of the table that it shows.
use Rattle.std.proofs.Common.{◌≡◌, ℕ, ◌-◌, ◌<◌, ◌≤◌, ap, arith, cond, ltb, List, [], length, slice_index_or, sym, subst}
use Rattle.it_rational.specs.Rational.{Rational, quotient}
use Rattle.it_rational.proofs.Field.{field_ℚ}
use Rattle.it_space.specs.Rows.{Terms, value}
use Rattle.it_tableau.specs.Operations.{rationals}
use Rattle.it_tableau.specs.SimplexTables.{SimplexTable, FeasibilityProblem}
use Rattle.it_run.specs.Choice.{next}
use Rattle.it_run.proofs.Agreeing.{Agree, steps_left_agrees}
use Rattle.it_run.proofs.StepsLeft.{steps_left, steps_fall}
use Rattle.it_engine.specs.Behind.{AreEngineSteps}
use Rattle.it_engine.specs.Engine.{Represents, IsEngineStep}
use Rattle.it_space.specs.Sums.{number_at}
use Rattle.it_engine.specs.Tables.{whole_row_at}
use Rattle.it_whole.specs.WholeRows.{WholeRowView}
use Rattle.it_engine.proofs.Generators.{table_is_over}
use Rattle.it_engine.proofs.ManySteps.{steps_lead_down}
use Rattle.it_engine.proofs.Readings.{quotient_named}

-- the table that an engine shows, as a function of the engine
abbrev pub shown_table : List Terms → List WholeRowView → List ℕ → SimplexTable Rational
shown_table columns rows basis = record {
  entry = λ i j. quotient (cond (ltb j (length columns)) (value (slice_index_or columns j []) (number_at (whole_row_at rows i).numbers))
      (number_at (whole_row_at rows i).numbers (j - length columns))) (whole_row_at rows i).denominator;
  basis = λ i. slice_index_or basis i 0;
}

-- the number of steps that are left to it
unfoldable pub steps_left_to : List Terms → List WholeRowView → List ℕ → ℕ
steps_left_to columns rows basis = steps_left field_ℚ (length basis) (length columns) (shown_table columns rows basis)

-- any table that the engine shows agrees with the chosen one
shown_table_agrees : (p : FeasibilityProblem Rational) (t : SimplexTable Rational) (columns : List Terms) (limit : ℕ)
    (rows : List WholeRowView) (basis : List ℕ) → Represents p t columns limit rows basis
    → Agree field_ℚ (length basis) (length columns) t (shown_table columns rows basis)
shown_table_agrees p t columns limit rows basis s = record {
  entries = λ i j hi hj.
      let o = table_is_over (length basis) (length columns) limit s.norm p t columns rows basis s.holds.combines s.shows s.columns_are s.fit s.some in
      sym (quotient_named (t.entry i j) (cond (ltb j (length columns)) (value (slice_index_or columns j [])
      (number_at (whole_row_at rows i).numbers)) (number_at (whole_row_at rows i).numbers (j - length columns)))
      (whole_row_at rows i).denominator (o.some i hi) (o.named i j hi hj));
  basics = s.shows.basis_is;
}

steps_left_is : (p : FeasibilityProblem Rational) (t : SimplexTable Rational) (columns : List Terms) (limit : ℕ) (rows : List WholeRowView)
    (basis : List ℕ) → Represents p t columns limit rows basis
    → steps_left_to columns rows basis ≡ steps_left field_ℚ (length basis) (length columns) t
unfolding steps_left_to
steps_left_is p t columns limit rows basis s = sym (steps_left_agrees field_ℚ (length basis) (length columns) t
    (shown_table columns rows basis) (shown_table_agrees p t columns limit rows basis s))

-- a step lowers it
pub steps_left_falls : (p : FeasibilityProblem Rational) (t : SimplexTable Rational) (columns : List Terms) (limit : ℕ)
    (old : List WholeRowView) (basis : List ℕ) (new : List WholeRowView) (new_basis : List ℕ)
    → Represents p t columns limit old basis → IsEngineStep columns limit old basis new new_basis
    → steps_left_to columns new new_basis < steps_left_to columns old basis
steps_left_falls p t columns limit old basis new new_basis s g =
    let m = g.made p t s in
    let after = steps_left_is p (next rationals (length basis) (length columns) t) columns limit new new_basis m.stands in
    subst (λ (x : ℕ). x < steps_left_to columns old basis) (sym after)
    (subst (λ (y : ℕ). steps_left field_ℚ (length new_basis) (length columns) (next rationals (length basis) (length columns) t) < y)
    (sym (steps_left_is p t columns limit old basis s))
    (subst (λ (h : ℕ). steps_left field_ℚ h (length columns) (next rationals (length basis) (length columns) t)
    < steps_left field_ℚ (length basis) (length columns) t) (sym g.height)
    (steps_fall field_ℚ (length basis) (length columns) p t s.holds m.moves)))

-- several steps don't raise it
pub several_steps_left : (p : FeasibilityProblem Rational) (t : SimplexTable Rational) (columns : List Terms) (limit : ℕ)
    (old : List WholeRowView) (basis : List ℕ) (made : ℕ) (new : List WholeRowView) (new_basis : List ℕ)
    → Represents p t columns limit old basis → AreEngineSteps columns limit old basis made new new_basis
    → steps_left_to columns new new_basis ≤ steps_left_to columns old basis
several_steps_left p t columns limit old basis made new new_basis s g =
    let x = g.made p t s in
    let after = steps_left_is p x.0 columns limit new new_basis x.1 in
    let before = steps_left_is p t columns limit old basis s in
    let down = (steps_lead_down (length basis) (length columns) made p t x.0 s.holds x.2).1 in
    let same : steps_left field_ℚ (length new_basis) (length columns) x.0
    ≡ steps_left field_ℚ (length basis) (length columns) x.0 = ap (λ h. steps_left field_ℚ h (length columns) x.0) g.height in
    omega (arith, after, before, down, same)
