-- Rows that are put over smaller denominators.
use Rattle.std.proofs.Common.{◌≡◌, ℕ, ◌+◌, ◌*◌, ◌<◌, Bool, pos, ◌*ℤ◌, List, [], length, slice_index_or, sym, ap, subst, ◌∙◌, arith, mul-pos}
use Rattle.std.proofs.Math.Nat.{mul_assoc}
use Rattle.it_number.proofs.Integers.{zring}
use Rattle.it_number.proofs.Integers as Z
use Rattle.it_rational.specs.Rational.{Rational}
use Rattle.it_space.specs.Rows.{Terms}
use Rattle.it_space.specs.Sums.{number_at}
use Rattle.it_tableau.specs.SimplexTables.{SimplexTable, FeasibilityProblem}
use Rattle.it_whole.specs.WholeRows.{IsUsable, WholeRowView}
use Rattle.it_whole.specs.Updates.{IsShortened}
use Rattle.it_whole.proofs.RowSteps.{row_shortened}
use Rattle.it_whole.proofs.Usable.{shortened_usable}
use Rattle.it_engine.specs.Behind.{AreShortened, AreStillSteps, has_moved, mixed_table, ShowsBehind}
use Rattle.it_engine.specs.PivotedRows.{AreUsable, IsFitting}
use Rattle.it_engine.specs.Tables.{whole_row_at}

-- a row that is put over a smaller denominator twice
pub shortened_twice : (old mid new : WholeRowView) → IsShortened old mid → IsShortened mid new → IsShortened old new
shortened_twice old mid new s t = record {
  shared = t.shared * s.shared;
  some = mul-pos t.some s.some;
  length_is = t.length_is ∙ s.length_is;
  entries = λ k l. ap (λ z. number_at new.numbers k *ℤ z) (product t.shared s.shared)
      ∙ sym (Z.mul_assoc (number_at new.numbers k) (pos t.shared) (pos s.shared))
      ∙ ap (λ z. z *ℤ pos s.shared) (t.entries k (omega (arith, l, s.length_is))) ∙ s.entries k l;
  denominator_is = sym (mul_assoc new.denominator t.shared s.shared) ∙ ap (λ n. n * s.shared) t.denominator_is ∙ s.denominator_is;
}
  where
    product : (a h : ℕ) → pos (a * h) ≡ pos a *ℤ pos h
    product a h = omega (arith, zring)

-- all rows are
pub all_shortened_twice : (old mid new : List WholeRowView) → AreShortened old mid → AreShortened mid new → AreShortened old new
all_shortened_twice old mid new s t = record {
  same_length = t.same_length ∙ s.same_length;
  each = λ i l. shortened_twice (whole_row_at old i) (whole_row_at mid i) (whole_row_at new i) (s.each i l) (t.each i (omega (arith, l, s.same_length)));
}

-- rows stay usable
pub all_shortened_usable : (limit : ℕ) (old new : List WholeRowView) → AreShortened old new → AreUsable (length old) limit old
    → AreUsable (length new) limit new
all_shortened_usable limit old new s u = λ i l.
    let j : i < length old = omega (arith, l, s.same_length) in
    subst (λ (w : ℕ). IsUsable w limit (whole_row_at new i)) (sym s.same_length)
    (shortened_usable (length old) limit (whole_row_at old i) (whole_row_at new i) (s.each i j) (u i j))

-- the rows show what they showed
pub shows_shortened : (p : FeasibilityProblem Rational) (b t : SimplexTable Rational) (columns : List Terms) (limit : ℕ)
    (rows : List WholeRowView) (basis : List ℕ) (moved : ℕ → Bool) (shorter : List WholeRowView)
    → AreShortened rows shorter → ShowsBehind p b t columns limit rows basis moved → ShowsBehind p b t columns limit shorter basis moved
shows_shortened p b t columns limit rows basis moved shorter a s = record {
  norm = s.norm;
  some = s.some;
  fit = s.fit;
  behind = s.behind;
  cost = s.cost;
  entered = s.entered;
  shows = record {
    rows_are = a.same_length ∙ s.shows.rows_are;
    basis_are = s.shows.basis_are;
    row = λ i l. row_shortened (length basis + 1) limit (λ k. (mixed_table moved b t).entry i (length columns + k)) (whole_row_at rows i)
        (whole_row_at shorter i) (a.each i (omega (arith, l, s.shows.rows_are))) (s.shows.row i l);
    basis_is = s.shows.basis_is;
  };
  columns_are = s.columns_are;
}

-- and after degenerate steps they show what these steps lead to
pub still_steps_shortened : (columns : List Terms) (limit : ℕ) (old : List WholeRowView) (basis : List ℕ) (moved : List Bool) (k : ℕ)
    (rows : List WholeRowView) (new_basis : List ℕ) (new_moved : List Bool) (shorter : List WholeRowView)
    → AreStillSteps columns limit old basis moved k rows new_basis new_moved → AreShortened rows shorter
    → AreStillSteps columns limit old basis moved k shorter new_basis new_moved
still_steps_shortened columns limit old basis moved k rows new_basis new_moved shorter h a = record {
  engine = record {
    rows_are = a.same_length ∙ h.engine.rows_are;
    usable = all_shortened_usable limit rows shorter a h.engine.usable;
    fitting = λ j l. subst (λ (w : ℕ). IsFitting w limit (slice_index_or columns j [])) (sym a.same_length) (h.engine.fitting j l);
    limit_is = h.engine.limit_is;
  };
  height = h.height;
  even = h.even;
  made = λ p b t s. let x = h.made p b t s in (x.0, shows_shortened p b x.0 columns limit rows new_basis (has_moved new_moved) shorter a x.1, x.2);
}
