-- A degenerate step of the engine: the row that leaves is brought up to date, then it is pivoted.
use Rattle.std.proofs.Common.{◌≡◌, ◌≢◌, ◌⊎◌, inl, inr, ℕ, ◌+◌, ◌<◌, ◌^◌, Bool, true, false, cond, ℤ, pos, unsigned_abs, List, [], length, slice_index_or, slice_set, refl, sym, ap, subst, ◌∙◌, arith}
use Rattle.std.proofs.lemmas.Bool.{cases_eq, eq-eqb, ne_eqb}
use Rattle.std.proofs.lemmas.List.{length-set, get_or-set_same, get_or-set_other}
use Rattle.it_rational.specs.Rational.{Rational}
use Rattle.it_space.specs.Rows.{Terms, value}
use Rattle.it_space.specs.Sums.{number_at}
use Rattle.it_tableau.specs.Operations.{rationals}
use Rattle.it_tableau.specs.SimplexTables.{SimplexTable, FeasibilityProblem}
use Rattle.it_tableau.proofs.ViewLemmas.{same_functions}
use Rattle.it_run.specs.Choice.{next}
use Rattle.it_engine.specs.Behind.{AreMovedEntries, AreMovedInOrder, AreNullElsewhere, has_moved, IsBehindStep, IsRowBrought, mixed_table, ShowsBehind}
use Rattle.it_engine.specs.Choosing.{entry_of}
use Rattle.it_engine.specs.Engine.{IsSafe}
use Rattle.it_vectors.specs.Sizes.{AreShort}
use Rattle.it_whole.specs.WholeRows.{IsUsable, IsRow, WholeRowView}
use Rattle.it_engine.specs.PivotedRows.{AreUsable, AreWholeRowsPivoted, IsFitting}
use Rattle.it_engine.specs.Tables.{ShowsTable, whole_row_at}
use Rattle.it_engine.proofs.BehindSteps.{moved_with, shows_next}
use Rattle.it_engine.proofs.Steps.{engine_kept}
use Rattle.it_engine.proofs.Fitting.{fitting_short}

-- the rows with row r up to date
pub record AreReady (columns : List Terms) (limit : ℕ) (old : List WholeRowView) (basis : List ℕ) (moved : List Bool) (r : ℕ)
    (now : List WholeRowView) : Type 0 where
  pub same_length : length now ≡ length old
  pub usable : AreUsable (length old) limit now
  pub others : (i : ℕ) → i ≢ r → whole_row_at now i ≡ whole_row_at old i
  pub shown : (p : FeasibilityProblem Rational) (b t : SimplexTable Rational) → ShowsBehind p b t columns limit old basis (has_moved moved)
      → ShowsTable (length basis) (length columns) limit (mixed_table (moved_with (has_moved moved) r) b t) now basis

module _ (columns : List Terms) (limit : ℕ) (old : List WholeRowView) (basis : List ℕ) (moved : List Bool) (r : ℕ) (row : r < length basis)
    (safe : IsSafe columns limit old basis) where
  pub ready : (now : List WholeRowView) → (has_moved moved r ≡ false → IsRowBrought columns limit old basis moved r now)
      → (has_moved moved r ≡ true → now ≡ old) → AreReady columns limit old basis moved r now
  ready now brought kept = by_move (has_moved moved r) refl
    where
      by_move : (d : Bool) → has_moved moved r ≡ d → AreReady columns limit old basis moved r now
      by_move true e = subst (AreReady columns limit old basis moved r) (sym (kept e)) record {
        same_length = refl;
        usable = safe.usable;
        others = λ i d. refl;
        shown = λ p b t s. subst (λ (f : ℕ → Bool). ShowsTable (length basis) (length columns) limit (mixed_table f b t) old basis)
            (same_functions same) s.shows;
      }
        where
          same : (q : ℕ) → has_moved moved q ≡ moved_with (has_moved moved) r q
          same q = by_cases (cases_eq q r)
            where
              by_cases : (q ≡ r) ⊎ (q ≡ r → ⊥) → has_moved moved q ≡ moved_with (has_moved moved) r q
              by_cases (inl w) = ap (has_moved moved) w ∙ e ∙ ap (λ c. cond c true (has_moved moved q)) (sym (eq-eqb q r w))
              by_cases (inr d) = ap (λ c. cond c true (has_moved moved q)) (sym (ne_eqb q r d))
      by_move false e = record {
        same_length = (brought e).same_length;
        usable = λ i l. usable_by_cases i (omega (arith, l, (brought e).same_length)) (cases_eq i r);
        others = (brought e).others;
        shown = λ p b t s. record {
          rows_are = (brought e).same_length ∙ s.shows.rows_are;
          basis_are = refl;
          row = λ i l. row_by_cases p b t s i l (cases_eq i r);
          basis_is = s.shows.basis_is;
        };
      }
        where
          usable_by_cases : (i : ℕ) → i < length old → (i ≡ r) ⊎ (i ≡ r → ⊥) → IsUsable (length old) limit (whole_row_at now i)
          usable_by_cases i l (inl w) = subst (λ (x : ℕ). IsUsable (length old) limit (whole_row_at now x)) (sym w) (brought e).usable
          usable_by_cases i l (inr d) = subst (IsUsable (length old) limit) (sym ((brought e).others i d)) (safe.usable i l)

          row_by_cases : (p : FeasibilityProblem Rational) (b t : SimplexTable Rational)
              (s : ShowsBehind p b t columns limit old basis (has_moved moved)) (i : ℕ) → i < length basis + 1 → (i ≡ r) ⊎ (i ≡ r → ⊥)
              → IsRow (length basis + 1) limit (λ k. cond (moved_with (has_moved moved) r i) (t.entry i (length columns + k))
              (b.entry i (length columns + k))) (whole_row_at now i).numbers (whole_row_at now i).denominator
          row_by_cases p b t s i l (inl w) = subst (λ (x : ℕ). IsRow (length basis + 1) limit
              (λ k. cond (moved_with (has_moved moved) r x) (t.entry x (length columns + k)) (b.entry x (length columns + k)))
              (whole_row_at now x).numbers (whole_row_at now x).denominator) (sym w)
              (subst (λ (c : Bool). IsRow (length basis + 1) limit (λ k. cond (cond c true (has_moved moved r))
              (t.entry r (length columns + k)) (b.entry r (length columns + k))) (whole_row_at now r).numbers
              (whole_row_at now r).denominator) (sym (eq-eqb r r refl))
              ((brought e).own old r (λ q f. refl) row e refl p b t s))
          row_by_cases p b t s i l (inr d) = subst (λ (c : Bool). IsRow (length basis + 1) limit
              (λ k. cond (cond c true (has_moved moved i)) (t.entry i (length columns + k)) (b.entry i (length columns + k)))
              (whole_row_at now i).numbers (whole_row_at now i).denominator) (sym (ne_eqb i r d))
              (subst (λ (w : WholeRowView). IsRow (length basis + 1) limit (λ k. cond (has_moved moved i) (t.entry i (length columns + k))
              (b.entry i (length columns + k))) w.numbers w.denominator) (sym ((brought e).others i d)) (s.shows.row i l))

  module _ (c : ℕ) (enters : c < length columns) (even : length moved ≡ length old) (now : List WholeRowView)
      (w : AreReady columns limit old basis moved r now) (entries : List ℤ)
      (noted : AreMovedEntries (slice_index_or columns c []) old moved entries) (z : ℤ) (own : z ≡ entry_of (slice_index_or columns c []) now r) where
    row_here : r < length old
    row_here = omega (arith, row, safe.rows_are)

    entry_by_cases : (i : ℕ) → i < length old → (i ≡ r) ⊎ (i ≡ r → ⊥) → number_at (slice_set entries r z) i
        ≡ cond (moved_with (has_moved moved) r i) (value (slice_index_or columns c []) (number_at (whole_row_at now i).numbers)) (pos 0)
    entry_by_cases i l (inl e) = ap (number_at (slice_set entries r z)) e
        ∙ get_or-set_same entries r z (pos 0) (omega (arith, row_here, noted.length_is)) ∙ own
        ∙ ap (λ k. value (slice_index_or columns c []) (number_at (whole_row_at now k).numbers)) (sym e)
        ∙ ap (λ d. cond (cond d true (has_moved moved i)) (value (slice_index_or columns c []) (number_at (whole_row_at now i).numbers))
        (pos 0)) (sym (eq-eqb i r e))
    entry_by_cases i l (inr d) = get_or-set_other entries r i z (pos 0) d ∙ noted.each i l
        ∙ ap (λ (x : WholeRowView). cond (has_moved moved i) (value (slice_index_or columns c []) (number_at x.numbers)) (pos 0))
        (sym (w.others i d))
        ∙ ap (λ d. cond (cond d true (has_moved moved i)) (value (slice_index_or columns c []) (number_at (whole_row_at now i).numbers))
        (pos 0)) (sym (ne_eqb i r d))

    entry_at_row : (i : ℕ) → i < length old → number_at (slice_set entries r z) i
        ≡ cond (moved_with (has_moved moved) r i) (value (slice_index_or columns c []) (number_at (whole_row_at now i).numbers)) (pos 0)
    entry_at_row i l = entry_by_cases i l (cases_eq i r)

    pub entries_short : AreShort (slice_set entries r z)
    entries_short k l = let h : k < length old = omega (arith, l, length-set entries r z, noted.length_is) in
        subst (λ (x : ℤ). unsigned_abs x < 2 ^ 63) (sym (entry_at_row k h)) (by_move (moved_with (has_moved moved) r k) h)
      where
        by_move : (d : Bool) → k < length old → unsigned_abs (cond d
            (value (slice_index_or columns c []) (number_at (whole_row_at now k).numbers)) (pos 0)) < 2 ^ 63
        by_move true h = fitting_short (length old) limit (slice_index_or columns c []) (whole_row_at now k) (safe.fitting c enters)
            (w.usable k (omega (arith, h, w.same_length)))
        by_move false h = omega arith

    moved_same : (q : ℕ) → moved_with (has_moved moved) r q ≡ has_moved (slice_set moved r true) q
    moved_same q = by_cases (cases_eq q r)
      where
        by_cases : (q ≡ r) ⊎ (q ≡ r → ⊥) → moved_with (has_moved moved) r q ≡ has_moved (slice_set moved r true) q
        by_cases (inl x) = ap (λ d. cond d true (has_moved moved q)) (eq-eqb q r x)
            ∙ sym (get_or-set_same moved r true false (omega (arith, row_here, even))) ∙ ap (has_moved (slice_set moved r true)) (sym x)
        by_cases (inr d) = ap (λ d. cond d true (has_moved moved q)) (ne_eqb q r d) ∙ sym (get_or-set_other moved r q true false d)

    pub null_elsewhere : (now_moved : List Bool) (order : List ℕ) → now_moved ≡ slice_set moved r true → AreMovedInOrder now_moved (length basis) order
        → (height : ℕ) → length now ≡ height + 1 → AreNullElsewhere (slice_set entries r z) height order
    null_elsewhere now_moved order e a height h =
        let same : length basis ≡ height = omega (arith, h, w.same_length, safe.rows_are) in (
          slice_set moved r true,
          subst (λ (m : List Bool). AreMovedInOrder m height order) e (subst (λ (k : ℕ). AreMovedInOrder now_moved k order) same a),
          λ i l f. entry_at_row i (omega (arith, l, h, w.same_length))
              ∙ ap (λ d. cond d (value (slice_index_or columns c []) (number_at (whole_row_at now i).numbers)) (pos 0)) (moved_same i ∙ f),
        )

    pub step_behind : (new : List WholeRowView) → AreWholeRowsPivoted (length now) limit now (number_at (slice_set entries r z)) r new
        → IsBehindStep columns limit old basis moved c r new
    step_behind new a = record {
      engine = engine_kept columns limit now new basis (number_at (slice_set entries r z)) r c row record {
        rows_are = w.same_length ∙ safe.rows_are;
        usable = λ i l. subst (λ (x : ℕ). IsUsable x limit (whole_row_at now i)) (sym w.same_length) (w.usable i l);
        fitting = λ j l. subst (λ (x : ℕ). IsFitting x limit (slice_index_or columns j [])) (sym w.same_length) (safe.fitting j l);
        limit_is = safe.limit_is;
      } a;
      kept = λ i l d f. (a.others i (omega (arith, l, w.same_length)) d).kept (entry_at_row i l
          ∙ ap (λ x. cond (cond x true (has_moved moved i)) (value (slice_index_or columns c []) (number_at (whole_row_at now i).numbers))
          (pos 0)) (ne_eqb i r d)
          ∙ ap (λ x. cond x (value (slice_index_or columns c []) (number_at (whole_row_at now i).numbers)) (pos 0)) f) ∙ w.others i d;
      made = λ p b t s e g m. subst (λ (f : ℕ → Bool). ShowsBehind p b (next rationals (length basis) (length columns) t) columns limit new
          (slice_set basis r c) f) (same_functions moved_same)
          (shows_next p b t columns limit old basis (has_moved moved) s c r enters row e g.leaves m g.still now (w.shown p b t s)
          (number_at (slice_set entries r z))
          (λ i l f. entry_at_row i (omega (arith, l, safe.rows_are))
          ∙ ap (λ d. cond d (value (slice_index_or columns c []) (number_at (whole_row_at now i).numbers)) (pos 0)) f)
          (λ i l f. entry_at_row i (omega (arith, l, safe.rows_are))
          ∙ ap (λ d. cond d (value (slice_index_or columns c []) (number_at (whole_row_at now i).numbers)) (pos 0)) f)
          new (subst (λ (x : ℕ). AreWholeRowsPivoted x limit now (number_at (slice_set entries r z)) r new) (w.same_length ∙ safe.rows_are) a));
    }
