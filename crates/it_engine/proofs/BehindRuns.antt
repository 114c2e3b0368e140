-- Rows that are brought up to date, and blocks of degenerate steps.
use Rattle.std.proofs.Common.{◌≡◌, ◌⊎◌, inl, inr, ℕ, suc, ◌+◌, ◌<◌, Bool, true, false, pos, List, [], length, slice_index_or, slice_set, refl, sym, ap, subst, ◌∙◌, arith}
use Rattle.std.specs.Bool.{OnTrue}
use Rattle.std.proofs.lemmas.Bool.{true≢false, cases_eq}
use Rattle.std.proofs.lemmas.List.{length-set, get_or-set_same, get_or-set_other}
use Rattle.it_rational.specs.Rational.{Rational}
use Rattle.it_space.specs.Rows.{Terms, value}
use Rattle.it_space.specs.Sums.{number_at}
use Rattle.it_tableau.specs.SimplexTables.{SimplexTable, FeasibilityProblem}
use Rattle.it_engine.specs.Behind.{AgreeOnMoved, AreBrought, has_moved, IsBrought, IsLessMoved, IsLessRow, IsRowBrought, IsUpToDate, ShowsBehind}
use Rattle.it_engine.specs.PivotedRows.{AreUsable}
use Rattle.it_whole.specs.Updates.{IsWholeRowReduced}
use Rattle.it_whole.specs.WholeRows.{IsUsable, WholeRowView}
use Rattle.it_engine.specs.Tables.{whole_row_at}
use Rattle.it_engine.proofs.BehindRows as R

-- the row with right side r after the first q rows
abbrev pub IsTakenOff : List Terms → ℕ → List WholeRowView → List ℕ → List Bool → WholeRowView → ℕ → WholeRowView → Type 0
IsTakenOff columns limit rows basis moved old q now = (whole : List WholeRowView) (r : ℕ) → AgreeOnMoved rows whole moved
    → (l : r < length basis) (e : has_moved moved r ≡ false) → whole_row_at whole r ≡ old
    → (p : FeasibilityProblem Rational) (b t : SimplexTable Rational) (s : ShowsBehind p b t columns limit whole basis (has_moved moved))
    → R.ShowsAfter p b t columns limit whole basis (has_moved moved) s r l e q now

module _ (columns : List Terms) (limit : ℕ) (rows : List WholeRowView) (basis : List ℕ) (moved : List Bool) where
  pub nothing_off : (old : WholeRowView) → IsTakenOff columns limit rows basis moved old 0 old
  nothing_off old whole r a l e f p b t s = subst (R.ShowsAfter p b t columns limit whole basis (has_moved moved) s r l e 0) f
      (R.none_taken p b t columns limit whole basis (has_moved moved) s r l e)

  pub more_off : (old : WholeRowView) (q : ℕ) (now new : WholeRowView) → q < length basis → has_moved moved q ≡ true
      → IsTakenOff columns limit rows basis moved old q now → IsLessMoved columns limit rows basis q now new
      → IsTakenOff columns limit rows basis moved old (q + 1) new
  more_off old q now new k g h m whole r a l e f p b t s =
      let next : suc q ≡ q + 1 = omega arith in
      subst (λ (x : ℕ). R.ShowsAfter p b t columns limit whole basis (has_moved moved) s r l e x new) next
      (R.moved_taken p b t columns limit whole basis (has_moved moved) s r l e q now new k g (h whole r a l e f p b t s)
      (subst (λ (own : WholeRowView). IsWholeRowReduced (length basis + 1) limit now own
      (value (slice_index_or columns (slice_index_or basis q 0) []) (number_at now.numbers)) (pos own.denominator) new) (sym (a q g)) m))

  -- a row that didn't move subtracts nothing
  pub still_off : (old now : WholeRowView) (q : ℕ) → has_moved moved q ≡ false → IsTakenOff columns limit rows basis moved old q now
      → IsTakenOff columns limit rows basis moved old (q + 1) now
  still_off old now q f u whole r a l e w p b t s =
      let j : suc q ≡ q + 1 = omega arith in
      subst (λ (x : ℕ). R.ShowsAfter p b t columns limit whole basis (has_moved moved) s r l e x now) j
      (R.still_taken p b t columns limit whole basis (has_moved moved) s r l e q now f (u whole r a l e w p b t s))

  pub all_off : (old now : WholeRowView) (q : ℕ) → q ≡ length basis → IsTakenOff columns limit rows basis moved old q now
      → IsBrought columns limit rows basis moved old now
  all_off old now q k h whole r a l e f p b t s = R.all_taken p b t columns limit whole basis (has_moved moved) s r l e now
      (subst (λ (x : ℕ). R.ShowsAfter p b t columns limit whole basis (has_moved moved) s r l e x now) k (h whole r a l e f p b t s))

  pub less_by_row : (d : Bool) (q : ℕ) (old new : WholeRowView) (terms : Terms) → terms ≡ slice_index_or columns (slice_index_or basis q 0) []
      → length (whole_row_at rows q).numbers ≡ length basis + 1 → OnTrue d (IsLessRow terms limit rows q old new)
      → OnTrue d (IsLessMoved columns limit rows basis q old new)
  less_by_row false q old new terms et el u = tt
  less_by_row true q old new terms et el u =
      subst (λ (w : ℕ). IsWholeRowReduced w limit old (whole_row_at rows q)
      (value (slice_index_or columns (slice_index_or basis q 0) []) (number_at old.numbers)) (pos (whole_row_at rows q).denominator) new) el
      (subst (λ (ts : Terms). IsWholeRowReduced (length (whole_row_at rows q).numbers) limit old (whole_row_at rows q)
      (value ts (number_at old.numbers)) (pos (whole_row_at rows q).denominator) new) et u.less)

  pub none_brought : AreUsable (length rows) limit rows → AreBrought columns limit rows basis moved 0 rows
  none_brought u = record { same_length = refl; kept = λ q e. refl; rest = λ i l. refl; done = λ i l e. absurd (omega (arith, l)); usable = u }

  pub moved_brought : (now : List WholeRowView) (k : ℕ) → has_moved moved k ≡ true → AreBrought columns limit rows basis moved k now
      → AreBrought columns limit rows basis moved (k + 1) now
  moved_brought now k e h = record {
    same_length = h.same_length;
    kept = h.kept;
    rest = λ i l. h.rest i
        (omega (arith, l));
    done = λ i l f. by_cases i l f (cases_eq i k);
    usable = h.usable;
  }
    where
      by_cases : (i : ℕ) → i < k + 1 → has_moved moved i ≡ false → (i ≡ k) ⊎ (i ≡ k → ⊥) → IsUpToDate columns limit rows basis moved i (whole_row_at now i)
      by_cases i l f (inl g) = absurd (true≢false (sym e ∙ ap (has_moved moved) (sym g) ∙ f))
      by_cases i l f (inr d) = h.done i (omega (arith, l, d)) f

  pub row_brought : (now new : List WholeRowView) (k : ℕ) → k < length basis → has_moved moved k ≡ false
      → IsRowBrought columns limit now basis moved k new → AreBrought columns limit rows basis moved k now
      → AreBrought columns limit rows basis moved (k + 1) new
  row_brought now new k l e g h = record {
    same_length = g.same_length ∙ h.same_length;
    kept = λ q f. g.others q (λ w. true≢false (sym f ∙ ap (has_moved moved) w ∙ e)) ∙ h.kept q f;
    rest = λ i j. g.others i (λ w. omega (arith, w, j)) ∙ h.rest i (omega (arith, j));
    done = λ i j f. by_cases i j f (cases_eq i k);
    usable = λ i j. usable_by_cases i (omega (arith, j, g.same_length)) (cases_eq i k);
  }
    where
      by_cases : (i : ℕ) → i < k + 1 → has_moved moved i ≡ false → (i ≡ k) ⊎ (i ≡ k → ⊥) → IsUpToDate columns limit rows basis moved i (whole_row_at new i)
      by_cases i j f (inl w) = subst (λ (x : ℕ). IsUpToDate columns limit rows basis moved x (whole_row_at new x)) (sym w)
          (g.own rows k (λ q m. sym (h.kept q m)) l e (sym (h.rest k (omega arith))))
      by_cases i j f (inr d) = subst (IsUpToDate columns limit rows basis moved i) (sym (g.others i d)) (h.done i (omega (arith, j, d)) f)

      usable_by_cases : (i : ℕ) → i < length now → (i ≡ k) ⊎ (i ≡ k → ⊥) → IsUsable (length rows) limit (whole_row_at new i)
      usable_by_cases i j (inl w) = subst (λ (x : ℕ). IsUsable (length rows) limit (whole_row_at new x)) (sym w)
          (subst (λ (x : ℕ). IsUsable x limit (whole_row_at new k)) h.same_length g.usable)
      usable_by_cases i j (inr d) = subst (IsUsable (length rows) limit) (sym (g.others i d)) (h.usable i (omega (arith, j)))

  -- the row is taken out, brought up to date and put back
  pub put_back : (d : Bool) (r : ℕ) (dest old new : WholeRowView) → r < length rows → has_moved moved r ≡ false → old ≡ whole_row_at rows r
      → OnTrue d (IsBrought columns limit (slice_set rows r dest) basis moved old new) → OnTrue d (IsUsable (length (slice_set rows r dest)) limit new)
      → OnTrue d (IsRowBrought columns limit rows basis moved r (slice_set (slice_set rows r dest) r new))
  put_back false r dest old new l f e h u = tt
  put_back true r dest old new l f e h u = record {
    same_length = length-set (slice_set rows r dest) r new ∙ length-set rows r dest;
    others = λ i n. get_or-set_other (slice_set rows r dest) r i new record { numbers = []; denominator = 1 } n
        ∙ get_or-set_other rows r i dest record { numbers = []; denominator = 1 } n;
    own = λ whole k a m g w. subst (IsUpToDate columns limit whole basis moved k) (sym here)
        (h whole k (λ q v. a q v ∙ sym (get_or-set_other rows r q dest record { numbers = []; denominator = 1 }
        (λ x. true≢false (sym v ∙ ap (has_moved moved) x ∙ f)))) m g (w ∙ sym e));
    usable = subst (IsUsable (length rows) limit) (sym here) (subst (λ (x : ℕ). IsUsable x limit new) (length-set rows r dest) u);
  }
    where
      here : whole_row_at (slice_set (slice_set rows r dest) r new) r ≡ new
      here = get_or-set_same (slice_set rows r dest) r new record { numbers = []; denominator = 1 } (omega (arith, l, length-set rows r dest))

  pub one_brought : (now new : List WholeRowView) (k : ℕ) → k < length basis
      → (has_moved moved k ≡ false → IsRowBrought columns limit now basis moved k new) → (has_moved moved k ≡ true → new ≡ now)
      → AreBrought columns limit rows basis moved k now → AreBrought columns limit rows basis moved (k + 1) new
  one_brought now new k l g e h = by_move (has_moved moved k) refl
    where
      by_move : (d : Bool) → has_moved moved k ≡ d → AreBrought columns limit rows basis moved (k + 1) new
      by_move true f = subst (AreBrought columns limit rows basis moved (k + 1)) (sym (e f)) (moved_brought now k f h)
      by_move false f = row_brought now new k l f (g f) h
