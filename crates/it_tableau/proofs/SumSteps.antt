-- The sums of the columns while a row is added, and row after row.
use Rattle.std.proofs.Common.{◌≡◌, ◌⊎◌, inl, inr, ℕ, suc, ◌+◌, ◌<◌, ◌≤◌, List, pos, length, sym, ap, subst, ◌∙◌, arith}
use Rattle.std.proofs.lemmas.Bool.{cases_eq, cases_lt}
use Rattle.it_rational.specs.Rational.{Rational, integer, plus}
use Rattle.it_fraction.specs.Fits.{IsNarrow, SumFits}
use Rattle.it_fraction.proofs.ZeroLemmas.{zero-sum, zero-sum-fits, numerator_of_zero}
use Rattle.it_tableau.specs.Merging.{column_at, number_of_term}
use Rattle.it_tableau.specs.Entries.{entry_at, row_at}
use Rattle.it_tableau.specs.Rows.{column_sum, ColumnFits}
use Rattle.it_tableau.specs.SparseRows.{RowTerms, entry_in, Climbs, ListsEntries}
use Rattle.it_tableau.specs.Summing.{IsRowAdded, AreColumnSums, AreNarrow, IsNumberAdded, SumsFit}
use Rattle.it_tableau.proofs.Building.{at_column, before_column, column_from, column_within, rest_next, rest_over, IsRest}
use Rattle.it_tableau.proofs.RowsLemmas.{fits_more}

-- the terms of the columns below next are added, and the other sums stay
pub record IsRowAdditionUnderWay (terms : RowTerms) (old : List Rational) (i : ℕ) (now : List Rational) : Type 0 where
  pub next : ℕ
  pub count : length now ≡ length old
  pub done : (j : ℕ) → j < next → SumFits (entry_in terms j) (entry_at old j) × (entry_at now j ≡ plus (entry_in terms j) (entry_at old j))
      × IsNarrow (entry_at now j)
  pub left : (j : ℕ) → next ≤ j → entry_at now j ≡ entry_at old j
  pub rest : IsRest (length old) terms i next

-- where a row has no number the sum stays
null_is_added : (x s : Rational) → x ≡ integer (pos 0) → IsNarrow s → SumFits x s × (s ≡ plus x s)
null_is_added x s e n = (zero-sum-fits x s (numerator_of_zero x e) n, sym (zero-sum x s (numerator_of_zero x e)))

module _ (terms : RowTerms) (old : List Rational) (narrow : AreNarrow old) (i : ℕ) (now : List Rational) (w : IsRowAdditionUnderWay terms old i now) where
  -- a column of which no term is left
  null_column_is_done : (j : ℕ) → w.next ≤ j → j < length old → entry_in terms j ≡ integer (pos 0)
      → SumFits (entry_in terms j) (entry_at old j) × (entry_at now j ≡ plus (entry_in terms j) (entry_at old j)) × IsNarrow (entry_at now j)
  null_column_is_done j l h e = let a = null_is_added (entry_in terms j) (entry_at old j) e (narrow j h)
      in (a.0, w.left j l ∙ a.1, subst IsNarrow (sym (w.left j l)) (narrow j h))

  module _ (h : i < length terms) where
    pub column_in : column_at terms i < length now
    column_in = let c = column_within (length old) terms i w.next w.rest h in let e = w.count in omega (arith, c, e)

    -- the sum that the next number is added to
    sum_is_unchanged : entry_at now (column_at terms i) ≡ entry_at old (column_at terms i)
    sum_is_unchanged = w.left (column_at terms i) (column_from (length old) terms i w.next w.rest h)

    pub addition_is_refused : ¬ (SumFits (number_of_term terms i) (entry_at now (column_at terms i))) → ¬ (SumsFit terms old)
    addition_is_refused n fits = n (subst (λ (x : Rational). SumFits x (entry_at now (column_at terms i))) (at_column (length old) terms i w.next w.rest h)
        (subst (SumFits (entry_in terms (column_at terms i))) (sym sum_is_unchanged)
        (fits (column_at terms i) (let c = column_in in let e = w.count in omega (arith, c, e)))))

    pub term_is_added : (new : List Rational) → SumFits (number_of_term terms i) (entry_at now (column_at terms i))
        → IsNumberAdded now (column_at terms i) (number_of_term terms i) new → IsRowAdditionUnderWay terms old (i + 1) new
    term_is_added new fit a = record {
      next = column_at terms i + 1;
      count = a.same_length ∙ w.count;
      done = λ j l. by_column j l (cases_eq j (column_at terms i));
      left = λ j l. a.others j (λ e. omega (arith, e, l)) ∙ w.left j (let c = column_from (length old) terms i w.next w.rest h in omega (arith, c, l));
      rest = rest_next (length old) terms i w.next w.rest h;
    }
      where
        c_in : column_at terms i < length old
        c_in = let c = column_in in let e = w.count in omega (arith, c, e)

        own_column_is_done : SumFits (entry_in terms (column_at terms i)) (entry_at old (column_at terms i))
            × (entry_at new (column_at terms i) ≡ plus (entry_in terms (column_at terms i)) (entry_at old (column_at terms i)))
            × IsNarrow (entry_at new (column_at terms i))
        own_column_is_done = (
          subst (SumFits (entry_in terms (column_at terms i))) sum_is_unchanged
              (subst (λ (x : Rational). SumFits x (entry_at now (column_at terms i)))
              (sym (at_column (length old) terms i w.next w.rest h)) fit),
          a.own ∙ ap (λ x. plus x (entry_at now (column_at terms i))) (sym (at_column (length old) terms i w.next w.rest h))
              ∙ ap (plus (entry_in terms (column_at terms i))) sum_is_unchanged,
          a.narrow,
        )

        earlier_column_is_done : (j : ℕ) → j < column_at terms i → (j < w.next) ⊎ (w.next ≤ j)
            → SumFits (entry_in terms j) (entry_at old j) × (entry_at now j ≡ plus (entry_in terms j) (entry_at old j))
            × IsNarrow (entry_at now j)
        earlier_column_is_done j l (inl m) = w.done j m
        earlier_column_is_done j l (inr m) = null_column_is_done j m (let c = c_in in omega (arith, c, l))
            (before_column (length old) terms i w.next w.rest h j m l)

        by_column : (j : ℕ) → j < column_at terms i + 1 → (j ≡ column_at terms i) ⊎ (j ≡ column_at terms i → ⊥)
            → SumFits (entry_in terms j) (entry_at old j) × (entry_at new j ≡ plus (entry_in terms j) (entry_at old j)) × IsNarrow (entry_at new j)
        by_column j l (inl e) = subst (λ (k : ℕ). SumFits (entry_in terms k) (entry_at old k)
            × (entry_at new k ≡ plus (entry_in terms k) (entry_at old k)) × IsNarrow (entry_at new k)) (sym e) own_column_is_done
        by_column j l (inr d) = let b = earlier_column_is_done j (omega (arith, l, d)) (cases_lt j w.next)
            in (b.0, a.others j d ∙ b.1, subst IsNarrow (sym (a.others j d)) b.2)

  module _ (over : length terms ≤ i) where
    all_columns_are_done : (j : ℕ) → j < length old → SumFits (entry_in terms j) (entry_at old j)
        × (entry_at now j ≡ plus (entry_in terms j) (entry_at old j)) × IsNarrow (entry_at now j)
    all_columns_are_done j l = by_next (cases_lt j w.next)
      where
        by_next : (j < w.next) ⊎ (w.next ≤ j) → SumFits (entry_in terms j) (entry_at old j)
            × (entry_at now j ≡ plus (entry_in terms j) (entry_at old j)) × IsNarrow (entry_at now j)
        by_next (inl m) = w.done j m
        by_next (inr m) = null_column_is_done j m l (rest_over (length old) terms i w.next w.rest over j m)

    pub all_additions_fit : SumsFit terms old
    all_additions_fit j l = (all_columns_are_done j l).0

    pub row_is_added : IsRowAdded terms old now
    row_is_added = record { same_length = w.count; entries = λ j l. (all_columns_are_done j l).1 }

    pub all_sums_are_narrow : AreNarrow now
    all_sums_are_narrow j l = (all_columns_are_done j (let e = w.count in omega (arith, e, l))).2

-- the sums of the first k rows, all additions of which fit
pub record AreSummed (rows : List (List Rational)) (width k : ℕ) (sums : List Rational) : Type 0 where
  pub sums_are : AreColumnSums rows width k sums
  pub narrow : AreNarrow sums
  pub fits : (j : ℕ) → j < width → (i : ℕ) → i < k → SumFits (entry_at (row_at rows i) j) (column_sum rows j i)

module _ (rows : List (List Rational)) (width k : ℕ) (terms : RowTerms) (lists : ListsEntries (entry_at (row_at rows k)) width terms)
    (sums : List Rational) (w : AreSummed rows width k sums) where
  pub row_climbs : Climbs 0 (length sums) terms
  row_climbs = subst (λ (n : ℕ). Climbs 0 n terms) (sym w.sums_are.length_is) lists.ascend

  -- an addition that doesn't fit
  pub row_is_refused : k < length rows → ¬ (SumsFit terms sums) → ¬ ((j : ℕ) → j < width → ColumnFits rows j)
  row_is_refused h n fits = n (λ j l. let m : j < width = (let e = w.sums_are.length_is in omega (arith, e, l)) in
      subst (λ (x : Rational). SumFits x (entry_at sums j)) (sym (lists.entries j m))
      (subst (SumFits (entry_at (row_at rows k) j)) (sym (w.sums_are.entries j m)) (fits j m k h)))

  pub row_is_summed : (new : List Rational) → SumsFit terms sums → IsRowAdded terms sums new → AreNarrow new → AreSummed rows width (k + 1) new
  row_is_summed new fits a narrow = record {
    sums_are = record {
      length_is = a.same_length ∙ w.sums_are.length_is;
      entries = λ j l. a.entries j (column_in_sums j l) ∙ ap (λ x. plus x (entry_at sums j)) (lists.entries j l)
          ∙ ap (plus (entry_at (row_at rows k) j)) (w.sums_are.entries j l)
          ∙ ap (column_sum rows j) (one_more k);
    };
    narrow = narrow;
    fits = λ j l. fits_more k (λ i. SumFits (entry_at (row_at rows i) j) (column_sum rows j i)) (w.fits j l)
        (subst (λ (x : Rational). SumFits x (column_sum rows j k)) (lists.entries j l)
        (subst (SumFits (entry_in terms j)) (w.sums_are.entries j l) (fits j (column_in_sums j l))));
  }
    where
      one_more : (n : ℕ) → suc n ≡ n + 1
      one_more n = omega arith

      column_in_sums : (j : ℕ) → j < width → j < length sums
      column_in_sums j l = let e = w.sums_are.length_is in omega (arith, e, l)
