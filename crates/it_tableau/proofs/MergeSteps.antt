-- The merge of two rows under way.
use Rattle.std.proofs.Common.{◌≡◌, ◌⊎◌, inl, inr, ℕ, ◌+◌, ◌<◌, ◌≤◌, pos, [], length, sym, ap, ap₂, subst, ◌∙◌, arith}
use Rattle.std.proofs.lemmas.Bool.{cases_lt}
use Rattle.it_rational.specs.Rational.{Rational, integer, plus, minus, times}
use Rattle.it_fraction.specs.Fits.{IsNarrow}
use Rattle.it_fraction.proofs.ZeroLemmas.{zero_narrow}
use Rattle.it_tableau.specs.Fits.{EntryFits}
use Rattle.it_tableau.specs.Merging.{column_at, less_at, number_of_term, AreMerged, IsAppended, MergeFits}
use Rattle.it_tableau.specs.SparseRows.{RowTerms, entry_in, Climbs}
use Rattle.it_tableau.proofs.Building.{IsBuilt, IsRest, at_column, before_column, nothing_is_built, built_more, built_skip, column_from, column_within, rest_is_all, rest_later, rest_next, rest_over, rest_upto}
use Rattle.it_tableau.proofs.Climbing.{climbs_none, climbs_weaker}
use Rattle.it_tableau.proofs.Zeros.{difference_from_null, difference_of_null_entry}

-- the columns below next are merged
pub record IsMerging (width : ℕ) (old by : RowTerms) (q : Rational) (i j : ℕ) (out : RowTerms) : Type 0 where
  pub next : ℕ
  pub old_rest : IsRest width old i next
  pub by_rest : IsRest width by j next
  pub merged : IsBuilt (less_at old by q) (λ k. EntryFits (entry_in old k) (entry_in by k) q) next out

pub merge_begins : (width : ℕ) (old by : RowTerms) (q : Rational) → Climbs 0 width old → Climbs 0 width by → IsMerging width old by q 0 0 []
merge_begins width old by q a b = record {
  next = 0;
  old_rest = rest_is_all width old a;
  by_rest = rest_is_all width by b;
  merged = nothing_is_built (less_at old by q) (λ k. EntryFits (entry_in old k) (entry_in by k) q);
}

module _ (width : ℕ) (old by : RowTerms) (q : Rational) (i j : ℕ) (out : RowTerms) (m : IsMerging width old by q i j out) where
  -- columns at which neither row has a term
  merge_skips : (c : ℕ) → m.next ≤ c → ((k : ℕ) → m.next ≤ k → k < c → entry_in old k ≡ integer (pos 0))
      → ((k : ℕ) → m.next ≤ k → k < c → entry_in by k ≡ integer (pos 0))
      → IsBuilt (less_at old by q) (λ k. EntryFits (entry_in old k) (entry_in by k) q) c out
  merge_skips c h ho hb = built_skip (less_at old by q) (λ k. EntryFits (entry_in old k) (entry_in by k) q) m.next c out h (λ k a l.
      let w = difference_of_null_entry (entry_in old k) (entry_in by k) q (subst IsNarrow (sym (ho k a l)) zero_narrow) (hb k a l)
      in (w.0, w.1 ∙ ho k a l)) m.merged

  merge_adds : (c : ℕ) (new : RowTerms) (v : Rational) → IsAppended out c v new → v ≡ less_at old by q c → EntryFits (entry_in old c) (entry_in by c) q
      → IsBuilt (less_at old by q) (λ k. EntryFits (entry_in old k) (entry_in by k) q) c out
      → IsBuilt (less_at old by q) (λ k. EntryFits (entry_in old k) (entry_in by k) q) (c + 1) new
  merge_adds c new v a e f b = built_more (less_at old by q) (λ k. EntryFits (entry_in old k) (entry_in by k) q) c out new v a e f b

  -- no term of a row before a column that the row's next term comes after
  old_none : (c : ℕ) → (i < length old → c < column_at old i) → (k : ℕ) → m.next ≤ k → k < c + 1 → entry_in old k ≡ integer (pos 0)
  old_none c h k a l = by_cases (cases_lt i (length old))
    where
      by_cases : (i < length old) ⊎ (length old ≤ i) → entry_in old k ≡ integer (pos 0)
      by_cases (inl x) = before_column width old i m.next m.old_rest x k a (let y = h x in omega (arith, y, l))
      by_cases (inr x) = rest_over width old i m.next m.old_rest x k a

  by_none : (c : ℕ) → (j < length by → c < column_at by j) → (k : ℕ) → m.next ≤ k → k < c + 1 → entry_in by k ≡ integer (pos 0)
  by_none c h k a l = by_cases (cases_lt j (length by))
    where
      by_cases : (j < length by) ⊎ (length by ≤ j) → entry_in by k ≡ integer (pos 0)
      by_cases (inl x) = before_column width by j m.next m.by_rest x k a (let y = h x in omega (arith, y, l))
      by_cases (inr x) = rest_over width by j m.next m.by_rest x k a

  pub take_old : (new : RowTerms) → i < length old → (j < length by → column_at old i < column_at by j) → IsNarrow (number_of_term old i)
      → IsAppended out (column_at old i) (number_of_term old i) new
      → IsMerging width old by q (i + 1) j new
  take_old new h s w a =
      let c = column_at old i in
      let from = column_from width old i m.next m.old_rest h in
      let here = at_column width old i m.next m.old_rest h in
      let none = by_none c s c from (omega arith) in
      let e = difference_of_null_entry (entry_in old c) (entry_in by c) q (subst IsNarrow (sym here) w) none in record {
        next = c + 1;
        old_rest = rest_next width old i m.next m.old_rest h;
        by_rest = rest_later width by j m.next m.by_rest (c + 1) (omega (arith, from)) (column_within width old i m.next m.old_rest h) (by_none c s);
        merged = merge_adds c new (number_of_term old i) a (sym here ∙ sym e.1) e.0
            (merge_skips c from (before_column width old i m.next m.old_rest h) (λ k x y. by_none c s k x (omega (arith, y))));
      }

  pub take_by : (new : RowTerms) (v : Rational) → j < length by → (i < length old → column_at by j < column_at old i)
      → IsNarrow (times (number_of_term by j) q) → v ≡ minus (times (number_of_term by j) q)
      → IsAppended out (column_at by j) v new → IsMerging width old by q i (j + 1) new
  take_by new v h s w f a =
      let c = column_at by j in
      let from = column_from width by j m.next m.by_rest h in
      let here = at_column width by j m.next m.by_rest h in
      let none = old_none c s c from (omega arith) in
      let e = difference_from_null (entry_in old c) (entry_in by c) q none in record {
        next = c + 1;
        old_rest = rest_later width old i m.next m.old_rest (c + 1) (omega (arith, from)) (column_within width by j m.next m.by_rest h) (old_none c s);
        by_rest = rest_next width by j m.next m.by_rest h;
        merged = merge_adds c new v a (f ∙ ap (λ y. minus (times y q)) (sym here) ∙ sym e.1)
            (e.0.0 (subst (λ (y : Rational). IsNarrow (times y q)) (sym here) w))
            (merge_skips c from (λ k x y. old_none c s k x (omega (arith, y))) (before_column width by j m.next m.by_rest h));
      }

  pub take_both : (new : RowTerms) (v : Rational) → i < length old → j < length by → column_at old i ≡ column_at by j
      → EntryFits (number_of_term old i) (number_of_term by j) q
      → v ≡ plus (number_of_term old i) (minus (times (number_of_term by j) q)) → IsAppended out (column_at old i) v new
      → IsMerging width old by q (i + 1) (j + 1) new
  take_both new v h l s w f a =
      let c = column_at old i in
      let from = column_from width old i m.next m.old_rest h in
      let x : entry_in old c ≡ number_of_term old i = at_column width old i m.next m.old_rest h in
      let y : entry_in by c ≡ number_of_term by j = ap (entry_in by) s ∙ at_column width by j m.next m.by_rest l in record {
        next = c + 1;
        old_rest = rest_next width old i m.next m.old_rest h;
        by_rest = subst (λ (n : ℕ). IsRest width by (j + 1) (n + 1)) (sym s) (rest_next width by j m.next m.by_rest l);
        merged = merge_adds c new v a (f ∙ ap₂ (λ x y. plus x (minus (times y q))) (sym x) (sym y))
            (subst (λ (x : Rational). EntryFits x (entry_in by c) q) (sym x) (subst (λ (y : Rational). EntryFits (number_of_term old i) y q) (sym y) w))
            (merge_skips c from (before_column width old i m.next m.old_rest h)
            (λ k a b. before_column width by j m.next m.by_rest l k a (omega (arith, b, s))));
      }

  pub refused_by : j < length by → ¬ (IsNarrow (times (number_of_term by j) q)) → ¬ (MergeFits old by q)
  refused_by h n f = n (subst (λ (y : Rational). IsNarrow (times y q)) (at_column width by j m.next m.by_rest h) (f (column_at by j)).product)

  pub refused_both : i < length old → j < length by → column_at old i ≡ column_at by j
      → ¬ (EntryFits (number_of_term old i) (number_of_term by j) q) → ¬ (MergeFits old by q)
  refused_both h l s n f = n (subst (λ (x : Rational). EntryFits x (number_of_term by j) q) (at_column width old i m.next m.old_rest h)
      (subst (λ (y : Rational). EntryFits (entry_in old (column_at old i)) y q)
      (ap (entry_in by) s ∙ at_column width by j m.next m.by_rest l) (f (column_at old i))))

  module _ (h : length old ≤ i) (l : length by ≤ j) where
    pub all_differences_fit : MergeFits old by q
    all_differences_fit k = by_cases (cases_lt k m.next)
      where
        by_cases : (k < m.next) ⊎ (m.next ≤ k) → EntryFits (entry_in old k) (entry_in by k) q
        by_cases (inl a) = m.merged.fits k a
        by_cases (inr a) = (difference_of_null_entry (entry_in old k) (entry_in by k) q
            (subst IsNarrow (sym (rest_over width old i m.next m.old_rest h k a)) zero_narrow)
            (rest_over width by j m.next m.by_rest l k a)).0

    pub merge_ends : AreMerged old by q width out
    merge_ends = record {
      entries = λ k. by_cases k (cases_lt k m.next);
      ascend = climbs_weaker 0 m.next width out
          (rest_upto width old i m.next m.old_rest) m.merged.climbs;
    }
      where
        by_cases : (k : ℕ) → (k < m.next) ⊎ (m.next ≤ k) → entry_in out k ≡ less_at old by q k
        by_cases k (inl a) = m.merged.entries k a
        by_cases k (inr a) =
            let z = rest_over width old i m.next m.old_rest h k a in
            climbs_none 0 m.next out k m.merged.climbs a ∙ sym z
            ∙ sym (difference_of_null_entry (entry_in old k) (entry_in by k) q (subst IsNarrow (sym z) zero_narrow)
            (rest_over width by j m.next m.by_rest l k a)).1
