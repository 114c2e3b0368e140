-- A pivot under way: row r is taken out, and the rows below i are updated.
use Rattle.std.proofs.Common.{◌≡◌, ◌≢◌, ◌⊎◌, inl, inr, ℤ, pos, ◌≤ℤ◌, ◌^◌, unsigned_abs, refl, ℕ, suc, ◌+◌, ◌-◌, ◌<◌, ◌≤◌, List, [], length, slice_index_or, slice_set, sym, ap, subst, ◌∙◌, arith}
use Rattle.std.proofs.lemmas.Bool.{cases_eq, cases_lt}
use Rattle.std.proofs.lemmas.Int.{ints}
use Rattle.std.proofs.lemmas.List.{get_or-set_same, get_or-set_other, length-set}
use Rattle.it_engine.specs.Behind.{after_rows, AreNullElsewhere, IsNextMoved}
use Rattle.it_engine.specs.PivotedRows.{AreUsable, AreWholeRowsPivoted, IsRowUpdated, IsWholeRowDivided}
use Rattle.it_whole.specs.Updates.{IsLeaving, IsQuotient, IsUpdated}
use Rattle.it_whole.specs.WholeRows.{IsUsable, WholeRowView}
use Rattle.it_engine.specs.Tables.{whole_row_at}
use Rattle.it_engine.proofs.DividedRows.{divided_row, less_divided, shortened_divided}
use Rattle.it_whole.proofs.Usable.{kept_updated, quotient_usable}
use Rattle.it_space.specs.Sums.{number_at}

-- the rows below i but row r are updated by the row that leaves, and those from i on are the old ones
pub record IsPivotUnderWay (limit : ℕ) (old : List WholeRowView) (entries : List ℤ) (r : ℕ) (own : WholeRowView) (p : ℤ)
    (now : List WholeRowView) (i : ℕ) : Type 0 where
  pub same_length : length now ≡ length old
  pub done : (k : ℕ) → k < i → k ≢ r → IsUpdated (length old) limit (whole_row_at old k) own (number_at entries k) p (whole_row_at now k)
  pub rest : (k : ℕ) → i ≤ k → k ≢ r → whole_row_at now k ≡ whole_row_at old k

module _ (limit : ℕ) (old : List WholeRowView) (entries : List ℤ) (r : ℕ) (own : WholeRowView) (p : ℤ) where
  -- the rows below one are updated
  abbrev AreUpdatedBelow : List WholeRowView → ℕ → Type 0
  AreUpdatedBelow = IsPivotUnderWay limit old entries r own p

  abbrev IsUpdatedRow : ℕ → WholeRowView → Type 0
  IsUpdatedRow k new = IsUpdated (length old) limit (whole_row_at old k) own (number_at entries k) p new

  pub own_row_is_skipped : (now : List WholeRowView) (i : ℕ) → i ≡ r → AreUpdatedBelow now i → AreUpdatedBelow now (i + 1)
  own_row_is_skipped now i e u = record {
    same_length = u.same_length;
    done = λ k l d. u.done k (omega (arith, l, d, e)) d;
    rest = λ k l d. u.rest k (omega arith) d;
  }

  pub next_row_is_usable : (now : List WholeRowView) (i : ℕ) → AreUsable (length old) limit old → length own.numbers ≡ length old
      → i < length old → i ≢ r → AreUpdatedBelow now i → IsUsable (length own.numbers) limit (whole_row_at now i)
  next_row_is_usable now i usable width l d u = subst (λ (n : ℕ). IsUsable n limit (whole_row_at now i)) (sym width)
      (subst (IsUsable (length old) limit) (sym (u.rest i (omega arith) d)) (usable i l))

  pub next_row_is_updated : (now new : List WholeRowView) (i : ℕ) → length own.numbers ≡ length old → i ≢ r → length new ≡ length now
      → IsRowUpdated limit now entries own p i new → ((k : ℕ) → k ≢ i → whole_row_at new k ≡ whole_row_at now k)
      → AreUpdatedBelow now i → AreUpdatedBelow new (i + 1)
  next_row_is_updated now new i width d e w o u = record {
    same_length = e ∙ u.same_length;
    done = λ k l d. by_cases k l d (cases_eq k i);
    rest = λ k l d. o k (λ e. omega (arith, l, e)) ∙ u.rest k (omega (arith, l)) d;
  }
    where
      updated : IsUpdatedRow i (whole_row_at new i)
      updated = subst (λ (n : ℕ). IsUpdated n limit (whole_row_at old i) own (number_at entries i) p (whole_row_at new i)) width
          (subst (λ (x : WholeRowView). IsUpdated (length own.numbers) limit x own (number_at entries i) p (whole_row_at new i)) (u.rest i (omega arith) d) w)

      by_cases : (k : ℕ) → k < i + 1 → k ≢ r → (k ≡ i) ⊎ (k ≡ i → ⊥) → IsUpdatedRow k (whole_row_at new k)
      by_cases k l d (inl e) = subst (λ (x : ℕ). IsUpdatedRow x (whole_row_at new x)) (sym e) updated
      by_cases k l d (inr n) = subst (IsUpdatedRow k) (sym (o k n)) (u.done k (omega (arith, l, n)) d)

  -- rows whose entry is 0 are updated as they are
  pub rows_without_entry : (now : List WholeRowView) (from to : ℕ) → AreUsable (length old) limit old → from ≤ to → to ≤ length old
      → ((k : ℕ) → from ≤ k → k < to → number_at entries k ≡ pos 0)
      → AreUpdatedBelow now from → AreUpdatedBelow now to
  rows_without_entry now from to usable h within null u = record {
    same_length = u.same_length;
    done = λ k l d. by_order k l d (cases_lt k from);
    rest = λ k l d. u.rest k (omega (arith, l, h)) d;
  }
    where
      by_order : (k : ℕ) → k < to → k ≢ r → (k < from) ⊎ (from ≤ k) → IsUpdatedRow k (whole_row_at now k)
      by_order k l d (inl a) = u.done k a d
      by_order k l d (inr n) = subst (IsUpdatedRow k) (sym (u.rest k n d))
          (kept_updated (length old) limit (whole_row_at old k) own (number_at entries k) p (usable k (omega (arith, l, within)))
          (null k n l))

-- usable rows, a row r that isn't the last, and entries that are 0 but at the rows of a list and at the last row
pub record HasFewEntries (limit : ℕ) (old : List WholeRowView) (entries : List ℤ) (r : ℕ) (order : List ℕ) : Type 0 where
  pub above : r + 1 < length old
  pub usable : AreUsable (length old) limit old
  pub elsewhere : (height : ℕ) → length old ≡ height + 1 → AreNullElsewhere entries height order

-- the rows of the list are updated one by one
module _ (limit : ℕ) (old : List WholeRowView) (entries : List ℤ) (r : ℕ) (own : WholeRowView) (p : ℤ) (order : List ℕ)
    (few : HasFewEntries limit old entries r order) where
  null_elsewhere : AreNullElsewhere entries (length old - 1) order
  null_elsewhere = few.elsewhere (length old - 1) (omega (arith, few.above))

  pub listed_row_is_above : (k : ℕ) → k < length order → slice_index_or order k 0 + 1 < length old
  listed_row_is_above k l = let h : slice_index_or order k 0 < length old - 1 = null_elsewhere.1.within k l in omega (arith, h)

  rows_between : (now : List WholeRowView) (from to : ℕ) → IsNextMoved null_elsewhere.0 (length old - 1) from to
      → IsPivotUnderWay limit old entries r own p now from → IsPivotUnderWay limit old entries r own p now to
  rows_between now from to n u = rows_without_entry limit old entries r own p now from to few.usable n.after (omega (arith, n.within))
      (λ k l g. null_elsewhere.2 k (omega (arith, g, n.within)) (n.still k l g)) u

  pub listed_row_is_next : (now : List WholeRowView) (k : ℕ) → k < length order
      → IsPivotUnderWay limit old entries r own p now (after_rows order k)
      → IsPivotUnderWay limit old entries r own p now (slice_index_or order k 0)
  listed_row_is_next now k l u = rows_between now (after_rows order k) (slice_index_or order k 0) (null_elsewhere.1.each k l) u

  pub last_row_is_next : (now : List WholeRowView) (k : ℕ) → k ≡ length order
      → IsPivotUnderWay limit old entries r own p now (after_rows order k) → IsPivotUnderWay limit old entries r own p now (length now - 1)
  last_row_is_next now k e u = subst (λ (n : ℕ). IsPivotUnderWay limit old entries r own p now (n - 1)) (sym u.same_length)
      (rows_between now (after_rows order (length order)) (length old - 1) null_elsewhere.1.last
      (subst (λ (k : ℕ). IsPivotUnderWay limit old entries r own p now (after_rows order k)) e u))

-- the first row after those of a list before place k + 1
pub after_one_more : (order : List ℕ) (k : ℕ) → slice_index_or order k 0 + 1 ≡ after_rows order (k + 1)
after_one_more order k =
    let e : suc k ≡ k + 1 = omega arith in
    ap (after_rows order) e

-- the row that leaves as divided by its entry
pub own_usable : (limit : ℕ) (old : List WholeRowView) (entries : List ℤ) (r : ℕ) (own : WholeRowView) → r < length old
    → AreUsable (length old) limit old → pos 1 ≤ℤ number_at entries r
    → IsQuotient (whole_row_at old r) (number_at entries r) own → IsUsable (length own.numbers) limit own
own_usable limit old entries r own hr usable hp q =
    let u : IsUsable (length old) limit own = quotient_usable (length old) limit (whole_row_at old r) (number_at entries r) own (usable r hr) hp q in
    subst (λ (n : ℕ). IsUsable n limit own) (sym u.length_is) u

-- a usable row may leave, divided by its entry, which its denominator then represents
pub own_leaves : (limit : ℕ) (own : WholeRowView) (p : ℤ) → IsUsable (length own.numbers) limit own → p ≡ pos own.denominator → limit < 2 ^ 63
    → IsLeaving limit own p
own_leaves limit own p u e h = record {
  usable = u;
  positive = subst (λ (z : ℤ). pos 1 ≤ℤ z) (sym e) (at_least_one own.denominator u.some);
  limit_is = h;
}
  where
    at_least_one : (n : ℕ) → 0 < n → pos 1 ≤ℤ pos n
    at_least_one n h = omega (arith, ints, h)

-- all rows are updated by the row that leaves as divided by its entry, and that row is row r
pub pivot_ends : (limit : ℕ) (old : List WholeRowView) (entries : List ℤ) (r : ℕ) (own : WholeRowView) (now : List WholeRowView) (i : ℕ)
    → r < length old → AreUsable (length old) limit old → length old ≤ i
    → pos 1 ≤ℤ number_at entries r → unsigned_abs (number_at entries r) < 2 ^ 63
    → IsPivotUnderWay limit old entries r own (pos own.denominator) now i → IsQuotient (whole_row_at old r) (number_at entries r) own
    → AreWholeRowsPivoted (length old) limit old (number_at entries) r (slice_set now r own)
pivot_ends limit old entries r own now i hr usable hi hp small u q = record {
  same_length = length-set now r own ∙ u.same_length;
  others = λ k l d. subst (IsUpdated (length old) limit (whole_row_at old k) (whole_row_at old r) (number_at entries k)
      (number_at entries r)) (sym (get_or-set_other now r k own record { numbers = []; denominator = 1 } d))
      (by_own k (whole_row_at now k) (u.done k (omega (arith, l, hi)) d));
  own = subst (IsWholeRowDivided (length old) limit (whole_row_at old r) (number_at entries r)) row_is_set own_row_divided;
  own_usable = subst (IsUsable (length old) limit) row_is_set (quotient_usable (length old) limit (whole_row_at old r)
      (number_at entries r) own (usable r hr) hp q);
}
  where
    row_is_set : own ≡ whole_row_at (slice_set now r own) r
    row_is_set = sym (get_or-set_same now r own record { numbers = []; denominator = 1 } (omega (arith, u.same_length, hr)))

    own_row_divided : IsWholeRowDivided (length old) limit (whole_row_at old r) (number_at entries r) own
    own_row_divided = shortened_divided (length old) limit (whole_row_at old r)
        record { numbers = (whole_row_at old r).numbers; denominator = unsigned_abs (number_at entries r) } own (number_at entries r)
        (divided_row (length old) limit (whole_row_at old r) record {
          numbers = (whole_row_at old r).numbers;
          denominator = unsigned_abs
              (number_at entries r);
        } (number_at entries r) hp small refl refl) q

    by_own : (k : ℕ) (new : WholeRowView) → IsUpdated (length old) limit (whole_row_at old k) own (number_at entries k) (pos own.denominator) new
        → IsUpdated (length old) limit (whole_row_at old k) (whole_row_at old r) (number_at entries k) (number_at entries r) new
    by_own k new w = record {
      less = less_divided (length old) limit (whole_row_at old k) (whole_row_at old r) own new (number_at entries k)
          (number_at entries r) own_row_divided w.less;
      usable = w.usable;
      kept = w.kept;
    }

-- only the entries of the rows count
pub pivoted_by_entries : (width limit : ℕ) (old : List WholeRowView) (entry other : ℕ → ℤ) (r : ℕ) (new : List WholeRowView)
    → r < length old → ((i : ℕ) → i < length old → entry i ≡ other i)
    → AreWholeRowsPivoted width limit old entry r new → AreWholeRowsPivoted width limit old other r new
pivoted_by_entries width limit old entry other r new hr e a = record {
  same_length = a.same_length;
  others = λ i l d. subst (λ (p : ℤ). IsUpdated width limit (whole_row_at old i) (whole_row_at old r) (other i) p (whole_row_at new i)) (e r hr)
      (subst (λ (z : ℤ). IsUpdated width limit (whole_row_at old i) (whole_row_at old r) z (entry r) (whole_row_at new i)) (e i l) (a.others i l d));
  own = subst (λ (p : ℤ). IsWholeRowDivided width limit (whole_row_at old r) p (whole_row_at new r)) (e r hr) a.own;
  own_usable = a.own_usable;
}
