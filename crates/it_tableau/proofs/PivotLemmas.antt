-- A pivot under way on a list of rows: row r is taken out, and the rows below i are reduced.
use Rattle.std.proofs.Common.{◌≡◌, ◌≢◌, ℕ, ◌+◌, ◌<◌, ◌≤◌, List, [], length, get_or, slice_set, sym, subst, ◌∙◌, ◌⊎◌, inl, inr, arith}
use Rattle.std.proofs.lemmas.Bool.{cases_eq}
use Rattle.std.proofs.lemmas.List.{get_or-set_same, get_or-set_other, get_or_default, length-set}
use Rattle.it_rational.specs.Rational.{Rational, times, inverse}
use Rattle.it_tableau.specs.Entries.{entry_at, row_at}
use Rattle.it_tableau.specs.Rows.{RowStepFits, IsReduced, IsDivided, RowsPivotFits, ArePivoted}

-- own is row r with its entry p at column c, and of the other rows those below i are reduced
pub record IsPivotUnderWay (old now : List (List Rational)) (own : List Rational) (r c i : ℕ) (p : Rational) : Type 0 where
  pub same : length now ≡ length old
  pub own_is : own ≡ row_at old r
  pub p_is : p ≡ entry_at (row_at old r) c
  pub done : (k : ℕ) → k < i → k ≢ r → IsReduced (row_at old k) own (times (entry_at (row_at old k) c) (inverse p)) (row_at now k)
  pub fits : (k : ℕ) → k < i → k ≢ r → RowStepFits (row_at old k) own c p
  pub rest : (k : ℕ) → i ≤ k → k ≢ r → row_at now k ≡ row_at old k

pub own_row_is_skipped : (old now : List (List Rational)) (own : List Rational) (r c i : ℕ) (p : Rational) → i ≡ r
    → IsPivotUnderWay old now own r c i p → IsPivotUnderWay old now own r c (i + 1) p
own_row_is_skipped old now own r c i p e u = record {
  same = u.same;
  own_is = u.own_is;
  p_is = u.p_is;
  done = λ k l d. u.done k (omega (arith, l, d, e)) d;
  fits = λ k l d. u.fits k (omega (arith, l, d, e)) d;
  rest = λ k l d. u.rest k (omega arith) d;
}

pub row_is_reduced : (old now : List (List Rational)) (own y : List Rational) (r c i : ℕ) (p : Rational) → i < length now → RowStepFits (row_at old i) own c p
    → IsReduced (row_at old i) own (times (entry_at (row_at old i) c) (inverse p)) y → IsPivotUnderWay old now own r c i p
    → IsPivotUnderWay old (slice_set now i y) own r c (i + 1) p
row_is_reduced old now own y r c i p h fit red u = record {
  same = length-set now i y ∙ u.same;
  own_is = u.own_is;
  p_is = u.p_is;
  done = λ k l d. by_cases k l d (cases_eq k i);
  fits = λ k l d. split_fits k l d (cases_eq k i);
  rest = λ k l d. get_or-set_other now i k y [] (λ e. omega arith) ∙ u.rest k (omega arith) d;
}
  where
    by_cases : (k : ℕ) → k < i + 1 → k ≢ r → (k ≡ i) ⊎ (k ≡ i → ⊥)
        → IsReduced (row_at old k) own (times (entry_at (row_at old k) c) (inverse p)) (row_at (slice_set now i y) k)
    by_cases k l d (inl e) = subst (λ (x : ℕ). IsReduced (row_at old x) own (times (entry_at (row_at old x) c) (inverse p))
        (row_at (slice_set now i y) x)) (sym e)
        (subst (IsReduced (row_at old i) own (times (entry_at (row_at old i) c) (inverse p))) (sym (get_or-set_same now i y [] h)) red)
    by_cases k l d (inr n) = subst (IsReduced (row_at old k) own (times (entry_at (row_at old k) c) (inverse p)))
        (sym (get_or-set_other now i k y [] n)) (u.done k (omega arith) d)

    split_fits : (k : ℕ) → k < i + 1 → k ≢ r → (k ≡ i) ⊎ (k ≡ i → ⊥) → RowStepFits (row_at old k) own c p
    split_fits k l d (inl e) = subst (λ (x : ℕ). RowStepFits (row_at old x) own c p) (sym e) fit
    split_fits k l d (inr n) = u.fits k (omega arith) d

pub row_refuses_pivot : (old now : List (List Rational)) (own : List Rational) (r c i : ℕ) (p : Rational) → i < length old → i ≢ r
    → IsPivotUnderWay old now own r c i p → ¬ (RowStepFits (row_at old i) own c p) → ¬ (RowsPivotFits old r c)
row_refuses_pivot old now own r c i p h d u n f = n (subst (λ (x : List Rational). RowStepFits (row_at old i) x c p) (sym u.own_is)
    (subst (RowStepFits (row_at old i) (row_at old r) c) (sym u.p_is) (f.others i h d)))

pub pivot_ends : (old now : List (List Rational)) (own y : List Rational) (r c i : ℕ) (p : Rational) → r < length old → length old ≤ i
    → IsPivotUnderWay old now own r c i p → IsDivided own p y → ArePivoted old r c (slice_set now r y)
pivot_ends old now own y r c i p hr h u g = record {
  same_length = length-set now r y ∙ u.same;
  others = λ k l d. subst (λ (q : Rational). IsReduced (row_at old k) (row_at old r) (times (entry_at (row_at old k) c) (inverse q))
      (row_at (slice_set now r y) k)) u.p_is
      (subst (λ (x : List Rational). IsReduced (row_at old k) x (times (entry_at (row_at old k) c) (inverse p)) (row_at (slice_set now r y) k)) u.own_is
      (subst (IsReduced (row_at old k) own (times (entry_at (row_at old k) c) (inverse p))) (sym (get_or-set_other now r k y [] d))
      (u.done k (omega arith) d)));
  own = subst (IsDivided (row_at old r) (entry_at (row_at old r) c)) (sym (get_or-set_same now r y [] (omega (arith, u.same))))
      (subst (λ (q : Rational). IsDivided (row_at old r) q y) u.p_is (subst (λ (x : List Rational). IsDivided x p y) u.own_is g));
}

-- a row that isn't reduced yet is still the old one
pub row_is_unchanged : (old now : List (List Rational)) (own : List Rational) (r c i : ℕ) (p : Rational) (d x : List Rational)
    → x ≡ get_or now i d → i < length now → i ≢ r → IsPivotUnderWay old now own r c i p → x ≡ row_at old i
row_is_unchanged old now own r c i p d x e h n u = e ∙ get_or_default now i d [] h ∙ u.rest i (omega arith) n
