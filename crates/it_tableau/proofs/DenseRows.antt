-- A row without its zeros and the list of all its numbers.
use Rattle.std.proofs.Common.{◌≡◌, ◌⊎◌, inl, inr, ℕ, zero, suc, ◌+◌, ◌-◌, ◌<◌, ◌≤◌, List, [], ◌∷◌, ◌++◌, pos, length, length-append, refl, sym, ap, ap₂, subst, ◌∙◌, arith}
use Rattle.std.proofs.lemmas.Bool.{cases_lt}
use Rattle.std.proofs.lemmas.List.{get_or_append_left}
use Rattle.std.proofs.Math.Seq.{get_or-append_seam}
use Rattle.it_rational.specs.Rational.{Rational, integer, plus, minus, times, inverse}
use Rattle.it_fraction.specs.Fits.{IsNarrow}
use Rattle.it_fraction.proofs.ZeroLemmas.{zero_narrow}
use Rattle.it_tableau.specs.Fits.{EntryFits}
use Rattle.it_tableau.specs.Merging.{AreDivided, AreMerged, MergeFits, TermQuotientsFit}
use Rattle.it_tableau.specs.Entries.{entry_at, zero_rational}
use Rattle.it_tableau.specs.Rows.{RowQuotientsFit, IsDivided, IsReduced, ListsValues, RowFits, RowStepFits, entries_from, dense_row}
use Rattle.it_tableau.specs.SparseRows.{RowTerms, entry_in, Climbs, ListsEntries}
use Rattle.it_tableau.proofs.Building.{IsBuilt}
use Rattle.it_tableau.proofs.Climbing.{climbs_narrow, climbs_none}
use Rattle.it_tableau.proofs.Zeros.{difference_of_null_factor, quotient_of_null, difference_of_null_entry}

dense_length : (ts : RowTerms) (from n : ℕ) → length (entries_from ts from n) ≡ n
dense_length ts from zero = refl
dense_length ts from (suc n) = ap suc (dense_length ts (suc from) n)

dense_entry : (ts : RowTerms) (from n j : ℕ) → j < n → entry_at (entries_from ts from n) j ≡ entry_in ts (from + j)
dense_entry ts from zero j h = absurd (omega arith)
dense_entry ts from (suc n) zero h = ap (entry_in ts) (let e : from ≡ from + 0 = omega arith in e)
dense_entry ts from (suc n) (suc j) h = dense_entry ts (suc from) n j (omega arith) ∙ ap (entry_in ts) (let e : suc from + j ≡ from + suc j = omega arith in e)

pub row_length : (w : ℕ) (ts : RowTerms) (right : Rational) → length (dense_row w ts right) ≡ w + 1
unfolding dense_row
row_length w ts right = length-append (entries_from ts 0 w) (right ∷ []) ∙ (let l = dense_length ts 0 w in omega (arith, l))

pub row_entry : (w : ℕ) (ts : RowTerms) (right : Rational) (j : ℕ) → j < w → entry_at (dense_row w ts right) j ≡ entry_in ts j
unfolding dense_row
row_entry w ts right j h = get_or_append_left (entries_from ts 0 w) (right ∷ []) zero_rational j
    (let l = dense_length ts 0 w in omega (arith, l, h)) ∙ dense_entry ts 0 w j h ∙ ap (entry_in ts) (let e : 0 + j ≡ j = omega arith in e)

pub row_end : (w : ℕ) (ts : RowTerms) (right : Rational) (j : ℕ) → j ≡ w → entry_at (dense_row w ts right) j ≡ right
unfolding dense_row
row_end w ts right j e = ap (entry_at (entries_from ts 0 w ++ right ∷ [])) (e ∙ sym (dense_length ts 0 w))
    ∙ get_or-append_seam (entries_from ts 0 w) right [] zero_rational

-- rows of one length have the same columns
pub same_width : (w x : ℕ) (ts us : RowTerms) (r s : Rational) (row by : List Rational) → dense_row w ts r ≡ row → dense_row x us s ≡ by
    → length row ≡ length by → x ≡ w
same_width w x ts us r s row by f g e = let a = ap length f ∙ e ∙ sym (ap length g) in let b = row_length w ts r
    in let d = row_length x us s in omega (arith, a, b, d)

-- the terms of the list
pub row_lists : (w : ℕ) (ts : RowTerms) (right : Rational) → Climbs 0 w ts
    → ListsEntries (entry_at (dense_row w ts right)) (length (dense_row w ts right) - 1) ts
row_lists w ts right a =
    let e : w ≡ length (dense_row w ts right) - 1 = (let l = row_length w ts right in omega (arith, l)) in
    subst (λ (n : ℕ). ListsEntries (entry_at (dense_row w ts right)) n ts) e record { ascend = a; entries = λ j l. sym (row_entry w ts right j l) }

-- a row that was built column by column
pub row_shows : (f : ℕ → Rational) (F : ℕ → Type 0) (w : ℕ) (ts : RowTerms) (right : Rational) → IsBuilt f F w ts → right ≡ f w
    → ListsValues f (w + 1) (dense_row w ts right)
row_shows f F w ts right b e = record { length_is = row_length w ts right; entries = λ j l. by_cases j l (cases_lt j w) }
  where
    by_cases : (j : ℕ) → j < w + 1 → (j < w) ⊎ (w ≤ j) → entry_at (dense_row w ts right) j ≡ f j
    by_cases j l (inl h) = row_entry w ts right j h ∙ b.entries j h
    by_cases j l (inr h) = let same : j ≡ w = omega (arith, l, h) in row_end w ts right j same ∙ e ∙ ap f (sym same)

module _ (w : ℕ) (old by : RowTerms) (r s : Rational) where
  -- the entries of both rows in a column
  module _ (q : Rational) where
    pub row_fits : MergeFits old by q → EntryFits r s q → RowFits (dense_row w old r) (dense_row w by s) q
    row_fits m e j l = by_cases (cases_lt j w)
      where
        by_cases : (j < w) ⊎ (w ≤ j) → EntryFits (entry_at (dense_row w old r) j) (entry_at (dense_row w by s) j) q
        by_cases (inl h) = subst (λ (x : Rational). EntryFits x (entry_at (dense_row w by s) j) q) (sym (row_entry w old r j h))
            (subst (λ (y : Rational). EntryFits (entry_in old j) y q) (sym (row_entry w by s j h)) (m j))
        by_cases (inr h) =
            let same : j ≡ w = (let n = row_length w old r in omega (arith, l, h, n)) in
            subst (λ (x : Rational). EntryFits x (entry_at (dense_row w by s) j) q) (sym (row_end w old r j same))
            (subst (λ (y : Rational). EntryFits r y q) (sym (row_end w by s j same)) e)

    pub right_fits : RowFits (dense_row w old r) (dense_row w by s) q → EntryFits r s q
    right_fits f = subst (λ (x : Rational). EntryFits x s q) (row_end w old r w refl)
        (subst (λ (y : Rational). EntryFits (entry_at (dense_row w old r) w) y q) (row_end w by s w refl)
        (f w (let n = row_length w old r in omega (arith, n))))

    pub terms_fit : Climbs 0 w old → Climbs 0 w by → RowFits (dense_row w old r) (dense_row w by s) q → MergeFits old by q
    terms_fit a b f j = by_cases (cases_lt j w)
      where
        by_cases : (j < w) ⊎ (w ≤ j) → EntryFits (entry_in old j) (entry_in by j) q
        by_cases (inl h) = subst (λ (x : Rational). EntryFits x (entry_in by j) q) (row_entry w old r j h)
            (subst (λ (y : Rational). EntryFits (entry_at (dense_row w old r) j) y q) (row_entry w by s j h)
            (f j (let n = row_length w old r in omega (arith, n, h))))
        by_cases (inr h) = (difference_of_null_entry (entry_in old j) (entry_in by j) q
            (subst IsNarrow (sym (climbs_none 0 w old j a h)) zero_narrow) (climbs_none 0 w by j b h)).0

    pub row_reduced : (out : RowTerms) (right : Rational) → AreMerged old by q w out → right ≡ plus r (minus (times s q))
        → IsReduced (dense_row w old r) (dense_row w by s) q (dense_row w out right)
    row_reduced out right m e = record {
      same_length = row_length w out right ∙ sym (row_length w old r);
      entries = λ j l. by_cases j (let n = row_length w old r in omega (arith, l, n)) (cases_lt j w);
    }
      where
        by_cases : (j : ℕ) → j < w + 1 → (j < w) ⊎ (w ≤ j) → entry_at (dense_row w out right) j
            ≡ plus (entry_at (dense_row w old r) j) (minus (times (entry_at (dense_row w by s) j) q))
        by_cases j l (inl h) = row_entry w out right j h ∙ m.entries j
            ∙ sym (ap₂ (λ x y. plus x (minus (times y q))) (row_entry w old r j h) (row_entry w by s j h))
        by_cases j l (inr h) = let same : j ≡ w = omega (arith, l, h) in
            row_end w out right j same ∙ e ∙ sym (ap₂ (λ x y. plus x (minus (times y q))) (row_end w old r j same) (row_end w by s j same))

-- a row with entry 0 in the column stays as it is
module _ (w : ℕ) (ts : RowTerms) (right : Rational) (a : Climbs 0 w ts) (n : IsNarrow right) where
  entry_narrow : (j : ℕ) → j < length (dense_row w ts right) → IsNarrow (entry_at (dense_row w ts right) j)
  entry_narrow j l = by_cases (cases_lt j w)
    where
      by_cases : (j < w) ⊎ (w ≤ j) → IsNarrow (entry_at (dense_row w ts right) j)
      by_cases (inl h) = subst IsNarrow (sym (row_entry w ts right j h)) (climbs_narrow 0 w ts j a)
      by_cases (inr h) = subst IsNarrow (sym (row_end w ts right j (let n = row_length w ts right in omega (arith, l, h, n)))) n

  module _ (by : List Rational) (c : ℕ) (p : Rational) (none : entry_at (dense_row w ts right) c ≡ integer (pos 0)) where
    pub row_without_entry_fits : RowStepFits (dense_row w ts right) by c p
    row_without_entry_fits = record {
      quotient = (quotient_of_null (entry_at (dense_row w ts right) c) p none).0;
      row_fits = λ j l. (difference_of_null_factor (entry_at (dense_row w ts right) j) (entry_at by j)
          (times (entry_at (dense_row w ts right) c) (inverse p)) (entry_narrow j l)
          (quotient_of_null (entry_at (dense_row w ts right) c) p none).1).0;
    }

    pub row_without_entry_stays : IsReduced (dense_row w ts right) by (times (entry_at (dense_row w ts right) c) (inverse p)) (dense_row w ts right)
    row_without_entry_stays = record {
      same_length = refl;
      entries = λ j l. sym (difference_of_null_factor (entry_at (dense_row w ts right) j) (entry_at by j)
          (times (entry_at (dense_row w ts right) c) (inverse p)) (entry_narrow j l)
          (quotient_of_null (entry_at (dense_row w ts right) c) p none).1).1;
    }

module _ (w : ℕ) (old : RowTerms) (r p : Rational) where
  pub row_quotients_fit : TermQuotientsFit old p → IsNarrow (times r (inverse p)) → RowQuotientsFit (dense_row w old r) p
  row_quotients_fit m e j l = by_cases (cases_lt j w)
    where
      by_cases : (j < w) ⊎ (w ≤ j) → IsNarrow (times (entry_at (dense_row w old r) j) (inverse p))
      by_cases (inl h) = subst (λ (x : Rational). IsNarrow (times x (inverse p))) (sym (row_entry w old r j h)) (m j)
      by_cases (inr h) = subst (λ (x : Rational). IsNarrow (times x (inverse p)))
          (sym (row_end w old r j (let n = row_length w old r in omega (arith, l, h, n)))) e

  pub right_quotient_fits : RowQuotientsFit (dense_row w old r) p → IsNarrow (times r (inverse p))
  right_quotient_fits f = subst (λ (x : Rational). IsNarrow (times x (inverse p))) (row_end w old r w refl)
      (f w (let n = row_length w old r in omega (arith, n)))

  pub term_quotients_fit : Climbs 0 w old → RowQuotientsFit (dense_row w old r) p → TermQuotientsFit old p
  term_quotients_fit a f j = by_cases (cases_lt j w)
    where
      by_cases : (j < w) ⊎ (w ≤ j) → IsNarrow (times (entry_in old j) (inverse p))
      by_cases (inl h) = subst (λ (x : Rational). IsNarrow (times x (inverse p))) (row_entry w old r j h)
          (f j (let n = row_length w old r in omega (arith, n, h)))
      by_cases (inr h) = (quotient_of_null (entry_in old j) p (climbs_none 0 w old j a h)).0

  pub row_divided : (out : RowTerms) (right : Rational) → AreDivided old p w out → right ≡ times r (inverse p)
      → IsDivided (dense_row w old r) p (dense_row w out right)
  row_divided out right m e = record {
    same_length = row_length w out right ∙ sym (row_length w old r);
    entries = λ j l. by_cases j (let n = row_length w old r in omega (arith, l, n)) (cases_lt j w);
  }
    where
      by_cases : (j : ℕ) → j < w + 1 → (j < w) ⊎ (w ≤ j) → entry_at (dense_row w out right) j ≡ times (entry_at (dense_row w old r) j) (inverse p)
      by_cases j l (inl h) = row_entry w out right j h ∙ m.entries j ∙ ap (λ x. times x (inverse p)) (sym (row_entry w old r j h))
      by_cases j l (inr h) = let same : j ≡ w = omega (arith, l, h) in row_end w out right j same ∙ e
          ∙ ap (λ x. times x (inverse p)) (sym (row_end w old r j same))

-- a step on the rows that contracts see
module _ (w : ℕ) (old by : RowTerms) (r s : Rational) (seen seen_by : List Rational) (f : dense_row w old r ≡ seen)
    (g : dense_row w by s ≡ seen_by) (c : ℕ) (p q : Rational)
    (e : q ≡ times (entry_at seen c) (inverse p)) where
  step_row_fits : RowStepFits seen seen_by c p → RowFits (dense_row w old r) (dense_row w by s) q
  step_row_fits fits = subst (λ (x : List Rational). RowFits x (dense_row w by s) q) (sym f)
      (subst (λ (y : List Rational). RowFits seen y q) (sym g) (subst (RowFits seen seen_by) (sym e) fits.row_fits))

  pub step_right : RowStepFits seen seen_by c p → EntryFits r s q
  step_right fits = right_fits w old by r s q (step_row_fits fits)

  pub step_terms : Climbs 0 w old → Climbs 0 w by → RowStepFits seen seen_by c p → MergeFits old by q
  step_terms a b fits = terms_fit w old by r s q a b (step_row_fits fits)

  pub step_fits : IsNarrow (times (entry_at seen c) (inverse p)) → MergeFits old by q → EntryFits r s q → RowStepFits seen seen_by c p
  step_fits n m h = record {
    quotient = n;
    row_fits = subst (RowFits seen seen_by) e (subst (λ (x : List Rational). RowFits x seen_by q) f
        (subst (λ (y : List Rational). RowFits (dense_row w old r) y q) g (row_fits w old by r s q m h)));
  }

  pub step_reduced : (out : RowTerms) (right : Rational) → AreMerged old by q w out → right ≡ plus r (minus (times s q))
      → IsReduced seen seen_by (times (entry_at seen c) (inverse p)) (dense_row w out right)
  step_reduced out right m h = subst (λ (x : Rational). IsReduced seen seen_by x (dense_row w out right)) e
      (subst (λ (x : List Rational). IsReduced x seen_by q (dense_row w out right)) f
      (subst (λ (y : List Rational). IsReduced (dense_row w old r) y q (dense_row w out right)) g (row_reduced w old by r s q out right m h)))
