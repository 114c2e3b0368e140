-- The rows of the start while the terms of the columns are put into them.
use Rattle.std.proofs.Common.{◌≡◌, ◌≢◌, ◌⊎◌, inl, inr, ℕ, suc, ◌+◌, ◌-◌, ◌<◌, ◌≤◌, ◌∷◌, ℤ, ◌+ℤ◌, cond, pos, List, [], length, drop, slice_index_or, refl, sym, ap, subst, Err, ◌∙◌, arith}
use Rattle.std.proofs.lemmas.Bool.{cases_eq, cases_lt, ne_eqb}
use Rattle.std.proofs.lemmas.Int.{ints}
use Rattle.std.proofs.lemmas.List.{drop_all}
use Rattle.std.proofs.lemmas.List.Sorted.{searched}
use Rattle.std.specs.List.Sorted.{IsBinarySearchResult}
use Rattle.std.specs.Ordering.{nat_cmp}
use Rattle.std.proofs.Math.Seq.{drop-cons}
use Rattle.it_rational.specs.Rational.{Rational, integer}
use Rattle.it_rational.proofs.Field.{field_ℚ}
use Rattle.it_fraction.specs.Fits.{IsNarrow}
use Rattle.it_fraction.proofs.ZeroLemmas.{product-zero, numerator_of_zero}
use Rattle.it_space.specs.Rows.{Terms, coefficient, Ascends}
use Rattle.it_space.proofs.CanonicalRows.{here_is, none_below, other_is}
use Rattle.it_tableau.specs.Operations.{rationals}
use Rattle.it_tableau.specs.Gathering.{row_terms_at, AreAppended, AreGathered, IsEntryPut, IsListTaken}
use Rattle.it_tableau.specs.Merging.{IsAppended}
use Rattle.it_tableau.specs.Problems.{feasibility_problem, IsAscending}
use Rattle.it_tableau.specs.Rows.{IsWholeNumber, ListsValues, dense_row}
use Rattle.it_tableau.specs.SparseRows.{RowTerms, Climbs, ListsEntries}
use Rattle.it_tableau.specs.StartRows.{start_number, AreStartRows}
use Rattle.it_tableau.specs.SimplexTables.{sign}
use Rattle.it_tableau.proofs.Building.{built_more, built_skip, IsBuilt}
use Rattle.it_tableau.proofs.Climbing.{climbs_narrow}
use Rattle.it_tableau.proofs.DenseRows.{row_shows}
use Rattle.it_tableau.proofs.StartLemmas.{row_artificial, row_column}
use Rattle.it_tableau.proofs.WholeNumbers.{signed_den, zero_number}

-- what a search doesn't find isn't there
pub coordinate_is_absent : (cs : List ℕ) (x i : ℕ) → IsAscending cs → IsBinarySearchResult (λ y. nat_cmp y x) cs (Err i) → (k : ℕ)
    → k < length cs → slice_index_or cs k 0 ≢ x
coordinate_is_absent cs x i up h k l e = let s = searched cs x (Err i) h coordinates_rise in by_side (λ m. s.1 k m) (λ m. s.2 k m l) (cases_lt k i)
  where
    coordinates_rise : (a b : ℕ) → a ≤ b → b < length cs → slice_index_or cs a 0 ≤ slice_index_or cs b 0
    coordinates_rise a b m n = by_case (cases_eq a b)
      where
        by_case : (a ≡ b) ⊎ (a ≡ b → ⊥) → slice_index_or cs a 0 ≤ slice_index_or cs b 0
        by_case (inl same) = subst (λ (c : ℕ). slice_index_or cs a 0 ≤ slice_index_or cs c 0) same (omega arith)
        by_case (inr d) = let u = up a b (omega (arith, m, d)) n in omega (arith, u)

    by_side : (k < i → slice_index_or cs k 0 < x) → (i ≤ k → x < slice_index_or cs k 0) → (k < i) ⊎ (i ≤ k) → ⊥
    by_side below above (inl m) = let b = below m in omega (arith, b, e)
    by_side below above (inr m) = let a = above m in omega (arith, a, e)

-- a row whose coefficients in a column are those that are left has no term yet, and else it has it
abbrev pub IsRowUnderWay : ℤ → ℤ → ℕ → Rational → RowTerms → RowTerms → Type 0
IsRowUnderWay left all j v old now = ((now ≡ old) × (left ≡ all)) ⊎ (IsAppended old j v now × (left ≡ pos 0))

-- the first i terms of a column are put into their rows
pub record IsColumnUnderWay (cs : List ℕ) (f : ℕ → Rational) (terms : Terms) (j : ℕ) (old : List RowTerms) (i : ℕ) (now : List RowTerms) : Type 0 where
  pub from : ℕ
  pub ascends : Ascends from (drop i terms)
  pub count : length now ≡ length old
  pub rows : (k : ℕ) → k < length cs
      → IsRowUnderWay (coefficient (drop i terms) (slice_index_or cs k 0)) (coefficient terms (slice_index_or cs k 0)) j (f k)
      (row_terms_at old k) (row_terms_at now k)

module _ (cs : List ℕ) (f : ℕ → Rational) (terms : Terms) (j : ℕ) (old : List RowTerms) (i : ℕ) (now : List RowTerms)
    (w : IsColumnUnderWay cs f terms j old i now) where
  module _ (h : i < length terms) (new : List RowTerms) (put : IsEntryPut cs f (slice_index_or terms i (0, pos 0)).0 j now new) where
    -- the next term
    abbrev term : ℕ × ℤ
    term = slice_index_or terms i (0, pos 0)

    term_then_rest : drop i terms ≡ term ∷ drop (suc i) terms
    term_then_rest = drop-cons terms i (0, pos 0) h

    rest_ascends : Ascends w.from (term ∷ drop (suc i) terms)
    rest_ascends = subst (Ascends w.from) term_then_rest w.ascends

    module _ (k : ℕ) (l : k < length cs) where
      -- the term's own row
      own_row_takes_term : slice_index_or cs k 0 ≡ term.0
          → IsRowUnderWay (coefficient (drop i terms) (slice_index_or cs k 0)) (coefficient terms (slice_index_or cs k 0)) j (f k)
          (row_terms_at old k) (row_terms_at now k)
          → IsRowUnderWay (coefficient (drop (suc i) terms) (slice_index_or cs k 0)) (coefficient terms (slice_index_or cs k 0)) j (f k)
          (row_terms_at old k) (row_terms_at new k)
      own_row_takes_term e = by_state
        where
          rest_has_none : coefficient (drop (suc i) terms) (slice_index_or cs k 0) ≡ pos 0
          rest_has_none = none_below (term.0 + 1) (drop (suc i) terms) (slice_index_or cs k 0) rest_ascends.3 (omega (arith, e))

          value : coefficient (drop i terms) (slice_index_or cs k 0) ≡ term.1
          value = ap (λ (ts : Terms). coefficient ts (slice_index_or cs k 0)) term_then_rest ∙ here_is term (drop (suc i) terms) (slice_index_or cs k 0) (sym e)
              ∙ ap (λ z. term.1 +ℤ z) rest_has_none ∙ omega (arith, ints)

          by_state : IsRowUnderWay (coefficient (drop i terms) (slice_index_or cs k 0)) (coefficient terms (slice_index_or cs k 0)) j (f k)
              (row_terms_at old k) (row_terms_at now k)
              → IsRowUnderWay (coefficient (drop (suc i) terms) (slice_index_or cs k 0)) (coefficient terms (slice_index_or cs k 0)) j (f k)
              (row_terms_at old k) (row_terms_at new k)
          by_state (inl s) = inr (subst (λ (o : RowTerms). IsAppended o j (f k) (row_terms_at new k)) s.0 (put.own k l e), rest_has_none)
          by_state (inr s) = absurd (rest_ascends.1 (sym value ∙ s.1))

      other_row_stays : slice_index_or cs k 0 ≢ term.0
          → IsRowUnderWay (coefficient (drop i terms) (slice_index_or cs k 0)) (coefficient terms (slice_index_or cs k 0)) j (f k)
          (row_terms_at old k) (row_terms_at now k)
          → IsRowUnderWay (coefficient (drop (suc i) terms) (slice_index_or cs k 0)) (coefficient terms (slice_index_or cs k 0)) j (f k)
          (row_terms_at old k) (row_terms_at new k)
      other_row_stays d = by_state
        where
          same_coefficient : coefficient (drop (suc i) terms) (slice_index_or cs k 0) ≡ coefficient (drop i terms) (slice_index_or cs k 0)
          same_coefficient = sym (ap (λ (ts : Terms). coefficient ts (slice_index_or cs k 0)) term_then_rest
              ∙ other_is term (drop (suc i) terms) (slice_index_or cs k 0) (λ e. d (sym e)))

          by_state : IsRowUnderWay (coefficient (drop i terms) (slice_index_or cs k 0)) (coefficient terms (slice_index_or cs k 0)) j (f k)
              (row_terms_at old k) (row_terms_at now k)
              → IsRowUnderWay (coefficient (drop (suc i) terms) (slice_index_or cs k 0)) (coefficient terms (slice_index_or cs k 0)) j (f k)
              (row_terms_at old k) (row_terms_at new k)
          by_state (inl s) = inl (put.others k l d ∙ s.0, same_coefficient ∙ s.1)
          by_state (inr s) = inr (subst (IsAppended (row_terms_at old k) j (f k)) (sym (put.others k l d)) s.0, same_coefficient ∙ s.1)

      row_put : (slice_index_or cs k 0 ≡ term.0) ⊎ (slice_index_or cs k 0 ≡ term.0 → ⊥)
          → IsRowUnderWay (coefficient (drop (suc i) terms) (slice_index_or cs k 0)) (coefficient terms (slice_index_or cs k 0)) j (f k)
          (row_terms_at old k) (row_terms_at new k)
      row_put (inl e) = own_row_takes_term e (w.rows k l)
      row_put (inr d) = other_row_stays d (w.rows k l)

    pub term_put : IsColumnUnderWay cs f terms j old (i + 1) new
    term_put = let e : suc i ≡ i + 1 = omega arith in subst (λ (n : ℕ). IsColumnUnderWay cs f terms j old n new) e record {
      from = term.0 + 1;
      ascends = rest_ascends.3;
      count = put.count ∙ w.count;
      rows = λ k l. row_put k l (cases_eq (slice_index_or cs k 0) term.0);
    }

  pub column_put : length terms ≤ i → ((k : ℕ) → k < length cs → coefficient terms (slice_index_or cs k 0) ≡ pos 0 → f k ≡ integer (pos 0))
      → AreAppended cs f j old now
  column_put over none = record { count = w.count; rows = λ k l. by_state k l (w.rows k l) }
    where
      by_state : (k : ℕ) → k < length cs → IsRowUnderWay (coefficient (drop i terms) (slice_index_or cs k 0))
          (coefficient terms (slice_index_or cs k 0)) j (f k) (row_terms_at old k) (row_terms_at now k)
          → IsAppended (row_terms_at old k) j (f k) (row_terms_at now k)
      by_state k l (inl s) = inl (none k l (sym s.1 ∙ ap (λ (ts : Terms). coefficient ts (slice_index_or cs k 0)) (drop_all i terms over)), s.0)
      by_state k l (inr s) = s.0

module _ (cs : List ℕ) (columns : List Terms) (target : Terms) where
  -- a column without a term at a coordinate has the entry 0 in its row
  pub no_entry : (j k : ℕ) → j < length columns → coefficient (slice_index_or columns j []) (slice_index_or cs k 0) ≡ pos 0
      → start_number cs columns target k j ≡ integer (pos 0)
  no_entry j k h e = row_column field_ℚ (length cs) (length columns) (feasibility_problem cs columns target) k j h
      ∙ product-zero (sign rationals (feasibility_problem cs columns target) k)
      (integer (coefficient (slice_index_or columns j []) (slice_index_or cs k 0)))
      (numerator_of_zero (integer (coefficient (slice_index_or columns j []) (slice_index_or cs k 0))) (ap integer e))

  pub column_is_gathered : (j : ℕ) (old new : List RowTerms) → AreAppended cs (λ k. start_number cs columns target k j) j old new
      → AreGathered cs columns target j old → AreGathered cs columns target (j + 1) new
  column_is_gathered j old new a g = record { count = a.count ∙ g.count; rows = λ k l. lists k (terms_are_built k l) }
    where
      terms_are_built : (k : ℕ) → k < length cs → IsBuilt (start_number cs columns target k) (λ i. Unit {0}) (j + 1) (row_terms_at new k)
      terms_are_built k l = built_more (start_number cs columns target k) (λ i. Unit {0}) j (row_terms_at old k) (row_terms_at new k)
          (start_number cs columns target k j) (a.rows k l) refl tt
          record { entries = (g.rows k l).entries; climbs = (g.rows k l).ascend; fits = λ i h. tt }

      lists : (k : ℕ) → IsBuilt (start_number cs columns target k) (λ i. Unit {0}) (j + 1) (row_terms_at new k)
          → ListsEntries (start_number cs columns target k) (j + 1) (row_terms_at new k)
      lists k b = record { ascend = b.climbs; entries = b.entries }

  -- a row with its artificial column and its right side
  module _ (k : ℕ) (row : k < length cs) (terms out : RowTerms) (lists : ListsEntries (start_number cs columns target k)
      (length columns) terms) (v : Rational) (wv : IsWholeNumber v)
      (ev : v ≡ start_number cs columns target k (length columns + k)) (a : IsAppended terms (length columns + k) v out) where
    -- the entries of row k, whole numbers
    abbrev f : ℕ → Rational
    f = start_number cs columns target k

    abbrev F : ℕ → Type 0
    F j = IsWholeNumber (f j)

    whole_entry : (j : ℕ) → j < length columns → F j
    whole_entry j h = record {
      whole_is = ap (λ (q : Rational). q.den) (row_column field_ℚ (length cs) (length columns) (feasibility_problem cs columns target) k j h)
          ∙ signed_den (field_ℚ.order.is_least (integer (coefficient target (slice_index_or cs k 0))))
          (coefficient (slice_index_or columns j []) (slice_index_or cs k 0));
      narrow = subst IsNarrow (lists.entries j h) (climbs_narrow 0 (length columns) terms j lists.ascend);
    }

    no_unit : (j : ℕ) → length columns ≤ j → j < length columns + length cs → j ≢ length columns + k → F j × (f j ≡ integer (pos 0))
    no_unit j l h d = (subst IsWholeNumber (sym null) zero_number, null)
      where
        artificial_is_zero : (i : ℕ) → j ≡ length columns + i → i < length cs → f j ≡ integer (pos 0)
        artificial_is_zero i e m = ap f e ∙ row_artificial field_ℚ (length cs) (length columns) (feasibility_problem cs columns target) k i m
            ∙ ap (λ b. cond b (integer (pos 1)) (integer (pos 0))) (ne_eqb i k (λ s. d (e ∙ ap (λ x. length columns + x) s)))

        null : f j ≡ integer (pos 0)
        null = artificial_is_zero (j - length columns) (omega (arith, l)) (omega (arith, l, h))

    row_is_built : IsBuilt f F (length columns + length cs) out
    row_is_built =
        let n = length columns in
        let start : IsBuilt f F n terms = record { entries = lists.entries; climbs = lists.ascend; fits = whole_entry } in
        let before : IsBuilt f F (n + k) terms = built_skip f F n (n + k) terms (omega arith)
        (λ j l h. no_unit j l (omega (arith, h, row)) (λ e. omega (arith, e, h))) start in
        let unit : IsBuilt f F (n + k + 1) out = built_more f F (n + k) terms out v a ev (subst IsWholeNumber ev wv) before in
        built_skip f F (n + k + 1) (n + length cs) out (omega (arith, row)) (λ j l h. no_unit j (omega (arith, l)) h (λ e. omega (arith, e, l))) unit

    pub row_climbs : Climbs 0 (length columns + length cs) out
    row_climbs = row_is_built.climbs

    module _ (right : Rational) (wr : IsWholeNumber right) (er : right ≡ start_number cs columns target k (length columns + length cs)) where
      pub row_finished : ListsValues f (length columns + length cs + 1) (dense_row (length columns + length cs) out right)
      row_finished = row_shows f F (length columns + length cs) out right row_is_built er

      pub row_wholes : (j : ℕ) → j < length columns + length cs + 1 → F j
      row_wholes j l = by_end (cases_lt j (length columns + length cs))
        where
          by_end : (j < length columns + length cs) ⊎ (length columns + length cs ≤ j) → F j
          by_end (inl h) = row_is_built.fits j h
          by_end (inr h) = subst IsWholeNumber (er ∙ ap f (let e : length columns + length cs ≡ j = omega (arith, l, h) in e)) wr

  -- the first k rows are finished, and the lists of the others are gathered
  pub record AreRowsUnderWay (k : ℕ) (lists : List RowTerms) (rows : List (List Rational)) : Type 0 where
    pub count : length lists ≡ length cs
    pub left : (i : ℕ) → k ≤ i → i < length cs → ListsEntries (start_number cs columns target i) (length columns) (row_terms_at lists i)
    pub done : AreStartRows cs columns target k rows

  pub row_taken : (k : ℕ) (lists new : List RowTerms) (rows : List (List Rational)) (all : List (List Rational)) → IsListTaken lists k new
      → AreRowsUnderWay k lists rows → AreStartRows cs columns target (k + 1) all → AreRowsUnderWay (k + 1) new all
  row_taken k lists new rows all t w done = record {
    count = t.count ∙ w.count;
    left = λ i l h. subst (ListsEntries (start_number cs columns target i) (length columns)) (sym (t.others i (λ e. omega (arith, e, l))))
        (w.left i (omega (arith, l)) h);
    done = done;
  }
