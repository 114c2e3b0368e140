-- The row that leaves at a degenerate step, by the numbers of rows that stay behind at a combined column.
use Rattle.std.proofs.Common.{◌≡◌, ◌⊎◌, inl, inr, ℕ, zero, suc, ◌+◌, ◌*◌, ◌-◌, ◌<◌, ◌≤◌, ◌^◌, ◌∷◌, Bool, true, false, cond, ℤ, pos, negsuc, ◌+ℤ◌, ◌*ℤ◌, neg_ℤ, List, [], length, slice_index_or, Option, Some, None, IfSome, All, refl, sym, ap, ap₂, subst, ◌∙◌, arith}
use Rattle.std.proofs.lemmas.Bool.{cases_lt, lt-ltb}
use Rattle.std.proofs.lemmas.Nat.{mul-le}
use Rattle.std.proofs.Math.Nat.{mul_comm}
use Rattle.it_tableau.proofs.Sums.{sum_same}
use Rattle.std.proofs.lemmas.List.{get_or_past}
use Rattle.std.proofs.lemmas.List.Elements.{All-append}
use Rattle.std.proofs.lemmas.Int.{ints}
use Rattle.it_number.proofs.Ring.{ring, v, plus, minus, times, nil}
use Rattle.it_number.proofs.IntegerRing.{ring_ℤ}
use Rattle.it_rational.specs.Rational.{Rational}
use Rattle.it_space.specs.Rows.{Terms, value}
use Rattle.it_space.specs.Sums.{number_at}
use Rattle.it_space.proofs.TermLemmas.{value-append}
use Rattle.it_tableau.specs.FieldOperations.{sum_to}
use Rattle.it_tableau.specs.SimplexTables.{SimplexTable, FeasibilityProblem}
use Rattle.it_engine.specs.Behind.{AreBaseBounds, AreMovedEntries, BoundsShares, column_less_moved, has_moved, IsCommonMultiple, IsFirstOf, LeavesStill, MayLeave, share_of, ShowsBehind, taken_terms}
use Rattle.it_whole.specs.ColumnTerms.{multiple_of_terms}
use Rattle.it_engine.specs.Choosing.{entry_of, is_above_zero}
use Rattle.it_engine.specs.Loading.{IsNorm}
use Rattle.it_engine.specs.PivotedRows.{IsFitting}
use Rattle.it_engine.specs.Tables.{whole_row_at}
use Rattle.it_whole.specs.WholeRows.{WholeRowView}
use Rattle.it_engine.proofs.BehindTables as T
use native.Mathlib.Nat.{div-mul_cancel}

value_of_multiple : (factor : ℤ) (terms : Terms) (f : ℕ → ℤ) → value (multiple_of_terms factor terms) f ≡ value terms f *ℤ factor
value_of_multiple factor [] f = omega (arith, ints)
value_of_multiple factor (t ∷ ts) f = ap (λ z. (t.1 *ℤ factor) *ℤ f t.0 +ℤ z) (value_of_multiple factor ts f)
    ∙ ring ring_ℤ (t.1 ∷ factor ∷ f t.0 ∷ value ts f ∷ []) (plus (times (times (v 0) (v 1)) (v 2)) (times (v 3) (v 1)))
    (times (plus (times (v 0) (v 2)) (v 3)) (v 1)) refl

within_multiple : (w : ℕ) (factor : ℤ) (terms : Terms) → All (λ t. t.0 < w) terms → All (λ t. t.0 < w) (multiple_of_terms factor terms)
within_multiple w factor [] a k d l = absurd (omega (arith, l))
within_multiple w factor (t ∷ ts) a zero d l = a zero t (omega arith)
within_multiple w factor (t ∷ ts) a (suc k) d l = within_multiple w factor ts (λ j s h. a (suc j) s (omega (arith, h))) k d (omega (arith, l))

value_of_share : (entry : ℤ) (share : ℕ) (d : Terms) (f : ℕ → ℤ) → value (multiple_of_terms (neg_ℤ (entry *ℤ pos share)) d) f
    ≡ neg_ℤ ((value d f *ℤ entry) *ℤ pos share)
value_of_share entry share d f = value_of_multiple (neg_ℤ (entry *ℤ pos share)) d f
    ∙ ring ring_ℤ (value d f ∷ entry ∷ pos share ∷ []) (times (v 0) (minus (times (v 1) (v 2)))) (minus (times (times (v 0) (v 1)) (v 2))) refl

value_of_taken : (entry : ℤ) (share : ℕ) (d : Terms) (f : ℕ → ℤ) → value (taken_terms entry share d) f ≡ neg_ℤ ((value d f *ℤ entry) *ℤ pos share)
value_of_taken (pos zero) share d f = ring ring_ℤ (value d f ∷ pos share ∷ []) nil (minus (times (times (v 0) nil) (v 1))) refl
value_of_taken (pos (suc n)) share d f = value_of_share (pos (suc n)) share d f
value_of_taken (negsuc n) share d f = value_of_share (negsuc n) share d f

within_taken : (w : ℕ) (entry : ℤ) (share : ℕ) (d : Terms) → All (λ t. t.0 < w) d → All (λ t. t.0 < w) (taken_terms entry share d)
within_taken w (pos zero) share d a = λ k t g. absurd (omega (arith, g))
within_taken w (pos (suc n)) share d a = within_multiple w (neg_ℤ (pos (suc n) *ℤ pos share)) d a
within_taken w (negsuc n) share d a = within_multiple w (neg_ℤ (negsuc n *ℤ pos share)) d a

module _ (columns : List Terms) (rows : List WholeRowView) (basis : List ℕ) (moved : List Bool) (entries : List ℤ) (multiple c : ℕ) where
  -- the value of the combined column
  abbrev less_sum : (ℕ → ℤ) → ℕ → ℤ
  less_sum f k = sum_to ring_ℤ k (λ q. cond (has_moved moved q)
      ((value (slice_index_or columns (slice_index_or basis q 0) []) f *ℤ number_at entries q) *ℤ pos (share_of multiple rows q)) (pos 0))

  pub combined_value : (f : ℕ → ℤ) (k : ℕ) → value (column_less_moved columns rows basis moved entries multiple c k) f
      ≡ value (slice_index_or columns c []) f *ℤ pos multiple +ℤ neg_ℤ (sum_to ring_ℤ k
      (λ q. cond (has_moved moved q) ((value (slice_index_or columns (slice_index_or basis q 0) []) f *ℤ number_at entries q) *ℤ pos
      (share_of multiple rows q)) (pos 0)))
  combined_value f zero = value_of_multiple (pos multiple) (slice_index_or columns c []) f
      ∙ ring ring_ℤ (value (slice_index_or columns c []) f ∷ pos multiple ∷ []) (times (v 0) (v 1))
      (plus (times (v 0) (v 1)) (minus nil)) refl
  combined_value f (suc k) = value-append (column_less_moved columns rows basis moved entries multiple c k)
      (cond (has_moved moved k) (taken_terms (number_at entries k) (share_of multiple rows k) d) []) f
      ∙ ap₂ (λ x y. x +ℤ y) (combined_value f k) (by_move (has_moved moved k))
      ∙ ring ring_ℤ (x ∷ less_sum f k ∷ cond (has_moved moved k) ((value d f *ℤ number_at entries k) *ℤ pos (share_of multiple rows k))
      (pos 0) ∷ []) (plus (plus (v 0) (minus (v 1))) (minus (v 2))) (plus (v 0) (minus (plus (v 2) (v 1)))) refl
    where
      d : Terms
      d = slice_index_or columns (slice_index_or basis k 0) []

      x : ℤ
      x = value (slice_index_or columns c []) f *ℤ pos multiple

      by_move : (b : Bool) → value (cond b (taken_terms (number_at entries k) (share_of multiple rows k) d) []) f
          ≡ neg_ℤ (cond b ((value d f *ℤ number_at entries k) *ℤ pos (share_of multiple rows k)) (pos 0))
      by_move true = value_of_taken (number_at entries k) (share_of multiple rows k) d f
      by_move false = omega (arith, ints)

  pub combined_within : (w limit : ℕ) → ((j : ℕ) → j < length columns → IsFitting w limit (slice_index_or columns j [])) → (k : ℕ)
      → All (λ t. t.0 < w) (column_less_moved columns rows basis moved entries multiple c k)
  combined_within w limit h zero = within_multiple w (pos multiple) (slice_index_or columns c []) (column_within c)
    where
      column_within : (j : ℕ) → All (λ t. t.0 < w) (slice_index_or columns j [])
      column_within j = by_cases (cases_lt j (length columns))
        where
          by_cases : (j < length columns) ⊎ (length columns ≤ j) → All (λ t. t.0 < w) (slice_index_or columns j [])
          by_cases (inl l) = (h j l).within
          by_cases (inr l) = subst (All (λ t. t.0 < w)) (sym (get_or_past columns j [] l)) (λ k d g. absurd (omega (arith, g)))
  combined_within w limit h (suc k) = All-append (λ (t : ℕ × ℤ). t.0 < w) (column_less_moved columns rows basis moved entries multiple c k)
      (cond (has_moved moved k) (taken_terms (number_at entries k) (share_of multiple rows k)
      (slice_index_or columns (slice_index_or basis k 0) [])) [])
      (combined_within w limit h k) (by_move (has_moved moved k))
    where
      column_within : (j : ℕ) → All (λ t. t.0 < w) (slice_index_or columns j [])
      column_within j = by_cases (cases_lt j (length columns))
        where
          by_cases : (j < length columns) ⊎ (length columns ≤ j) → All (λ t. t.0 < w) (slice_index_or columns j [])
          by_cases (inl l) = (h j l).within
          by_cases (inr l) = subst (All (λ t. t.0 < w)) (sym (get_or_past columns j [] l)) (λ k d g. absurd (omega (arith, g)))

      by_move : (b : Bool) → All (λ t. t.0 < w) (cond b (taken_terms (number_at entries k) (share_of multiple rows k)
          (slice_index_or columns (slice_index_or basis k 0) [])) [])
      by_move true = within_taken w (number_at entries k) (share_of multiple rows k) (slice_index_or columns (slice_index_or basis k 0) [])
          (column_within (slice_index_or basis k 0))
      by_move false = λ k d g. absurd (omega (arith, g))

  module _ (limit most low norm shares : ℕ) (is_norm : IsNorm columns norm) (enters : c < length columns)
      (entries_are : AreMovedEntries (slice_index_or columns c []) rows moved entries)
      (multiple_is : IsCommonMultiple rows moved (length basis) multiple)
      (bounds : BoundsShares norm rows (has_moved moved) (share_of multiple rows) (length basis) shares)
      (numbers_fit : norm * most * multiple + norm * most * shares < 2 ^ 63) (denominators_fit : low * multiple < 2 ^ 63)
      (base : AreBaseBounds most low rows moved (length basis))
      (height : length rows ≡ length basis + 1)
      (combined : Terms) (combined_is : combined ≡ column_less_moved columns rows basis moved entries multiple c (length basis)) where
    shares_whole : (q : ℕ) → q < length basis → has_moved moved q ≡ true → (whole_row_at rows q).denominator * share_of multiple rows q ≡ multiple
    shares_whole q l e = mul_comm (whole_row_at rows q).denominator (share_of multiple rows q)
        ∙ div-mul_cancel (whole_row_at rows q).denominator (multiple_is.each q l e)

    module _ (p : FeasibilityProblem Rational) (b t : SimplexTable Rational) (s : ShowsBehind p b t columns limit rows basis (has_moved moved)) where
      number_enters : (i : ℕ) → T.number_now p b t columns limit rows basis (has_moved moved) s i c
          ≡ value (slice_index_or columns c []) (number_at (whole_row_at rows i).numbers)
      number_enters i = ap (λ d. cond d (value (slice_index_or columns c []) (number_at (whole_row_at rows i).numbers))
          (number_at (whole_row_at rows i).numbers (c - length columns))) (lt-ltb c (length columns) enters)

      number_basic : (i q : ℕ) → q < length basis → has_moved moved q ≡ true
          → T.number_now p b t columns limit rows basis (has_moved moved) s i (t.basis q)
          ≡ value (slice_index_or columns (slice_index_or basis q 0) []) (number_at (whole_row_at rows i).numbers)
      number_basic i q l e = ap (λ d. cond d (value (slice_index_or columns (t.basis q) []) (number_at (whole_row_at rows i).numbers))
          (number_at (whole_row_at rows i).numbers (t.basis q - length columns))) (lt-ltb (t.basis q) (length columns) (s.entered q l e))
          ∙ ap (λ j. value (slice_index_or columns j []) (number_at (whole_row_at rows i).numbers)) (s.shows.basis_is q l)

      number_moved : (q : ℕ) → q < length basis → has_moved moved q ≡ true
          → number_at entries q ≡ T.number_now p b t columns limit rows basis (has_moved moved) s q c
      number_moved q l e = entries_are.each q (omega (arith, l, height))
          ∙ ap (λ d. cond d (entry_of (slice_index_or columns c []) rows q) (pos 0)) e ∙ sym (number_enters q)

      true_number_is : (i : ℕ) → i < length basis → cond (has_moved moved i) (number_at entries i) (entry_of combined rows i)
          ≡ T.true_number p b t columns limit rows basis (has_moved moved) s multiple (share_of multiple rows) multiple_is.some shares_whole i c
      true_number_is i l = by_move (has_moved moved i) refl
        where
          f : ℕ → ℤ
          f = number_at (whole_row_at rows i).numbers

          term_is : (q : ℕ) → q < length basis → (d : Bool) → has_moved moved q ≡ d
              → cond d ((value (slice_index_or columns (slice_index_or basis q 0) []) f *ℤ number_at entries q) *ℤ pos (share_of multiple rows q)) (pos 0)
              ≡ cond d ((T.number_now p b t columns limit rows basis (has_moved moved) s i
              (t.basis q) *ℤ T.number_now p b t columns limit rows basis (has_moved moved) s q c) *ℤ pos (share_of multiple rows q)) (pos 0)
          term_is q h true e = ap₂ (λ x y. (x *ℤ y) *ℤ pos (share_of multiple rows q)) (sym (number_basic i q h e)) (number_moved q h e)
          term_is q h false e = refl

          by_move : (d : Bool) → has_moved moved i ≡ d → cond d (number_at entries i) (entry_of combined rows i)
              ≡ cond d (T.number_now p b t columns limit rows basis (has_moved moved) s i c)
              (T.number_now p b t columns limit rows basis (has_moved moved) s i c *ℤ pos multiple
              +ℤ neg_ℤ (T.behind_sum p b t columns limit rows basis (has_moved moved) s multiple
              (share_of multiple rows) multiple_is.some shares_whole i c))
          by_move true e = number_moved i l e
          by_move false e = ap (λ ts. value ts f) combined_is ∙ combined_value f (length basis)
              ∙ ap₂ (λ x y. x *ℤ pos multiple +ℤ neg_ℤ y) (sym (number_enters i))
              (sum_same ring_ℤ (length basis) (λ q. cond (has_moved moved q)
              ((value (slice_index_or columns (slice_index_or basis q 0) []) f *ℤ number_at entries q) *ℤ pos
              (share_of multiple rows q)) (pos 0))
              (λ q. cond (has_moved moved q) ((T.number_now p b t columns limit rows basis (has_moved moved) s i
              (t.basis q) *ℤ T.number_now p b t columns limit rows basis (has_moved moved) s q c) *ℤ pos (share_of multiple rows q))
              (pos 0))
              (λ q h. term_is q h (has_moved moved q) refl))

    pub leaves_still : (r : ℕ) → IsFirstOf basis (MayLeave rows moved entries combined (length basis)) (length basis) (Some r)
        → LeavesStill columns limit rows basis moved c r
    leaves_still r g p b t s e =
        let row : r < length basis = g.within in
        let still : number_at (whole_row_at rows r).numbers (length basis) ≡ pos 0 = g.own.still in
        let above : is_above_zero (T.true_number p b t columns limit rows basis (has_moved moved) s multiple
        (share_of multiple rows) multiple_is.some shares_whole r c) ≡ true =
        ap is_above_zero (sym (true_number_is p b t s r row)) ∙ g.own.above in
        let first : (i : ℕ) → i < length basis → number_at (whole_row_at rows i).numbers (length basis) ≡ pos 0
        → is_above_zero (T.true_number p b t columns limit rows basis (has_moved moved) s multiple
        (share_of multiple rows) multiple_is.some shares_whole i c) ≡ true → slice_index_or basis r 0 ≤ slice_index_or basis i 0 =
        λ i l z a. g.before i l record { still = z; above = ap is_above_zero (true_number_is p b t s i l) ∙ a } in
        record {
          leaves = T.row_leaves p b t columns limit rows basis (has_moved moved) s multiple
              (share_of multiple rows) multiple_is.some shares_whole c r enters e row still above first;
          still = T.right_is_null p b t columns limit rows basis (has_moved moved) s multiple
              (share_of multiple rows) multiple_is.some shares_whole c r enters e row still above first;
          fits = T.step_fits_behind p b t columns limit rows basis (has_moved moved) s multiple
              (share_of multiple rows) multiple_is.some shares_whole c r enters e row still above first
              (T.table_is_short p b t columns limit rows basis (has_moved moved) s multiple
              (share_of multiple rows) multiple_is.some shares_whole norm most shares is_norm
              (λ i l f. (base i l f).0) bounds
              (λ i l f. let w = (base i l f).1 in let k = mul-le (whole_row_at rows i).denominator multiple low multiple w (omega arith)
              in omega (arith, k, denominators_fit))
              numbers_fit);
        }

    pub leaves_if_some : (o : Option ℕ) → IsFirstOf basis (MayLeave rows moved entries combined (length basis)) (length basis) o
        → IfSome o (LeavesStill columns limit rows basis moved c)
    leaves_if_some None g = tt
    leaves_if_some (Some r) g = leaves_still r g
