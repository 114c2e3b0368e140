-- The combined column weighs no more than the bounds on rows allow, so that its entries in rows that stay behind are short.
use Rattle.std.proofs.Common.{◌≡◌, ◌⊎◌, inl, inr, ℕ, zero, suc, ◌+◌, ◌*◌, ◌<◌, ◌≤◌, ◌^◌, ◌∷◌, Bool, true, false, cond, ℤ, pos, negsuc, ◌*ℤ◌, neg_ℤ, unsigned_abs, List, [], length, slice_index_or, sym, ap, ap₂, subst, ◌∙◌, arith}
use Rattle.std.proofs.lemmas.Bool.{cases_lt}
use Rattle.std.proofs.lemmas.Int.{unsigned_abs-mul}
use Rattle.std.proofs.lemmas.List.{get_or_past}
use Rattle.std.proofs.lemmas.Nat.{mul-le}
use Rattle.it_number.proofs.SignLemmas.{size_negated}
use Rattle.it_space.specs.Rows.{Terms, row_mass}
use Rattle.it_space.specs.Sums.{number_at}
use Rattle.it_space.proofs.TermLemmas.{mass-append}
use Rattle.it_vectors.specs.Sizes.{AreAtMost}
use Rattle.it_whole.specs.ColumnTerms.{multiple_of_terms, Suits}
use Rattle.it_whole.specs.WholeRows.{WholeRowView}
use Rattle.it_engine.specs.Behind.{AreBaseBounds, AreMovedEntries, BoundsShares, column_less_moved, has_moved, share_of, share_sum, SuitsBehind, taken_terms}
use Rattle.it_engine.specs.Choosing.{entry_of}
use Rattle.it_engine.specs.Loading.{IsNorm}
use Rattle.it_engine.specs.PivotedRows.{AreFitting, AreUsable}
use Rattle.it_engine.specs.Tables.{whole_row_at}
use Rattle.it_engine.proofs.BehindChoices.{combined_within}
use Rattle.it_engine.proofs.Generators.{value_bounded}

mass_of_multiple : (factor : ℤ) (terms : Terms) → row_mass (multiple_of_terms factor terms) ≡ row_mass terms * unsigned_abs factor
mass_of_multiple factor [] = omega arith
mass_of_multiple factor (t ∷ ts) = ap₂ (λ x y. x + y) (unsigned_abs-mul t.1 factor) (mass_of_multiple factor ts)
    ∙ in_one (unsigned_abs t.1) (row_mass ts) (unsigned_abs factor)
  where
    in_one : (x y f : ℕ) → x * f + y * f ≡ (x + y) * f
    in_one x y f = omega arith

mass_of_share : (entry : ℤ) (share : ℕ) (d : Terms) → row_mass (multiple_of_terms (neg_ℤ (entry *ℤ pos share)) d) ≡ row_mass d * (unsigned_abs entry * share)
mass_of_share entry share d = mass_of_multiple (neg_ℤ (entry *ℤ pos share)) d
    ∙ ap (λ x. row_mass d * x) (size_negated (entry *ℤ pos share) ∙ unsigned_abs-mul entry (pos share))

mass_of_taken : (entry : ℤ) (share : ℕ) (d : Terms) → row_mass (taken_terms entry share d) ≡ row_mass d * (unsigned_abs entry * share)
mass_of_taken (pos zero) share d = nothing (row_mass d) share
  where
    nothing : (x s : ℕ) → 0 ≡ x * (0 * s)
    nothing x s = omega arith
mass_of_taken (pos (suc n)) share d = mass_of_share (pos (suc n)) share d
mass_of_taken (negsuc n) share d = mass_of_share (negsuc n) share d

module _ (columns : List Terms) (rows : List WholeRowView) (basis : List ℕ) (moved : List Bool) (entries : List ℤ) (multiple c norm : ℕ)
    (is_norm : IsNorm columns norm) where
  column_mass : (j : ℕ) → row_mass (slice_index_or columns j []) ≤ norm
  column_mass j = by_cases (cases_lt j (length columns))
    where
      by_cases : (j < length columns) ⊎ (length columns ≤ j) → row_mass (slice_index_or columns j []) ≤ norm
      by_cases (inl l) = is_norm.bounds j l
      by_cases (inr l) = subst (λ (ts : Terms). row_mass ts ≤ norm) (sym (get_or_past columns j [] l)) (omega arith)

  abbrev shares_of : ℕ → ℕ
  shares_of = share_sum (has_moved moved) (λ q. unsigned_abs (number_at entries q)) (share_of multiple rows)

  mass_less : (k : ℕ) → row_mass (column_less_moved columns rows basis moved entries multiple c k) ≤ norm * multiple + norm * shares_of k
  mass_less zero = let w = mul-le (row_mass (slice_index_or columns c [])) multiple norm multiple (column_mass c) (omega arith) in
      let e = mass_of_multiple (pos multiple) (slice_index_or columns c []) in omega (arith, w, e)
  mass_less (suc k) = subst (λ (x : ℕ). x ≤ norm * multiple + norm * shares_of (suc k))
      (sym (mass-append (column_less_moved columns rows basis moved entries multiple c k)
      (cond (has_moved moved k) (taken_terms (number_at entries k) (share_of multiple rows k) d) [])))
      (by_move (has_moved moved k) (mass_less k))
    where
      d : Terms
      d = slice_index_or columns (slice_index_or basis k 0) []

      s : ℕ
      s = unsigned_abs (number_at entries k) * share_of multiple rows k

      by_move : (b : Bool) → row_mass (column_less_moved columns rows basis moved entries multiple c k) ≤ norm * multiple + norm * shares_of k
          → row_mass (column_less_moved columns rows basis moved entries multiple c k)
          + row_mass (cond b (taken_terms (number_at entries k) (share_of multiple rows k) d) [])
          ≤ norm * multiple + norm * (cond b s 0 + shares_of k)
      by_move false h = both_sides (row_mass (column_less_moved columns rows basis moved entries multiple c k)) (norm * multiple) norm (shares_of k) h
        where
          both_sides : (x y n r : ℕ) → x ≤ y + n * r → x + 0 ≤ y + n * (0 + r)
          both_sides x y n r h = omega (arith, h)
      by_move true h = with_one (row_mass (column_less_moved columns rows basis moved entries multiple c k))
          (row_mass (taken_terms (number_at entries k) (share_of multiple rows k) d)) (norm * multiple) norm s (shares_of k) h
          (subst (λ (x : ℕ). x ≤ norm * s) (sym (mass_of_taken (number_at entries k) (share_of multiple rows k) d))
          (mul-le (row_mass d) s norm s (column_mass (slice_index_or basis k 0)) (omega arith)))
        where
          with_one : (x t y n s r : ℕ) → x ≤ y + n * r → t ≤ n * s → x + t ≤ y + n * (s + r)
          with_one x t y n s r h k = omega (arith, h, k)

  module _ (limit most low shares : ℕ) (enters : c < length columns) (usable : AreUsable (length rows) limit rows)
      (fitting : AreFitting (length rows) limit columns)
      (entries_are : AreMovedEntries (slice_index_or columns c []) rows moved entries) (height : length rows ≡ length basis + 1)
      (bounds : BoundsShares norm rows (has_moved moved) (share_of multiple rows) (length basis) shares)
      (numbers_fit : norm * most * multiple + norm * most * shares < 2 ^ 63) (base : AreBaseBounds most low rows moved (length basis)) where
    entry_bounded : (q : ℕ) → q < length basis → has_moved moved q ≡ true → (l : ℕ) → AreAtMost (whole_row_at rows q).numbers l
        → unsigned_abs (number_at entries q) ≤ norm * l
    entry_bounded q h e l a =
        let here : q < length rows = omega (arith, h, height) in
        let is : number_at entries q ≡ entry_of (slice_index_or columns c []) rows q = entries_are.each q here
        ∙ ap (λ d. cond d (entry_of (slice_index_or columns c []) rows q) (pos 0)) e in
        let v = value_bounded (slice_index_or columns c []) (length rows) (number_at (whole_row_at rows q).numbers) l
        (fitting c enters).within (λ k g. a k (omega (arith, g, (usable q here).length_is))) in
        let w = mul-le (row_mass (slice_index_or columns c [])) l norm l (column_mass c) (omega arith) in
        subst (λ (z : ℤ). unsigned_abs z ≤ norm * l) (sym is) (omega (arith, v, w))

    -- the combined column suits the rows that stay behind
    pub combined_suits : (combined : Terms) → combined ≡ column_less_moved columns rows basis moved entries multiple c (length basis)
        → SuitsBehind combined rows moved (length basis)
    combined_suits combined e i l f = subst (λ (ts : Terms). Suits ts (whole_row_at rows i).numbers) (sym e) record {
      within = λ k d g. let w = combined_within columns rows basis moved entries multiple c (length rows) limit fitting (length basis) k d g
          in omega (arith, w, (usable i (omega (arith, l, height))).length_is);
      fits = (
        most,
        (base i l f).0,
        below (row_mass (column_less_moved columns rows basis moved entries multiple c (length basis))) norm multiple
            (shares_of (length basis)) shares most (mass_less (length basis))
            (bounds (number_at entries) entry_bounded) numbers_fit,
      );
    }
      where
        below : (x n u s t m : ℕ) → x ≤ n * u + n * s → s ≤ t → n * m * u + n * m * t < 2 ^ 63 → x * m < 2 ^ 63
        below x n u s t m h k g =
            let a : x * m ≤ (n * u + n * t) * m = mul-le x m (n * u + n * t) m (let b = mul-le n s n t (omega arith) k in omega (arith, h, b)) (omega arith) in
            let b : (n * u + n * t) * m ≡ n * m * u + n * m * t = omega arith in omega (arith, a, b, g)
