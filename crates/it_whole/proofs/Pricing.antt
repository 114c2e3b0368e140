-- The sum of a column's terms at the numbers of a row, term by term, and without products at a column of submodularity.
use Rattle.std.proofs.Common.{◌≡◌, ℕ, suc, ◌+◌, ◌*◌, ◌<◌, ◌≤◌, ◌^◌, ℤ, pos, negsuc, neg_ℤ, ◌+ℤ◌, ◌*ℤ◌, unsigned_abs, List, [], ◌∷◌, All, length, drop, slice_index_or, sym, ap, subst, ◌∙◌, arith}
use Rattle.std.proofs.lemmas.Int.{ints, unsigned_abs-mul}
use Rattle.std.proofs.lemmas.Nat.{mul-le}
use Rattle.std.proofs.Math.Seq.{drop-cons}
use Rattle.std.proofs.Math.IntN.{+ℤ_assoc}
use Rattle.it_space.specs.Rows.{Terms, value, row_mass}
use Rattle.it_space.specs.Sums.{number_at}
use Rattle.it_whole.specs.ColumnTerms.{IsPriceable, IsSubmodular, Suits}
use Rattle.it_whole.specs.Combinations.{IsPriced}

module _ (terms : Terms) (numbers : List ℤ) (i : ℕ) (h : i < length terms) (w : All (λ t. t.0 < length numbers) terms) where
  term_is_first : drop i terms ≡ slice_index_or terms i (0, pos 0) ∷ drop (suc i) terms
  term_is_first = drop-cons terms i (0, pos 0) h

  step_small : (limit : ℕ) → ((k : ℕ) → k < length numbers → unsigned_abs (number_at numbers k) ≤ limit)
      → unsigned_abs ((slice_index_or terms i (0, pos 0)).1 *ℤ number_at numbers (slice_index_or terms i (0, pos 0)).0)
      ≤ unsigned_abs (slice_index_or terms i (0, pos 0)).1 * limit
  step_small limit l =
      let t = slice_index_or terms i (0, pos 0) in
      subst (λ k. k ≤ unsigned_abs t.1 * limit) (sym (unsigned_abs-mul t.1 (number_at numbers t.0)))
      (mul-le (unsigned_abs t.1) (unsigned_abs (number_at numbers t.0)) (unsigned_abs t.1) limit (at_most_itself (unsigned_abs t.1)) (l t.0 (w i (0, pos 0) h)))
    where
      at_most_itself : (k : ℕ) → k ≤ k
      at_most_itself k = omega arith

  pub priced_more : (sum : ℤ) → IsPriced terms numbers i sum
      → IsPriced terms numbers (i + 1) (sum +ℤ (slice_index_or terms i (0, pos 0)).1 *ℤ number_at numbers
      (slice_index_or terms i (0, pos 0)).0)
  priced_more sum p = subst (λ (k : ℕ). IsPriced terms numbers k (sum +ℤ (slice_index_or terms i (0, pos 0)).1 *ℤ number_at numbers
      (slice_index_or terms i (0, pos 0)).0)) next_index record {
        value_is = let t = slice_index_or terms i (0, pos 0)
            in +ℤ_assoc sum (t.1 *ℤ number_at numbers t.0) (value (drop (suc i) terms) (number_at numbers))
            ∙ ap (λ ts. sum +ℤ value ts (number_at numbers)) (sym term_is_first) ∙ p.value_is;
        small = λ limit l. let t = slice_index_or terms i (0, pos 0) in
            sum_stays_within sum (t.1 *ℤ number_at numbers t.0) (unsigned_abs t.1) (row_mass (drop (suc i) terms)) limit
            (row_mass terms * limit) (step_small limit l)
            (subst (λ (ts : Terms). unsigned_abs sum + row_mass ts * limit ≤ row_mass terms * limit) term_is_first (p.small limit l));
      }
    where
      next_index : suc i ≡ i + 1
      next_index = omega arith

      sum_stays_within : (x y : ℤ) (a b l top : ℕ) → unsigned_abs y ≤ a * l → unsigned_abs x + (a + b) * l ≤ top → unsigned_abs (x +ℤ y) + b * l ≤ top
      sum_stays_within x y a b l top h k = omega (arith, ints, h, k)

  pub priced_small : (sum : ℤ) → IsPriceable terms numbers → IsPriced terms numbers i sum
      → unsigned_abs sum + unsigned_abs ((slice_index_or terms i (0, pos 0)).1 *ℤ number_at numbers (slice_index_or terms i (0, pos 0)).0) < 2 ^ 63
  priced_small sum f p =
      let t = slice_index_or terms i (0, pos 0) in
      sum_is_short (unsigned_abs sum) (unsigned_abs (t.1 *ℤ number_at numbers t.0)) (unsigned_abs t.1) (row_mass (drop (suc i) terms)) f.0
      (row_mass terms * f.0) (step_small f.0 f.1)
      (subst (λ (ts : Terms). unsigned_abs sum + row_mass ts * f.0 ≤ row_mass terms * f.0) term_is_first (p.small f.0 f.1)) f.2
    where
      sum_is_short : (x y a b l top : ℕ) → y ≤ a * l → x + (a + b) * l ≤ top → top < 2 ^ 63 → x + y < 2 ^ 63
      sum_is_short x y a b l top h k m = omega (arith, h, k, m)

pub priced_none : (terms : Terms) (numbers : List ℤ) → IsPriced terms numbers 0 (pos 0)
priced_none terms numbers = record { value_is = omega (arith, ints); small = λ limit l. omega arith }

pub priced_all : (terms : Terms) (numbers : List ℤ) (i : ℕ) (sum : ℤ) → i ≡ length terms → IsPriced terms numbers i sum → sum ≡ value terms (number_at numbers)
priced_all terms numbers i sum e p = empty_value sum (drop i terms) (no_terms_left terms i e) ∙ p.value_is
  where
    no_terms_left : (ts : Terms) (i : ℕ) → i ≡ length ts → drop i ts ≡ []
    no_terms_left ts i e = grind (arith, Rattle.std.proofs.lemmas.Grind.common_steps)

    empty_value : (x : ℤ) (ts : Terms) → ts ≡ [] → x ≡ x +ℤ value ts (number_at numbers)
    empty_value x ts e = subst (λ (ts : Terms). x ≡ x +ℤ value ts (number_at numbers)) (sym e) (omega (arith, ints))

module _ (terms : Terms) (numbers : List ℤ) (s : IsSubmodular terms) where
  abbrev term : ℕ → ℕ × ℤ
  term i = slice_index_or terms i (0, pos 0)

  abbrev pub number : ℕ → ℤ
  number i = number_at numbers (term i).0

  all_terms : terms ≡ term 0 ∷ term 1 ∷ term 2 ∷ term 3 ∷ []
  all_terms = terms_of_four terms s.four
    where
      terms_of_four : (ts : Terms) → length ts ≡ 4
          → ts ≡ slice_index_or ts 0 (0, pos 0) ∷ slice_index_or ts 1 (0, pos 0) ∷ slice_index_or ts 2 (0, pos 0) ∷ slice_index_or ts 3 (0, pos 0) ∷ []
      terms_of_four ts e = grind (arith, Rattle.std.proofs.lemmas.Grind.common_steps)

  pub submodular_value : number 1 +ℤ number 2 +ℤ neg_ℤ (number 0 +ℤ number 3) ≡ value terms (number_at numbers)
  submodular_value = sym (value_at_units (term 0).1 (term 1).1 (term 2).1 (term 3).1 (number 0) (number 1) (number 2)
      (number 3) s.first s.second s.third s.fourth)
      ∙ ap (λ ts. value ts (number_at numbers)) (sym all_terms)
    where
      value_at_units : (a b c d w x y z : ℤ) → a ≡ negsuc 0 → b ≡ pos 1 → c ≡ pos 1 → d ≡ negsuc 0
          → a *ℤ w +ℤ (b *ℤ x +ℤ (c *ℤ y +ℤ (d *ℤ z +ℤ pos 0))) ≡ x +ℤ y +ℤ neg_ℤ (w +ℤ z)
      value_at_units a b c d w x y z e f g h = rw (e, f, g, h) (omega (arith, ints))

  mass_is_four : row_mass terms ≡ 4
  mass_is_four = ap row_mass all_terms ∙ mass_of_units (term 0).1 (term 1).1 (term 2).1 (term 3).1 s.first s.second s.third s.fourth
    where
      mass_of_units : (a b c d : ℤ) → a ≡ negsuc 0 → b ≡ pos 1 → c ≡ pos 1 → d ≡ negsuc 0
          → unsigned_abs a + (unsigned_abs b + (unsigned_abs c + (unsigned_abs d + 0))) ≡ 4
      mass_of_units a b c d e f g h = omega (arith, ints, e, f, g, h)

  number_small : (limit : ℕ) → ((k : ℕ) → k < length numbers → unsigned_abs (number_at numbers k) ≤ limit) → All (λ t. t.0 < length numbers) terms
      → (i : ℕ) → i < 4 → unsigned_abs (number i) ≤ limit
  number_small limit l w i h = l (term i).0 (w i (0, pos 0) (subst (λ (k : ℕ). i < k) (sym s.four) h))

  pub submodular_small : Suits terms numbers → unsigned_abs (number 1) + unsigned_abs (number 2) + (unsigned_abs (number 0) + unsigned_abs (number 3)) < 2 ^ 63
  submodular_small t =
      let small = number_small t.fits.0 t.fits.1 t.within in
      sum_is_short (unsigned_abs (number 0)) (unsigned_abs (number 1)) (unsigned_abs (number 2)) (unsigned_abs (number 3)) t.fits.0
      (small 0 (omega arith)) (small 1 (omega arith)) (small 2 (omega arith)) (small 3 (omega arith))
      (subst (λ (m : ℕ). m * t.fits.0 < 2 ^ 63) mass_is_four t.fits.2)
    where
      sum_is_short : (w x y z l : ℕ) → w ≤ l → x ≤ l → y ≤ l → z ≤ l → 4 * l < 2 ^ 63 → x + y + (w + z) < 2 ^ 63
      sum_is_short w x y z l e f g h m = omega (arith, e, f, g, h, m)
