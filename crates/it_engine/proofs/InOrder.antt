-- Loops over the rows that moved, in their order.
use Rattle.std.proofs.Common.{◌≡◌, ◌⊎◌, inl, inr, ℕ, suc, ◌+◌, ◌<◌, ◌≤◌, Bool, false, true, cond, ℤ, pos, List, length, slice_index_or, slice_set, sym, ap, subst, ◌∙◌, arith}
use Rattle.std.proofs.lemmas.Bool.{cases_eq}
use Rattle.std.proofs.lemmas.List.{length-set, get_or-set_same, get_or-set_other}
use Rattle.it_space.specs.Rows.{Terms}
use Rattle.it_space.specs.Sums.{number_at}
use Rattle.it_whole.specs.WholeRows.{WholeRowView}
use Rattle.it_engine.specs.Behind.{after_rows, AreMovedEntries, AreMovedInOrder, has_moved}
use Rattle.it_engine.specs.Choosing.{entry_of}
use Rattle.it_engine.proofs.BehindNumbers.{past_still}

module _ (moved : List Bool) (height : ℕ) (order : List ℕ) (a : AreMovedInOrder moved height order) (P : ℕ → Type 0)
    (step : (q : ℕ) → has_moved moved q ≡ false → P q → P (q + 1)) where
  -- what holds of all rows before the next one that moved
  pub up_to_row : (k q : ℕ) → k < length order → q ≡ slice_index_or order k 0 → P (after_rows order k) → P q
  up_to_row k q l e h = subst P (sym e) (past_still moved height P step (after_rows order k) (slice_index_or order k 0) (a.each k l) h)

  -- what holds of all rows, when none that moved is left
  pub up_to_end : (k : ℕ) → length order ≤ k → k ≤ length order → P (after_rows order k) → P height
  up_to_end k l m h =
      let e : k ≡ length order = omega (arith, l, m) in
      past_still moved height P step (after_rows order (length order)) height a.last (subst (λ (j : ℕ). P (after_rows order j)) e h)

-- what holds of all rows up to one of the list is held after it
pub after_row : (order : List ℕ) (P : ℕ → Type 0) (k q : ℕ) → q ≡ slice_index_or order k 0 → P (q + 1) → P (after_rows order (k + 1))
after_row order P k q e h =
    let n : suc k ≡ k + 1 = omega arith in
    subst (λ (j : ℕ). P (after_rows order j)) n (subst (λ (j : ℕ). P (j + 1)) e h)

-- of the rows below k the entries at a column are noted where they moved, and all other entries are 0
pub record AreNotedBelow (terms : Terms) (rows : List WholeRowView) (moved : List Bool) (entries : List ℤ) (k : ℕ) : Type 0 where
  pub done : (j : ℕ) → j < k → number_at entries j ≡ cond (has_moved moved j) (entry_of terms rows j) (pos 0)
  pub rest : (j : ℕ) → k ≤ j → number_at entries j ≡ pos 0

module _ (terms : Terms) (rows : List WholeRowView) (moved : List Bool) where
  pub still_noted : (entries : List ℤ) (q : ℕ) → has_moved moved q ≡ false → AreNotedBelow terms rows moved entries q
      → AreNotedBelow terms rows moved entries (q + 1)
  still_noted entries q f h = record { done = λ j l. by_cases j l (cases_eq j q); rest = λ j l. h.rest j (omega (arith, l)) }
    where
      by_cases : (j : ℕ) → j < q + 1 → (j ≡ q) ⊎ (j ≡ q → ⊥) → number_at entries j ≡ cond (has_moved moved j) (entry_of terms rows j) (pos 0)
      by_cases j l (inl e) = h.rest j (omega (arith, e)) ∙ ap (λ d. cond d (entry_of terms rows j) (pos 0)) (sym f ∙ ap (has_moved moved) (sym e))
      by_cases j l (inr d) = h.done j (omega (arith, l, d))

  one_noted : (entries : List ℤ) (q : ℕ) (z : ℤ) → q < length entries → z ≡ cond (has_moved moved q) (entry_of terms rows q) (pos 0)
      → AreNotedBelow terms rows moved entries q → AreNotedBelow terms rows moved (slice_set entries q z) (q + 1)
  one_noted entries q z l e h = record {
    done = λ j m. by_cases j m (cases_eq j q);
    rest = λ j m. get_or-set_other entries q j z (pos 0)
        (λ w. omega (arith, w, m)) ∙ h.rest j (omega (arith, m));
  }
    where
      by_cases : (j : ℕ) → j < q + 1 → (j ≡ q) ⊎ (j ≡ q → ⊥) → number_at (slice_set entries q z) j ≡ cond (has_moved moved j) (entry_of terms rows j) (pos 0)
      by_cases j m (inl w) = ap (number_at (slice_set entries q z)) w ∙ get_or-set_same entries q z (pos 0) l ∙ e
          ∙ ap (λ k. cond (has_moved moved k) (entry_of terms rows k) (pos 0)) (sym w)
      by_cases j m (inr d) = get_or-set_other entries q j z (pos 0) d ∙ h.done j (omega (arith, m, d))

  -- the entry of a row that moved
  pub moved_noted : (entries : List ℤ) (q : ℕ) (z : ℤ) → q < length entries → has_moved moved q ≡ true → z ≡ entry_of terms rows q
      → AreNotedBelow terms rows moved entries q → AreNotedBelow terms rows moved (slice_set entries q z) (q + 1)
  moved_noted entries q z l f e h = one_noted entries q z l (e ∙ ap (λ d. cond d (entry_of terms rows q) (pos 0)) (sym f)) h

  -- and last that of the cost row
  pub all_noted : (entries : List ℤ) (height : ℕ) (z : ℤ) → length entries ≡ length rows → length rows ≡ height + 1
      → z ≡ cond (has_moved moved height) (entry_of terms rows height) (pos 0)
      → AreNotedBelow terms rows moved entries height → AreMovedEntries terms rows moved (slice_set entries height z)
  all_noted entries height z l m e h = let a = one_noted entries height z (omega (arith, l, m)) e h in
      record { length_is = length-set entries height z ∙ l; each = λ i k. a.done i (omega (arith, k, m)) }
