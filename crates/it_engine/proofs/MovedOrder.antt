-- The list of the rows that moved, and their basic columns.
use Rattle.std.proofs.Common.{◌≡◌, ◌≢◌, ◌⊎◌, inl, inr, ℕ, zero, suc, ◌+◌, ◌<◌, ◌≤◌, Bool, true, false, List, length, slice_index_or, slice_set, refl, sym, ap, subst, ◌∙◌, arith}
use Rattle.std.specs.List.{insert}
use Rattle.std.proofs.lemmas.Bool.{cases_lt, cases_eq}
use Rattle.std.proofs.lemmas.List.{get_or_default, get_or_past, length-set, get_or-set_same, get_or-set_other}
use Rattle.std.proofs.lemmas.List.Edits.{get_or-insert_above, get_or-insert_at, get_or-insert_below, length-insert}
use Rattle.it_space.specs.Rows.{Terms}
use Rattle.it_engine.specs.Behind.{after_rows, AreMovedInOrder, has_moved, HaveEntered, IsNextMoved}

-- where element k of a list with one more comes from: from before the place, the place itself, or from after it
abbrev pub IsFrom : List ℕ → ℕ → ℕ → ℕ → Type 0
IsFrom xs place x k = ((k < place) × (slice_index_or (insert xs place x) k 0 ≡ slice_index_or xs k 0))
    ⊎ (((k ≡ place) × (slice_index_or (insert xs place x) k 0 ≡ x))
    ⊎ ((j : ℕ) × (suc j ≡ k) × (place ≤ j) × (j < length xs) × (slice_index_or (insert xs place x) k 0 ≡ slice_index_or xs j 0)))

pub comes_from : (xs : List ℕ) (place x : ℕ) → place ≤ length xs → (k : ℕ) → k < length (insert xs place x) → IsFrom xs place x k
comes_from xs place x here k l = by_order k (let n = length-insert xs place x here in omega (arith, l, n)) (cases_lt k place)
  where
    by_equality : (k : ℕ) → place ≤ k → k ≤ length xs → (k ≡ place) ⊎ (k ≡ place → ⊥) → IsFrom xs place x k
    by_equality k m w (inl e) = inr (inl (e, ap (λ i. slice_index_or (insert xs place x) i 0) e ∙ get_or-insert_at xs place x 0 here))
    by_equality zero m w (inr d) = absurd (omega (arith, m, d))
    by_equality (suc k) m w (inr d) =
        let on : suc k ≡ k + 1 = omega arith in
        inr (inr (
          k,
          refl,
          omega (arith, m, d),
          omega (arith, w),
          ap (λ i. slice_index_or (insert xs place x) i 0) on
              ∙ get_or-insert_above xs place x 0 k (omega (arith, m, d)) here,
        ))

    by_order : (k : ℕ) → k ≤ length xs → (k < place) ⊎ (place ≤ k) → IsFrom xs place x k
    by_order k w (inl m) = inl (m, get_or-insert_below xs place x 0 k m here)
    by_order k w (inr m) = by_equality k m w (cases_eq k place)

-- what holds of each element and of one more
pub each_inserted : (xs : List ℕ) (place x : ℕ) → place ≤ length xs → (P : ℕ → Type 0) → P x
    → ((k : ℕ) → k < length xs → P (slice_index_or xs k 0)) → (k : ℕ) → k < length (insert xs place x)
    → P (slice_index_or (insert xs place x) k 0)
each_inserted xs place x here P own each k l = by_origin (comes_from xs place x here k l)
  where
    by_origin : IsFrom xs place x k → P (slice_index_or (insert xs place x) k 0)
    by_origin (inl a) = subst P (sym a.1) (each k (omega (arith, a.0, here)))
    by_origin (inr (inl a)) = subst P (sym a.1) own
    by_origin (inr (inr a)) = subst P (sym a.4) (each a.0 a.3)

-- the gap before each row of a list and the one after them all, from the first row of it up to the first one after it
abbrev pub AreGaps : List Bool → ℕ → List ℕ → Type 0
AreGaps moved height order = (k : ℕ) → k ≤ length order → IsNextMoved moved height (after_rows order k) (slice_index_or order k height)

-- a list of the rows that moved has gaps
pub gaps_of_order : (moved : List Bool) (height : ℕ) (order : List ℕ) → AreMovedInOrder moved height order → AreGaps moved height order
gaps_of_order moved height order h k l = by_order (cases_lt k (length order))
  where
    by_order : (k < length order) ⊎ (length order ≤ k) → IsNextMoved moved height (after_rows order k) (slice_index_or order k height)
    by_order (inl j) = subst (IsNextMoved moved height (after_rows order k)) (get_or_default order k 0 height j) (h.each k j)
    by_order (inr j) =
        let e : length order ≡ k = omega (arith, l, j) in
        subst (IsNextMoved moved height (after_rows order k)) (sym (get_or_past order k height j))
        (subst (λ (x : ℕ). IsNextMoved moved height (after_rows order x) height) e h.last)

-- and one with gaps is a list of the rows that moved
pub order_of_gaps : (moved : List Bool) (height : ℕ) (order : List ℕ) → ((k : ℕ) → k < length order → slice_index_or order k 0 < height)
    → ((k : ℕ) → k < length order → has_moved moved (slice_index_or order k 0) ≡ true)
    → AreGaps moved height order → AreMovedInOrder moved height order
order_of_gaps moved height order w m g = record {
  within = w;
  own = m;
  each = λ k l. subst (IsNextMoved moved height (after_rows order k)) (get_or_default order k height 0 l) (g k (omega (arith, l)));
  last =
      let l : length order ≤ length order = omega arith in
      subst (IsNextMoved moved height (after_rows order (length order))) (get_or_past order (length order) height l) (g (length order) l);
}

-- later gaps begin later
pub gaps_ascend : (moved : List Bool) (height : ℕ) (order : List ℕ) → AreMovedInOrder moved height order → (k j : ℕ) → k ≤ j
    → j ≤ length order → after_rows order k ≤ after_rows order j
gaps_ascend moved height order h k zero l w = let e : k ≡ 0 = omega (arith, l) in subst (λ (x : ℕ). after_rows order x ≤ 0) (sym e) (omega arith)
gaps_ascend moved height order h k (suc j) l w = by_order (cases_lt j k) (λ m. gaps_ascend moved height order h k j m (omega (arith, w)))
  where
    by_order : (j < k) ⊎ (k ≤ j) → (k ≤ j → after_rows order k ≤ after_rows order j) → after_rows order k ≤ slice_index_or order j 0 + 1
    by_order (inl m) up = let e : k ≡ suc j = omega (arith, l, m) in subst (λ (x : ℕ). after_rows order x ≤ slice_index_or order j 0 + 1) (sym e) (omega arith)
    by_order (inr m) up =
        let here : j < length order = omega (arith, w) in
        let below = up m in
        let next = (h.each j here).after in
        omega (arith, below, next)

-- where row r moves as well, each row that moved still has
still_moved : (moved : List Bool) (r : ℕ) → r < length moved → (q : ℕ) → has_moved moved q ≡ true → has_moved (slice_set moved r true) q ≡ true
still_moved moved r here q h = by_equality (cases_eq q r)
  where
    by_equality : (q ≡ r) ⊎ (q ≡ r → ⊥) → has_moved (slice_set moved r true) q ≡ true
    by_equality (inl e) = ap (has_moved (slice_set moved r true)) e ∙ get_or-set_same moved r true false here
    by_equality (inr d) = get_or-set_other moved r q true false d ∙ h

-- where column c enters in row r, the basic columns of the rows that moved still entered
pub still_entered : (columns : List Terms) (basis : List ℕ) (moved : List Bool) (r c : ℕ) → r < length basis → c < length columns
    → HaveEntered columns basis moved → HaveEntered columns (slice_set basis r c) (slice_set moved r true)
still_entered columns basis moved r c row enters h q l m = by_equality (cases_eq q r)
  where
    by_equality : (q ≡ r) ⊎ (q ≡ r → ⊥) → slice_index_or (slice_set basis r c) q 0 < length columns
    by_equality (inl e) = subst (λ (x : ℕ). x < length columns) (sym
        (ap (λ i. slice_index_or (slice_set basis r c) i 0) e ∙ get_or-set_same basis r c 0 row)) enters
    by_equality (inr d) = subst (λ (x : ℕ). x < length columns) (sym (get_or-set_other basis r q c 0 d))
        (h q (omega (arith, l, length-set basis r c)) (sym (get_or-set_other moved r q true false d) ∙ m))

-- where row r moves as well, a gap that doesn't hold it stays one
pub gap_stays : (moved : List Bool) (height r from to : ℕ) → IsNextMoved moved height from to → ((q : ℕ) → from ≤ q → q < to → q ≢ r)
    → IsNextMoved (slice_set moved r true) height from to
gap_stays moved height r from to g d = record {
  after = g.after;
  within = g.within;
  still = λ q f l. get_or-set_other moved r q true false (d q f l) ∙ g.still q f l;
}

-- a part of a gap that doesn't hold row r
pub part_stays : (moved : List Bool) (height r from to start end : ℕ) → IsNextMoved moved height from to → from ≤ start → start ≤ end
    → end ≤ to → ((q : ℕ) → start ≤ q → q < end → q ≢ r)
    → IsNextMoved (slice_set moved r true) height start end
part_stays moved height r from to start end g a b c d = gap_stays moved height r start end record {
  after = b;
  within = omega (arith, c, g.within);
  still = λ q f l. g.still q (omega (arith, a, f)) (omega (arith, l, c));
} d

module _ (moved : List Bool) (height r place : ℕ) (order : List ℕ) (row : r < length moved) (here : place ≤ length order)
    (before : (k : ℕ) → k < place → slice_index_or order k 0 < r) (h : AreMovedInOrder moved height order) where
  -- before the place gaps begin at r or before it
  begins_before : (k : ℕ) → k ≤ place → after_rows order k ≤ r
  begins_before zero l = omega arith
  begins_before (suc k) l = let b = before k (omega (arith, l)) in omega (arith, b)

  -- a list with row r in it
  pub stands_in_order : place < length order → slice_index_or order place 0 ≡ r → AreMovedInOrder (slice_set moved r true) height order
  stands_in_order l e = order_of_gaps (slice_set moved r true) height order h.within
      (λ k w. still_moved moved r row (slice_index_or order k 0) (h.own k w))
      (λ k w. gap_stays moved height r (after_rows order k) (slice_index_or order k height) (gaps_of_order moved height order h k w)
      (row_is_outside k w (cases_lt place k)))
    where
      row_is_outside : (k : ℕ) → k ≤ length order → (place < k) ⊎ (k ≤ place) → (q : ℕ) → after_rows order k ≤ q → q < slice_index_or order k height → q ≢ r
      row_is_outside k w (inl m) q f g = λ x. let up = gaps_ascend moved height order h (suc place) k (omega (arith, m)) w in omega (arith, up, e, f, x)
      row_is_outside k w (inr m) q f g = λ x.
          let in_list : k < length order = omega (arith, m, l) in
          let up = gaps_ascend moved height order h (suc k) (suc place) (omega (arith, m)) (omega (arith, l)) in
          let same = get_or_default order k height 0 in_list in
          omega (arith, up, e, g, x, same)

  module _ (low : r < height) (above : place < length order → r < slice_index_or order place 0) where
    -- the gaps before the place begin where they began
    begins_there : (k : ℕ) → k ≤ place → after_rows (insert order place r) k ≡ after_rows order k
    begins_there zero l = refl
    begins_there (suc k) l = ap (λ x. x + 1) (get_or-insert_below order place r 0 k (omega (arith, l)) here)

    -- r is in the gap at the place
    ends_after : r < slice_index_or order place height
    ends_after = by_order (cases_lt place (length order))
      where
        by_order : (place < length order) ⊎ (length order ≤ place) → r < slice_index_or order place height
        by_order (inl l) = subst (λ (x : ℕ). r < x) (get_or_default order place 0 height l) (above l)
        by_order (inr l) = subst (λ (x : ℕ). r < x) (sym (get_or_past order place height l)) low

    gap_there : (k : ℕ) → k ≤ length order → IsNextMoved moved height (after_rows order k) (slice_index_or order k height)
    gap_there = gaps_of_order moved height order h

    gap_before : (k : ℕ) → k < place → IsNextMoved (slice_set moved r true) height (after_rows (insert order place r) k)
        (slice_index_or (insert order place r) k height)
    gap_before k l =
        let in_list : k < length order = omega (arith, l, here) in
        let same = get_or_default order k height 0 in_list in
        let b = before k l in
        subst (λ (x : ℕ). IsNextMoved (slice_set moved r true) height x (slice_index_or (insert order place r) k height))
        (sym (begins_there k (omega (arith, l))))
        (subst (IsNextMoved (slice_set moved r true) height (after_rows order k)) (sym (get_or-insert_below order place r height k l here))
        (gap_stays moved height r (after_rows order k) (slice_index_or order k height) (gap_there k (omega (arith, in_list)))
        (λ q f g x. omega (arith, g, same, b, x))))

    gap_at : IsNextMoved (slice_set moved r true) height (after_rows (insert order place r) place) (slice_index_or (insert order place r) place height)
    gap_at =
        let l : place ≤ place = omega arith in
        let e = ends_after in
        subst (λ (x : ℕ). IsNextMoved (slice_set moved r true) height x (slice_index_or (insert order place r) place height)) (sym (begins_there place l))
        (subst (IsNextMoved (slice_set moved r true) height (after_rows order place)) (sym (get_or-insert_at order place r height here))
        (part_stays moved height r (after_rows order place) (slice_index_or order place height) (after_rows order place) r
        (gap_there place here) (omega arith) (begins_before place l) (omega (arith, e)) (λ q f g x. omega (arith, g, x))))

    gap_after : (k : ℕ) → place ≤ k → k ≤ length order
        → IsNextMoved (slice_set moved r true) height (after_rows (insert order place r) (suc k))
        (slice_index_or (insert order place r) (suc k) height)
    gap_after k l w =
        let on : k + 1 ≡ suc k = omega arith in
        subst (IsNextMoved (slice_set moved r true) height (slice_index_or (insert order place r) k 0 + 1))
        (sym (get_or-insert_above order place r height k l here) ∙ ap (λ x. slice_index_or (insert order place r) x height) on)
        (by_order k l w (cases_lt place k))
      where
        by_order : (k : ℕ) → place ≤ k → k ≤ length order → (place < k) ⊎ (k ≤ place)
            → IsNextMoved (slice_set moved r true) height (slice_index_or (insert order place r) k 0 + 1) (slice_index_or order k height)
        by_order k l w (inr m) =
            let at : place ≡ k = omega (arith, l, m) in
            let e = ends_after in
            let b = begins_before place (omega arith) in
            subst (λ (x : ℕ). IsNextMoved (slice_set moved r true) height (slice_index_or (insert order place r) x 0 + 1) (slice_index_or order x height)) at
            (subst (λ (x : ℕ). IsNextMoved (slice_set moved r true) height (x + 1) (slice_index_or order place height))
            (sym (get_or-insert_at order place r 0 here))
            (part_stays moved height r (after_rows order place) (slice_index_or order place height) (r + 1)
            (slice_index_or order place height) (gap_there place here) (omega (arith, b)) (omega (arith, e)) (omega arith)
            (λ q f g x. omega (arith, f, x))))
        by_order zero l w (inl m) = absurd (omega (arith, m))
        by_order (suc k) l w (inl m) =
            let on : k + 1 ≡ suc k = omega arith in
            let up = gaps_ascend moved height order h (suc place) (suc k) (omega (arith, m)) w in
            let b = above (omega (arith, m, w)) in
            subst (λ (x : ℕ). IsNextMoved (slice_set moved r true) height (x + 1) (slice_index_or order (suc k) height))
            (sym (get_or-insert_above order place r 0 k (omega (arith, m)) here) ∙ ap (λ x. slice_index_or (insert order place r) x 0) on)
            (gap_stays moved height r (after_rows order (suc k)) (slice_index_or order (suc k) height) (gap_there (suc k) w)
            (λ q f g x. omega (arith, up, b, f, x)))

    -- row r is inserted into the list
    pub inserted_in_order : AreMovedInOrder (slice_set moved r true) height (insert order place r)
    inserted_in_order = order_of_gaps (slice_set moved r true) height (insert order place r) (each_inserted order place r here (λ x. x < height) low h.within)
        (each_inserted order place r here (λ x. has_moved (slice_set moved r true) x ≡ true) (get_or-set_same moved r true false row)
        (λ k w. still_moved moved r row (slice_index_or order k 0) (h.own k w)))
        (λ k w. by_order k (let n = length-insert order place r here in omega (arith, w, n)) (cases_lt k place))
      where
        by_equality : (k : ℕ) → place ≤ k → k ≤ length order + 1 → (k ≡ place) ⊎ (k ≡ place → ⊥)
            → IsNextMoved (slice_set moved r true) height (after_rows (insert order place r) k) (slice_index_or (insert order place r) k height)
        by_equality k m w (inl e) = subst (λ (x : ℕ). IsNextMoved (slice_set moved r true) height (after_rows (insert order place r) x)
            (slice_index_or (insert order place r) x height)) (sym e) gap_at
        by_equality zero m w (inr d) = absurd (omega (arith, m, d))
        by_equality (suc k) m w (inr d) = gap_after k (omega (arith, m, d)) (omega (arith, w))

        by_order : (k : ℕ) → k ≤ length order + 1 → (k < place) ⊎ (place ≤ k)
            → IsNextMoved (slice_set moved r true) height (after_rows (insert order place r) k)
            (slice_index_or (insert order place r) k height)
        by_order k w (inl m) = gap_before k m
        by_order k w (inr m) = by_equality k m w (cases_eq k place)

-- row r is noted
pub noted_in_order : (moved : List Bool) (r place : ℕ) (order new : List ℕ) → r < length moved → place ≤ length order
    → ((k : ℕ) → k < place → slice_index_or order k 0 < r) → (place < length order → r ≤ slice_index_or order place 0)
    → (place < length order → ¬ (slice_index_or order place 0 ≡ r)) → new ≡ insert order place r
    → (height : ℕ) → r < height → AreMovedInOrder moved height order → AreMovedInOrder (slice_set moved r true) height new
noted_in_order moved r place order new row here before after other e height low h = subst (AreMovedInOrder (slice_set moved r true) height) (sym e)
    (inserted_in_order moved height r place order row here before h low (λ l. let a = after l in let d = other l in omega (arith, a, d)))
