-- The rows with right side 0 by ascending basic column, and the first of the rows that may leave.
use Rattle.std.proofs.Common.{◌≡◌, ◌≢◌, ◌⊎◌, inl, inr, ℕ, ◌+◌, ◌<◌, ◌≤◌, Bool, true, false, cond, ℤ, pos, List, length, slice_index_or, slice_set, Option, Some, None, IfSome, refl, sym, ap, subst, ◌∙◌, arith}
use Rattle.std.specs.List.{All}
use Rattle.std.specs.List.Sorted.{IsNonDecreasingBy, IsPermutation}
use Rattle.std.proofs.lemmas.Bool.{cases_lt, cases_eq, true≢false}
use Rattle.std.proofs.lemmas.List.{get_or_default, length-set, get_or-set_same, get_or-set_other}
use Rattle.std.proofs.lemmas.List.Sorted.{All-permutation, Contains-permutation}
use Rattle.it_space.specs.Rows.{Terms}
use Rattle.it_space.specs.Sums.{number_at}
use Rattle.it_engine.specs.Behind.{AreRanked, AreStillRows, ComesBefore, has_moved, HasZeroRatio, IsBehindStep, IsFirstOf, MayLeave}
use Rattle.it_engine.specs.Choosing.{entry_of, is_above_zero, right_side_of}
use Rattle.it_whole.specs.WholeRows.{WholeRowView}

-- the best row comes before each row whose basic column isn't below that of one that it comes before
pub before_later : (basis : List ℕ) (best : Option ℕ) (i j : ℕ) → ComesBefore basis best i
    → slice_index_or basis i 0 ≤ slice_index_or basis j 0 → ComesBefore basis best j
before_later basis None i j h l = h
before_later basis (Some r) i j h l = omega (arith, h, l)

-- the basic column of a row that the best one doesn't come before isn't above that of any that it comes before
pub not_after : (basis : List ℕ) (best : Option ℕ) (i j : ℕ) → ¬ (ComesBefore basis best i) → ComesBefore basis best j
    → slice_index_or basis i 0 ≤ slice_index_or basis j 0
not_after basis None i j h l = absurd l
not_after basis (Some r) i j h l = by_order (cases_lt (slice_index_or basis i 0) (slice_index_or basis r 0))
  where
    by_order : (slice_index_or basis i 0 < slice_index_or basis r 0) ⊎ (slice_index_or basis r 0 ≤ slice_index_or basis i 0)
        → slice_index_or basis i 0 ≤ slice_index_or basis j 0
    by_order (inl m) = omega (arith, m, l)
    by_order (inr m) = absurd (h m)

-- 0 isn't above 0
above_isn't_null : (z : ℤ) → z ≡ pos 0 → is_above_zero z ≡ true → ⊥
above_isn't_null z e a = true≢false (sym a ∙ ap is_above_zero e)

-- the first of the rows below k is the first of those below k + 1, where row k doesn't have the property
pub first_past : (basis : List ℕ) (has : ℕ → Type 0) (k : ℕ) (best : Option ℕ) → ¬ (has k) → IsFirstOf basis has k best → IsFirstOf basis has (k + 1) best
first_past basis has k best n g = record {
  within = g.within;
  own = g.own;
  before = λ i l x. by_equality i l x (cases_eq i k);
}
  where
    by_equality : (i : ℕ) → i < k + 1 → has i → (i ≡ k) ⊎ (i ≡ k → ⊥) → ComesBefore basis best i
    by_equality i l x (inl e) = absurd (n (subst has e x))
    by_equality i l x (inr d) = g.before i (omega (arith, l, d)) x

-- a row that stays behind, whose entry is 0, doesn't change the first one
pub first_past_behind : (rows : List WholeRowView) (basis : List ℕ) (moved : List Bool) (entries : List ℤ) (place : ℕ)
    → ((i : ℕ) → has_moved moved i ≡ false → number_at entries i ≡ pos 0) → (k : ℕ) (best : Option ℕ) → has_moved moved k ≡ false
    → IsFirstOf basis (HasZeroRatio rows entries place) k best → IsFirstOf basis (HasZeroRatio rows entries place) (k + 1) best
first_past_behind rows basis moved entries place others k best f g = first_past basis (HasZeroRatio rows entries place) k best
    (λ h. above_isn't_null (number_at entries k) (others k f) h.above) g

-- none of the first k ranked rows may leave, but for those that moved
abbrev pub NoneLeaves : List WholeRowView → List ℕ → List Bool → List ℤ → Terms → List ℕ → ℕ → Type 0
NoneLeaves rows basis moved entries combined ranked k = (j : ℕ) → j < k → has_moved moved (slice_index_or ranked j 0) ≡ false
    → ¬ (is_above_zero (entry_of combined rows (slice_index_or ranked j 0)) ≡ true)

module _ (rows : List WholeRowView) (basis : List ℕ) (moved : List Bool) (entries : List ℤ) (combined : Terms) (ranked : List ℕ) (best : Option ℕ)
    (is_ranked : AreRanked rows basis moved (length basis) ranked)
    (others : (i : ℕ) → has_moved moved i ≡ false → number_at entries i ≡ pos 0)
    (first : IsFirstOf basis (HasZeroRatio rows entries (length basis)) (length basis) best) where
  -- a row that may leave by its noted entry moved, and so it may leave
  moved_leaves : (i : ℕ) → HasZeroRatio rows entries (length basis) i → MayLeave rows moved entries combined (length basis) i
  moved_leaves i h = by_move (has_moved moved i) refl
    where
      by_move : (b : Bool) → has_moved moved i ≡ b → MayLeave rows moved entries combined (length basis) i
      by_move true e = record { still = h.still; above = ap (λ b. is_above_zero (cond b (number_at entries i) (entry_of combined rows i))) e ∙ h.above }
      by_move false e = absurd (above_isn't_null (number_at entries i) (others i e) h.above)

  -- if there is a best row that moved, it may leave
  best_leaves : (o : Option ℕ) → IfSome o (HasZeroRatio rows entries (length basis)) → IfSome o (MayLeave rows moved entries combined (length basis))
  best_leaves None h = tt
  best_leaves (Some r) h = moved_leaves r h

  -- where the best row that moved comes before those from place k on that stay behind, it comes before each that may leave
  all_after : (k : ℕ) → NoneLeaves rows basis moved entries combined ranked k
      → ((j : ℕ) → k ≤ j → j < length ranked → has_moved moved (slice_index_or ranked j 0) ≡ false
      → ComesBefore basis best (slice_index_or ranked j 0))
      → (i : ℕ) → i < length basis → MayLeave rows moved entries combined (length basis) i → ComesBefore basis best i
  all_after k none rest i l h = by_move (has_moved moved i) refl
    where
      by_order : (j : ℕ) → j < length ranked → slice_index_or ranked j 0 ≡ i → has_moved moved i ≡ false → (j < k) ⊎ (k ≤ j) → ComesBefore basis best i
      by_order j w e f (inl m) = absurd (none j m (ap (has_moved moved) e ∙ f)
          (ap (λ x. is_above_zero (entry_of combined rows x)) e
          ∙ sym (ap (λ b. is_above_zero (cond b (number_at entries i) (entry_of combined rows i))) f) ∙ h.above))
      by_order j w e f (inr m) = subst (ComesBefore basis best) e (rest j m w (ap (has_moved moved) e ∙ f))

      by_move : (b : Bool) → has_moved moved i ≡ b → ComesBefore basis best i
      by_move true e = first.before i l record {
        still = h.still;
        above = sym
            (ap (λ b. is_above_zero (cond b (number_at entries i) (entry_of combined rows i))) e) ∙ h.above;
      }
      by_move false e = let a = is_ranked.all i l e h.still in by_order a.0 a.1 a.2 e (cases_lt a.0 k)

  -- the best row that moved leaves, where it comes before row k of them, and those before that may not leave
  pub best_is_first : (k : ℕ) → k < length ranked → NoneLeaves rows basis moved entries combined ranked k
      → has_moved moved (slice_index_or ranked k 0) ≡ false → ComesBefore basis best (slice_index_or ranked k 0)
      → IsFirstOf basis (MayLeave rows moved entries combined (length basis)) (length basis) best
  best_is_first k w none f b = record {
    within = first.within;
    own = best_leaves best first.own;
    before = all_after k none (λ j m l g. by_equality j m l g (cases_eq k j));
  }
    where
      by_equality : (j : ℕ) → k ≤ j → j < length ranked → has_moved moved (slice_index_or ranked j 0) ≡ false → (k ≡ j) ⊎ (k ≡ j → ⊥)
          → ComesBefore basis best (slice_index_or ranked j 0)
      by_equality j m l g (inl e) = subst (λ (x : ℕ). ComesBefore basis best (slice_index_or ranked x 0)) e b
      by_equality j m l g (inr d) = before_later basis best (slice_index_or ranked k 0) (slice_index_or ranked j 0) b
          (is_ranked.ascend k j (omega (arith, m, d)) l f g)

  -- or where none of them may
  pub none_is_first : NoneLeaves rows basis moved entries combined ranked (length ranked)
      → IsFirstOf basis (MayLeave rows moved entries combined (length basis)) (length basis) best
  none_is_first none = record {
    within = first.within;
    own = best_leaves best first.own;
    before = all_after (length ranked) none (λ j m l g. absurd (omega (arith, m, l)));
  }

  -- else row k leaves, if it may
  pub row_is_first : (k : ℕ) → k < length ranked → NoneLeaves rows basis moved entries combined ranked k
      → has_moved moved (slice_index_or ranked k 0) ≡ false → ¬ (ComesBefore basis best (slice_index_or ranked k 0))
      → is_above_zero (entry_of combined rows (slice_index_or ranked k 0)) ≡ true
      → IsFirstOf basis (MayLeave rows moved entries combined (length basis)) (length basis) (Some (slice_index_or ranked k 0))
  row_is_first k w none f n a = record {
    within = is_ranked.within k w;
    own = record { still = is_ranked.still k w f; above = ap (λ b. is_above_zero (cond b (number_at entries r) (entry_of combined rows r))) f ∙ a };
    before = λ i l h. by_move i l h (has_moved moved i) refl;
  }
    where
      r : ℕ
      r = slice_index_or ranked k 0

      later : (j : ℕ) → k ≤ j → j < length ranked → has_moved moved (slice_index_or ranked j 0) ≡ false → (k ≡ j) ⊎ (k ≡ j → ⊥)
          → slice_index_or basis r 0 ≤ slice_index_or basis (slice_index_or ranked j 0) 0
      later j m l g (inl e) = let s : slice_index_or basis r 0 ≡ slice_index_or basis (slice_index_or ranked j 0) 0 = ap
          (λ x. slice_index_or basis (slice_index_or ranked x 0) 0) e in omega (arith, s)
      later j m l g (inr d) = is_ranked.ascend k j (omega (arith, m, d)) l f g

      by_order : (i j : ℕ) → j < length ranked → slice_index_or ranked j 0 ≡ i → has_moved moved i ≡ false
          → MayLeave rows moved entries combined (length basis) i → (j < k) ⊎ (k ≤ j) → slice_index_or basis r 0 ≤ slice_index_or basis i 0
      by_order i j l e g h (inl m) = absurd (none j m (ap (has_moved moved) e ∙ g)
          (ap (λ x. is_above_zero (entry_of combined rows x)) e
          ∙ sym (ap (λ b. is_above_zero (cond b (number_at entries i) (entry_of combined rows i))) g) ∙ h.above))
      by_order i j l e g h (inr m) = subst (λ (x : ℕ). slice_index_or basis r 0 ≤ slice_index_or basis x 0) e
          (later j m l (ap (has_moved moved) e ∙ g) (cases_eq k j))

      by_move : (i : ℕ) → i < length basis → MayLeave rows moved entries combined (length basis) i → (b : Bool) → has_moved moved i ≡ b
          → slice_index_or basis r 0 ≤ slice_index_or basis i 0
      by_move i l h true e = not_after basis best r i n (first.before i l
          record {
            still = h.still;
            above = sym (ap (λ b. is_above_zero (cond b (number_at entries i) (entry_of combined rows i))) e)
                ∙ h.above;
          })
      by_move i l h false e = let a = is_ranked.all i l e h.still in by_order i a.0 a.1 a.2 e h (cases_lt a.0 k)

-- rows that are ranked stay so after one more step
pub ranked_kept : (columns : List Terms) (limit : ℕ) (old : List WholeRowView) (basis : List ℕ) (moved : List Bool) (c r : ℕ)
    (new : List WholeRowView) (ranked : List ℕ) → IsBehindStep columns limit old basis moved c r new
    → r < length moved → length basis ≤ length old → AreRanked old basis moved (length basis) ranked
    → AreRanked new (slice_set basis r c) (slice_set moved r true) (length (slice_set basis r c)) ranked
ranked_kept columns limit old basis moved c r new ranked g here all h = record {
  within = λ k l. subst (λ (m : ℕ). slice_index_or ranked k 0 < m) (sym height) (h.within k l);
  still = λ k l f. right_is (slice_index_or ranked k 0) (h.within k l) f ∙ h.still k l (still (slice_index_or ranked k 0) f);
  ascend = λ j k l w e f.
      let a = column_is (slice_index_or ranked j 0) e in
      let b = column_is (slice_index_or ranked k 0) f in
      let u = h.ascend j k l w (still (slice_index_or ranked j 0) e) (still (slice_index_or ranked k 0) f) in
      omega (arith, a, b, u);
  all = λ i l f e. let w : i < length basis = omega (arith, l, height) in h.all i w (still i f) (sym (right_is i w f) ∙ e);
}
  where
    height : length (slice_set basis r c) ≡ length basis
    height = length-set basis r c

    other : (i : ℕ) → has_moved (slice_set moved r true) i ≡ false → i ≢ r
    other i f = λ e. true≢false (sym (get_or-set_same moved r true false here) ∙ ap (has_moved (slice_set moved r true)) (sym e) ∙ f)

    still : (i : ℕ) → has_moved (slice_set moved r true) i ≡ false → has_moved moved i ≡ false
    still i f = sym (get_or-set_other moved r i true false (other i f)) ∙ f

    right_is : (i : ℕ) → i < length basis → has_moved (slice_set moved r true) i ≡ false
        → right_side_of (length (slice_set basis r c)) new i ≡ right_side_of (length basis) old i
    right_is i l f = ap (λ m. right_side_of m new i) height ∙ ap (λ (w : WholeRowView). number_at w.numbers (length basis))
        (g.kept i (omega (arith, l, all)) (other i f) (still i f))

    column_is : (i : ℕ) → has_moved (slice_set moved r true) i ≡ false → slice_index_or (slice_set basis r c) i 0 ≡ slice_index_or basis i 0
    column_is i f = get_or-set_other basis r i c 0 (other i f)

-- the rows with right side 0 are ranked once they are sorted by basic column
pub ranked_by_column : (rows : List WholeRowView) (basis list ranked : List ℕ) → AreStillRows rows (length basis) (length basis) list
    → IsPermutation list ranked → IsNonDecreasingBy (λ i. slice_index_or basis i 0) ranked
    → (moved : List Bool) → AreRanked rows basis moved (length basis) ranked
ranked_by_column rows basis list ranked h p up moved = record {
  within = λ k l. (own k 0 l).0;
  still = λ k l f. (own k 0 l).1;
  ascend = λ j k l w f g. up j k 0 (omega (arith, l)) w;
  all = λ i l f e. let a = Contains-permutation list ranked i p (h.all i l e) in (a.0, a.1, get_or_default ranked a.0 0 i a.1 ∙ a.2);
}
  where
    own : All (λ i. (i < length basis) × (right_side_of (length basis) rows i ≡ pos 0)) ranked
    own = All-permutation (λ i. (i < length basis) × (right_side_of (length basis) rows i ≡ pos 0)) list ranked p h.own
