-- The rows of the start, as lists of numbers.
use Rattle.std.proofs.Common.{◌≡◌, ◌⊎◌, inl, inr, ℕ, ◌+◌, ◌<◌, ◌≤◌, Bool, true, false, cond, eqb, ℤ, pos, negsuc, neg_ℤ, unsigned_abs, List, length, set, replicate, sym, ap, subst, ◌∙◌, arith, get_or-set_same, get_or-set_other}
use Rattle.std.proofs.lemmas.Bool.{cases_eq, eq-eqb, ne_eqb}
use Rattle.std.proofs.lemmas.Int.{ints}
use Rattle.std.proofs.lemmas.List.{length-replicate, length-set, get_or-replicate}
use Rattle.it_rational.specs.Rational.{Rational, integer}
use Rattle.it_space.specs.Rows.{Terms}
use Rattle.it_space.specs.Sums.{number_at}
use Rattle.it_tableau.specs.TableauViews.{start_of}
use Rattle.it_engine.specs.Loading.{right_size, right_sum, IsReadRow, IsShortWhole}
use Rattle.it_whole.specs.WholeRows.{WholeRowView}
use Rattle.it_engine.proofs.StartNumbers.{cost_right_side, row_right_side, unit_cost, unit_entry}

short_whole : (limit : ℕ) (q : Rational) (y z : ℤ) → q ≡ integer y → z ≡ y → unsigned_abs y ≤ limit → IsShortWhole limit q z
short_whole limit q y z e f h = record { value_is = e ∙ ap integer (sym f); small = subst (λ (x : ℤ). unsigned_abs x ≤ limit) (sym f) h }

-- a list of one number with its last one set
last_set : (m k : ℕ) (xs : List ℤ) (y : ℤ) → length xs ≡ m + 1 → (k ≡ m) → number_at (set xs m y) k ≡ y
last_set m k xs y e f = ap (number_at (set xs m y)) f ∙ get_or-set_same xs m y (pos 0) (omega (arith, e))

module _ (cs : List ℕ) (target : Terms) (limit : ℕ) (some : 1 ≤ limit) (row : WholeRowView) (whole : row.denominator ≡ 1) where
  -- the number of rows
  abbrev m : ℕ
  m = length cs

  pub unit_row_is : (i : ℕ) → i < m → right_size cs target i ≤ limit
      → row.numbers ≡ set (set (replicate (m + 1) (pos 0)) i (pos 1)) m (pos (right_size cs target i)) → IsReadRow cs target limit i row
  unit_row_is i h small is = record {
    length_is = ap length is ∙ length-set (set (replicate (m + 1) (pos 0)) i (pos 1)) m (pos (right_size cs target i)) ∙ unit_length;
    each = λ generators k l. by_place generators k l (cases_eq k m);
    denominator_is = whole;
  }
    where
      unit_length : length (set (replicate (m + 1) (pos 0)) i (pos 1)) ≡ m + 1
      unit_length = length-set (replicate (m + 1) (pos 0)) i (pos 1) ∙ length-replicate (m + 1) (pos 0)

      unit_number : (k : ℕ) → k < m → (k ≡ i) ⊎ (k ≡ i → ⊥) → number_at (set (replicate (m + 1) (pos 0)) i (pos 1)) k ≡ cond (eqb k i) (pos 1) (pos 0)
      unit_number k l (inl e) = ap (number_at (set (replicate (m + 1) (pos 0)) i (pos 1))) e
          ∙ get_or-set_same (replicate (m + 1) (pos 0)) i (pos 1) (pos 0) (let n = length-replicate (m + 1) (pos 0) in omega (arith, n, h))
          ∙ ap (λ b. cond b (pos 1) (pos 0)) (sym (eq-eqb k i e))
      unit_number k l (inr d) = get_or-set_other (replicate (m + 1) (pos 0)) i k (pos 1) (pos 0) d
          ∙ get_or-replicate (m + 1) k (pos 0) (pos 0) (omega (arith, l)) ∙ ap (λ b. cond b (pos 1) (pos 0)) (sym (ne_eqb k i d))

      by_place : (generators : List Terms) (k : ℕ) → k < m + 1 → (k ≡ m) ⊎ (k ≡ m → ⊥)
          → IsShortWhole limit ((start_of cs generators target).entry i (length generators + k)) (number_at row.numbers k)
      by_place generators k l (inl e) = short_whole limit ((start_of cs generators target).entry i (length generators + k))
          (pos (right_size cs target i)) (number_at row.numbers k)
          (ap (λ j. (start_of cs generators target).entry i (length generators + j)) e ∙ row_right_side cs generators target i h)
          (ap (λ xs. number_at xs k) is ∙ last_set m k (set (replicate (m + 1) (pos 0)) i (pos 1)) (pos (right_size cs target i)) unit_length e) small
      by_place generators k l (inr d) = short_whole limit ((start_of cs generators target).entry i (length generators + k))
          (cond (eqb k i) (pos 1) (pos 0)) (number_at row.numbers k)
          (unit_entry cs generators target i k h (omega (arith, l, d)))
          (ap (λ xs. number_at xs k) is ∙ get_or-set_other (set (replicate (m + 1) (pos 0)) i (pos 1)) m k (pos (right_size cs target i))
          (pos 0) d ∙ unit_number k (omega (arith, l, d)) (cases_eq k i))
          (by_test (eqb k i))
        where
          by_test : (b : Bool) → unsigned_abs (cond b (pos 1) (pos 0)) ≤ limit
          by_test true = some
          by_test false = omega arith

  pub cost_row_is : right_sum cs target m ≤ limit → row.numbers ≡ set (replicate (m + 1) (negsuc 0)) m (neg_ℤ (pos (right_sum cs target m)))
      → IsReadRow cs target limit m row
  cost_row_is small is = record {
    length_is = ap length is ∙ length-set (replicate (m + 1) (negsuc 0)) m (neg_ℤ (pos (right_sum cs target m))) ∙ length-replicate (m + 1) (negsuc 0);
    each = λ generators k l. by_place generators k l (cases_eq k m);
    denominator_is = whole;
  }
    where
      size_of_negation : (n : ℕ) → n ≤ limit → unsigned_abs (neg_ℤ (pos n)) ≤ limit
      size_of_negation n h = omega (arith, ints, h)

      by_place : (generators : List Terms) (k : ℕ) → k < m + 1 → (k ≡ m) ⊎ (k ≡ m → ⊥)
          → IsShortWhole limit ((start_of cs generators target).entry m (length generators + k)) (number_at row.numbers k)
      by_place generators k l (inl e) = short_whole limit ((start_of cs generators target).entry m (length generators + k))
          (neg_ℤ (pos (right_sum cs target m))) (number_at row.numbers k)
          (ap (λ j. (start_of cs generators target).entry m (length generators + j)) e ∙ cost_right_side cs generators target)
          (ap (λ xs. number_at xs k) is ∙ last_set m k (replicate (m + 1) (negsuc 0)) (neg_ℤ (pos (right_sum cs target m)))
          (length-replicate (m + 1) (negsuc 0)) e) (size_of_negation (right_sum cs target m) small)
      by_place generators k l (inr d) = short_whole limit ((start_of cs generators target).entry m (length generators + k)) (neg_ℤ (pos 1))
          (number_at row.numbers k)
          (unit_cost cs generators target k (omega (arith, l, d)))
          (ap (λ xs. number_at xs k) is ∙ get_or-set_other (replicate (m + 1) (negsuc 0)) m k (neg_ℤ (pos (right_sum cs target m)))
          (pos 0) d ∙ get_or-replicate (m + 1) k (negsuc 0) (pos 0) (omega (arith, l))) some
