-- The numbers of the start are whole: those of its rows, and the sums of these.
use Rattle.std.proofs.Common.{◌≡◌, ◌⊎◌, inl, inr, ℕ, zero, suc, ◌+◌, ◌<◌, ◌≤◌, Bool, true, false, cond, eqb, ltb, ℤ, pos, negsuc, ◌+ℤ◌, neg_ℤ, unsigned_abs, List, [], ◌∷◌, length, slice_index_or, refl, sym, ap, ap₂, ◌∙◌, arith}
use Rattle.std.proofs.lemmas.Bool.{cases_lt, ne_eqb, lt-ltb, le-ltb}
use Rattle.it_number.proofs.Ring.{ring, v, times, minus, one}
use Rattle.it_rational.specs.Rational.{Rational, integer, is_at_least_zero, sign_least, IsRatio}
use Rattle.it_rational.specs.Rational as Q
use Rattle.it_rational.proofs.Names.{same_value, whole_names}
use Rattle.it_rational.proofs.RationalLaws.{ring_ℚ}
use Rattle.it_rational.proofs.Field.{field_ℚ}
use Rattle.it_space.specs.Rows.{Terms, coefficient}
use Rattle.it_tableau.specs.TableauViews.{start_of}
use Rattle.it_tableau.specs.Operations.{rationals}
use Rattle.it_tableau.specs.FieldOperations.{sum_to}
use Rattle.it_tableau.specs.Problems.{feasibility_problem}
use Rattle.it_tableau.specs.SimplexTables.{start_row}
use Rattle.it_tableau.proofs.StartLemmas.{row_artificial, row_column, row_right, start_cost, start_entry}
use Rattle.it_tableau.proofs.Sums.{eqb_comm, sum_null, sum_one, sum_same}
use Rattle.it_engine.specs.Loading.{keeps_sign, right_size, right_sum, signed_coefficient}
use Rattle.it_whole.proofs.Names.{sum_named, minus_names, sign_named}

-- whole numbers as rational ones
pub plus_integers : (a b : ℤ) → Q.plus (integer a) (integer b) ≡ integer (a +ℤ b)
plus_integers a b = same_value (Q.plus (integer a) (integer b)) (integer (a +ℤ b)) (a +ℤ b) (a +ℤ b) 1 1 (omega arith) (omega arith)
    (sum_named (integer a) (integer b) a b 1 (omega arith) (whole_names a) (whole_names b)) (whole_names (a +ℤ b)) refl

pub minus_integer : (z : ℤ) → Q.minus (integer z) ≡ integer (neg_ℤ z)
minus_integer z = same_value (Q.minus (integer z)) (integer (neg_ℤ z)) (neg_ℤ z) (neg_ℤ z) 1 1 (omega arith) (omega arith)
    (minus_names (integer z) z 1 (whole_names z)) (whole_names (neg_ℤ z)) refl

pub signed_integer : (kept : Bool) (z : ℤ) → Q.times (cond kept (integer (pos 1)) (Q.minus (integer (pos 1)))) (integer z) ≡ integer (cond kept z (neg_ℤ z))
signed_integer true z = ring_ℚ.unit-mul (integer z)
signed_integer false z = ring ring_ℚ (integer z ∷ []) (times (minus one) (v 0)) (minus (v 0)) refl ∙ minus_integer z

-- the sign of a whole number
sign_of_integer : (z : ℤ) → is_at_least_zero (integer z) ≡ sign_least z
sign_of_integer z = sign_named (integer z) z 1 (omega arith) (whole_names z)

-- a number without its sign
size_by_sign : (z : ℤ) → cond (is_at_least_zero (integer z)) z (neg_ℤ z) ≡ pos (unsigned_abs z)
size_by_sign z = ap (λ b. cond b z (neg_ℤ z)) (sign_of_integer z) ∙ by_sign z
  where
    by_sign : (z : ℤ) → cond (sign_least z) z (neg_ℤ z) ≡ pos (unsigned_abs z)
    by_sign (pos n) = refl
    by_sign (negsuc n) = refl

module _ (cs : List ℕ) (generators : List Terms) (target : Terms) where
  -- the sizes of the table
  abbrev m : ℕ
  m = length cs

  abbrev n : ℕ
  n = length generators

  -- an entry of the start's rows
  abbrev row_entry : ℕ → ℕ → Rational
  row_entry = start_row rationals m n (feasibility_problem cs generators target)

  pub column_entry : (k j : ℕ) → j < n → row_entry k j ≡ integer (signed_coefficient cs target (slice_index_or generators j []) k)
  column_entry k j h = row_column field_ℚ m n (feasibility_problem cs generators target) k j h
      ∙ signed_integer (keeps_sign cs target k) (coefficient (slice_index_or generators j []) (slice_index_or cs k 0))

  pub right_entry : (k : ℕ) → row_entry k (n + m) ≡ integer (pos (right_size cs target k))
  right_entry k = row_right field_ℚ m n (feasibility_problem cs generators target) k
      ∙ signed_integer (keeps_sign cs target k) (coefficient target (slice_index_or cs k 0))
      ∙ ap integer (size_by_sign (coefficient target (slice_index_or cs k 0)))

  pub sum_of_rights : (k : ℕ) → sum_to ring_ℚ k (λ i. row_entry i (n + m)) ≡ integer (pos (right_sum cs target k))
  sum_of_rights zero = refl
  sum_of_rights (suc k) = ap₂ Q.plus (right_entry k) (sum_of_rights k) ∙ plus_integers (pos (right_size cs target k)) (pos (right_sum cs target k))

  -- the sum of the first k rows at an artificial column
  pub sum_of_units : (k i : ℕ) → i < m → sum_to ring_ℚ k (λ r. row_entry r (n + i)) ≡ integer (cond (ltb i k) (pos 1) (pos 0))
  sum_of_units k i h = sum_same ring_ℚ k (λ r. row_entry r (n + i)) (λ r. cond (eqb r i) (integer (pos 1)) (integer (pos 0)))
      (λ r l. row_artificial field_ℚ m n (feasibility_problem cs generators target) r i h ∙ ap (λ b. cond b (integer (pos 1)) (integer (pos 0))) (eqb_comm i r))
      ∙ by_place (cases_lt i k)
    where
      by_place : (i < k) ⊎ (k ≤ i) → sum_to ring_ℚ k (λ r. cond (eqb r i) (integer (pos 1)) (integer (pos 0))) ≡ integer (cond (ltb i k) (pos 1) (pos 0))
      by_place (inl l) = sum_one ring_ℚ k (λ r. integer (pos 1)) i l ∙ ap (λ b. integer (cond b (pos 1) (pos 0))) (sym (lt-ltb i k l))
      by_place (inr l) = sum_same ring_ℚ k (λ r. cond (eqb r i) (integer (pos 1)) (integer (pos 0))) (λ r. integer (pos 0))
          (λ r o. ap (λ b. cond b (integer (pos 1)) (integer (pos 0))) (ne_eqb r i (λ e. omega (arith, e, o, l))))
          ∙ sum_null ring_ℚ k ∙ ap (λ b. integer (cond b (pos 1) (pos 0))) (sym (le-ltb i k l))

  -- the start at the columns that are kept
  pub unit_entry : (i k : ℕ) → i < m → k < m → (start_of cs generators target).entry i (n + k) ≡ integer (cond (eqb k i) (pos 1) (pos 0))
  unit_entry i k h l = start_entry field_ℚ m n (feasibility_problem cs generators target) i (n + k) h
      ∙ row_artificial field_ℚ m n (feasibility_problem cs generators target) i k l ∙ by_test (eqb k i)
    where
      by_test : (b : Bool) → cond b (integer (pos 1)) (integer (pos 0)) ≡ integer (cond b (pos 1) (pos 0))
      by_test true = refl
      by_test false = refl

  pub row_right_side : (i : ℕ) → i < m → (start_of cs generators target).entry i (n + m) ≡ integer (pos (right_size cs target i))
  row_right_side i h = start_entry field_ℚ m n (feasibility_problem cs generators target) i (n + m) h ∙ right_entry i

  pub unit_cost : (k : ℕ) → k < m → (start_of cs generators target).entry m (n + k) ≡ integer (neg_ℤ (pos 1))
  unit_cost k l = start_cost field_ℚ m n (feasibility_problem cs generators target) (n + k)
      ∙ ap Q.minus (sum_of_units m k l ∙ ap (λ b. integer (cond b (pos 1) (pos 0))) (lt-ltb k m l)) ∙ minus_integer (pos 1)

  pub cost_right_side : (start_of cs generators target).entry m (n + m) ≡ integer (neg_ℤ (pos (right_sum cs target m)))
  cost_right_side = start_cost field_ℚ m n (feasibility_problem cs generators target) (n + m) ∙ ap Q.minus (sum_of_rights m)
      ∙ minus_integer (pos (right_sum cs target m))
