-- The weights of an end by weights sum to the target, and the point of an end by a point separates the target from the columns.
use Rattle.std.proofs.Common.{◌≡◌, ℕ, zero, suc, ◌+◌, ◌<◌, ◌≤◌, Bool, true, false, cond, eqb, ltb, ◌&&◌, not, List, [], ◌∷◌, length, get_or, refl, sym, ap, subst, ◌∙◌, ◌⊎◌, inl, inr, arith}
use Rattle.std.proofs.lemmas.Bool.{ne_eqb, cases_lt, lt-ltb, le-ltb, ltb-true}
use Rattle.it_number.proofs.Ring.{ring, mul-null, v, plus, times, minus, nil, one}
use Rattle.it_rational.proofs.Ordered.{null-least, not_both, below-from}
use Rattle.it_rational.specs.OrderedFields.{OrderedField, IsAtLeastZero, IsBelowZero}
use Rattle.it_tableau.specs.FieldOperations.{operations_of, sum_to}
use Rattle.it_tableau.specs.SimplexTables.{SimplexTable, FeasibilityProblem, sign, start_row}
use Rattle.it_tableau.specs.Invariants.{cost_of, HasInvariants}
use Rattle.it_run.specs.Choice.{IsDone, IsStuck}
use Rattle.it_run.specs.Readings.{weight, weights, point, ring_combination, AreWeights, SumsUp, value_at_point, Separates}
use Rattle.it_run.proofs.ReadingLists.{weights_from_column, point_value, point_from_row}
use Rattle.it_tableau.proofs.Sums.{sum_same, sum_null, sum_times, sum_times_left, sum_swap, sum_one, sum_least, all_null, eqb_comm}
use Rattle.it_tableau.proofs.StartLemmas.{row_column, row_right}

module _ {A : Type 0} (F : OrderedField A) (m n : ℕ) where
  sign_twice : (p : FeasibilityProblem A) (k : ℕ) → F.ring.mul (sign (operations_of F) p k) (sign (operations_of F) p k) ≡ F.ring.unit
  sign_twice p k = by_test (F.order.is_least (p.target k))
    where
      by_test : (b : Bool) → F.ring.mul (cond b F.ring.unit (F.ring.neg F.ring.unit)) (cond b F.ring.unit (F.ring.neg F.ring.unit)) ≡ F.ring.unit
      by_test true = F.ring.unit-mul F.ring.unit
      by_test false = ring F.ring [] (times (minus one) (minus one)) one refl

  -- the right side of a row whose basic column is an artificial, else 0
  abbrev artificial_right : SimplexTable A → ℕ → A
  artificial_right t i = cond (ltb (t.basis i) n) F.ring.null (t.entry i (n + m))

  right_cost : (p : FeasibilityProblem A) (t : SimplexTable A) → HasInvariants (operations_of F) m n p t
      → t.entry m (n + m) ≡ F.ring.neg (sum_to F.ring m (artificial_right t))
  right_cost p t h = h.costs (n + m)
      ∙ sum_same F.ring m (λ i. F.ring.mul (cost_of (operations_of F) m n (t.basis i)) (t.entry i (n + m)))
      (λ i. F.ring.mul (F.ring.neg F.ring.unit) (artificial_right t i)) (λ i l. by_test (ltb (t.basis i) n) (t.entry i (n + m)))
      ∙ sum_times_left F.ring m (artificial_right t) (F.ring.neg F.ring.unit)
      ∙ ring F.ring (sum_to F.ring m (artificial_right t) ∷ []) (times (minus one) (v 0)) (minus (v 0)) refl
    where
      by_test : (b : Bool) (x : A) → F.ring.mul (cond b F.ring.null (F.ring.neg F.ring.unit)) x ≡ F.ring.mul (F.ring.neg F.ring.unit) (cond b F.ring.null x)
      by_test true x = ring F.ring (x ∷ []) (times nil (v 0)) (times (minus one) nil) refl
      by_test false x = refl

  artificial_least : (p : FeasibilityProblem A) (t : SimplexTable A) → HasInvariants (operations_of F) m n p t → (i : ℕ) → i < m
      → IsAtLeastZero F (artificial_right t i)
  artificial_least p t h i l = by_test (ltb (t.basis i) n)
    where
      by_test : (b : Bool) → IsAtLeastZero F (cond b F.ring.null (t.entry i (n + m)))
      by_test true = null-least F
      by_test false = h.rights i l

  -- the cost row's right side is at most 0
  pub right_at_most : (p : FeasibilityProblem A) (t : SimplexTable A) → HasInvariants (operations_of F) m n p t
      → IsAtLeastZero F (F.ring.neg (t.entry m (n + m)))
  right_at_most p t h = subst (IsAtLeastZero F) (ring F.ring (sum_to F.ring m (artificial_right t) ∷ []) (v 0) (minus (minus (v 0))) refl
      ∙ ap F.ring.neg (sym (right_cost p t h)))
      (sum_least F m (artificial_right t) (artificial_least p t h))

  -- at an end by weights each basic artificial has the right side 0
  done_null : (p : FeasibilityProblem A) (t : SimplexTable A) → HasInvariants (operations_of F) m n p t → IsDone (operations_of F) m n t
      → (i : ℕ) → i < m → artificial_right t i ≡ F.ring.null
  done_null p t h d i l = all_null F m (artificial_right t) (artificial_least p t h)
      (ring F.ring (sum_to F.ring m (artificial_right t) ∷ []) (v 0) (minus (minus (v 0))) refl ∙ ap F.ring.neg (sym (right_cost p t h) ∙ d)
      ∙ ring F.ring [] (minus nil) nil refl) i l

  -- a row's part in the sum at coordinate k
  abbrev part : FeasibilityProblem A → SimplexTable A → ℕ → ℕ → A
  part p t k i = cond (ltb (t.basis i) n) (F.ring.mul (t.entry i (n + m)) (p.column (t.basis i) k)) F.ring.null

  target_is : (p : FeasibilityProblem A) (t : SimplexTable A) → HasInvariants (operations_of F) m n p t → IsDone (operations_of F) m n t
      → (k : ℕ) → k < m → p.target k ≡ sum_to F.ring m (part p t k)
  target_is p t h d k hk =
      ring F.ring (p.target k ∷ []) (v 0) (times one (v 0)) refl
      ∙ ap (λ x. F.ring.mul x (p.target k)) (sym (sign_twice p k))
      ∙ F.ring.mul_assoc (sign (operations_of F) p k) (sign (operations_of F) p k) (p.target k)
      ∙ ap (F.ring.mul (sign (operations_of F) p k)) (sym (row_right F m n p k) ∙ h.spans k (n + m) hk
      ∙ sum_same F.ring m (λ i. F.ring.mul (start_row (operations_of F) m n p k (t.basis i)) (t.entry i (n + m)))
      (λ i. F.ring.mul (sign (operations_of F) p k) (part p t k i)) (λ i l. for_each i (ltb (t.basis i) n) refl (done_null p t h d i l))
      ∙ sum_times_left F.ring m (part p t k) (sign (operations_of F) p k))
      ∙ sym (F.ring.mul_assoc (sign (operations_of F) p k) (sign (operations_of F) p k) (sum_to F.ring m (part p t k)))
      ∙ ap (λ x. F.ring.mul x (sum_to F.ring m (part p t k))) (sign_twice p k)
      ∙ F.ring.unit-mul (sum_to F.ring m (part p t k))
    where
      for_each : (i : ℕ) (b : Bool) → ltb (t.basis i) n ≡ b → cond b F.ring.null (t.entry i (n + m)) ≡ F.ring.null
          → F.ring.mul (start_row (operations_of F) m n p k (t.basis i)) (t.entry i (n + m))
          ≡ F.ring.mul (sign (operations_of F) p k) (cond b (F.ring.mul (t.entry i (n + m)) (p.column (t.basis i) k)) F.ring.null)
      for_each i true e z = ap (λ x. F.ring.mul x (t.entry i (n + m))) (row_column F m n p k (t.basis i) (ltb-true (t.basis i) n e))
          ∙ ring F.ring (sign (operations_of F) p k ∷ p.column (t.basis i) k ∷ t.entry i (n + m) ∷ []) (times (times (v 0) (v 1)) (v 2))
          (times (v 0) (times (v 2) (v 1))) refl
      for_each i false e z = ap (F.ring.mul (start_row (operations_of F) m n p k (t.basis i))) z
          ∙ mul-null F.ring (start_row (operations_of F) m n p k (t.basis i)) ∙ sym (mul-null F.ring (sign (operations_of F) p k))

  -- the same sum over the columns
  by_columns : (p : FeasibilityProblem A) (t : SimplexTable A) (k : ℕ)
      → sum_to F.ring n (λ j. F.ring.mul (weight (operations_of F) m n t j) (p.column j k)) ≡ sum_to F.ring m (part p t k)
  by_columns p t k =
      sum_same F.ring n (λ j. F.ring.mul (weight (operations_of F) m n t j) (p.column j k))
      (λ j. sum_to F.ring m (λ i. F.ring.mul (cond (eqb (t.basis i) j) (right_side i) F.ring.null) (p.column j k)))
      (λ j l. sym (sum_times F.ring m (λ i. cond (eqb (t.basis i) j) (right_side i) F.ring.null) (p.column j k)))
      ∙ sum_swap F.ring n m (λ j i. F.ring.mul (cond (eqb (t.basis i) j) (right_side i) F.ring.null) (p.column j k))
      ∙ sum_same F.ring m (λ i. sum_to F.ring n (λ j. F.ring.mul (cond (eqb (t.basis i) j) (right_side i) F.ring.null) (p.column j k)))
      (part p t k) (λ i l. inner i (cases_lt (t.basis i) n))
    where
      right_side : ℕ → A
      right_side i = t.entry i (n + m)

      by_test : (b : Bool) (y z : A) → F.ring.mul (cond b y F.ring.null) z ≡ cond b (F.ring.mul y z) F.ring.null
      by_test true y z = refl
      by_test false y z = F.ring.mul_comm F.ring.null z ∙ mul-null F.ring z

      inner : (i : ℕ) → (t.basis i < n) ⊎ (n ≤ t.basis i)
          → sum_to F.ring n (λ j. F.ring.mul (cond (eqb (t.basis i) j) (right_side i) F.ring.null) (p.column j k)) ≡ part p t k i
      inner i (inl h) =
          sum_same F.ring n (λ j. F.ring.mul (cond (eqb (t.basis i) j) (right_side i) F.ring.null) (p.column j k))
          (λ j. cond (eqb j (t.basis i)) (F.ring.mul (right_side i) (p.column j k)) F.ring.null)
          (λ j l. by_test (eqb (t.basis i) j) (right_side i) (p.column j k)
          ∙ ap (λ b. cond b (F.ring.mul (right_side i) (p.column j k)) F.ring.null) (eqb_comm (t.basis i) j))
          ∙ sum_one F.ring n (λ j. F.ring.mul (right_side i) (p.column j k)) (t.basis i) h
          ∙ ap (λ b. cond b (F.ring.mul (right_side i) (p.column (t.basis i) k)) F.ring.null) (sym (lt-ltb (t.basis i) n h))
      inner i (inr h) =
          sum_same F.ring n (λ j. F.ring.mul (cond (eqb (t.basis i) j) (right_side i) F.ring.null) (p.column j k)) (λ j. F.ring.null)
          (λ j l. ap (λ b. F.ring.mul (cond b (right_side i) F.ring.null) (p.column j k)) (ne_eqb (t.basis i) j (λ e. omega arith))
          ∙ F.ring.mul_comm F.ring.null (p.column j k) ∙ mul-null F.ring (p.column j k))
          ∙ sum_null F.ring n
          ∙ ap (λ b. cond b (F.ring.mul (right_side i) (p.column (t.basis i) k)) F.ring.null) (sym (le-ltb (t.basis i) n h))

  -- the list of the weights
  combination_of_weights : (t : SimplexTable A) (f : ℕ → A) (j left : ℕ)
      → F.ring.add (ring_combination (operations_of F) (weights_from_column (operations_of F) m n t j left) f)
      (sum_to F.ring j (λ i. F.ring.mul (weight (operations_of F) m n t i) (f i)))
      ≡ sum_to F.ring (j + left) (λ i. F.ring.mul (weight (operations_of F) m n t i) (f i))
  combination_of_weights t f j zero = F.ring.null-add (sum_to F.ring j weighted_value) ∙ ap (λ i. sum_to F.ring i weighted_value) no_steps
    where
      weighted_value : ℕ → A
      weighted_value i = F.ring.mul (weight (operations_of F) m n t i) (f i)

      no_steps : j ≡ j + zero
      no_steps = omega arith
  combination_of_weights t f j (suc left) = by_test (F.order.is_least (weight (operations_of F) m n t j))
      (F.order.is_least (F.ring.neg (weight (operations_of F) m n t j))) refl refl (from_next (combination_of_weights t f (suc j) left))
      ∙ ap (λ i. sum_to F.ring i weighted_value) step_joins
    where
      weighted_value : ℕ → A
      weighted_value i = F.ring.mul (weight (operations_of F) m n t i) (f i)

      step_joins : suc j + left ≡ j + suc left
      step_joins = omega arith

      from_next : F.ring.add (ring_combination (operations_of F) (weights_from_column (operations_of F) m n t (suc j) left) f)
          (sum_to F.ring (suc j) weighted_value) ≡ sum_to F.ring (suc j + left) weighted_value
          → F.ring.add (ring_combination (operations_of F) (weights_from_column (operations_of F) m n t (j + 1) left) f)
          (sum_to F.ring (suc j) weighted_value) ≡ sum_to F.ring (suc j + left) weighted_value
      from_next h = let e : suc j ≡ j + 1 = omega arith in
          subst (λ (i : ℕ). F.ring.add (ring_combination (operations_of F) (weights_from_column (operations_of F) m n t i left) f)
          (sum_to F.ring (suc j) weighted_value) ≡ sum_to F.ring (suc j + left) weighted_value) e h

      rest : A
      rest = ring_combination (operations_of F) (weights_from_column (operations_of F) m n t (j + 1) left) f

      null_weight_drops : weight (operations_of F) m n t j ≡ F.ring.null
          → F.ring.add rest (F.ring.add (weighted_value j) (sum_to F.ring j weighted_value)) ≡ sum_to F.ring (suc j + left) weighted_value
          → F.ring.add rest (sum_to F.ring j weighted_value) ≡ sum_to F.ring (suc j + left) weighted_value
      null_weight_drops e ih = sym (ap (F.ring.add rest) (ap (λ x. F.ring.add x (sum_to F.ring j weighted_value))
          (ap (λ x. F.ring.mul x (f j)) e ∙ F.ring.mul_comm F.ring.null (f j) ∙ mul-null F.ring (f j))
          ∙ F.ring.null-add (sum_to F.ring j weighted_value))) ∙ ih

      weight_moves : F.ring.add rest (F.ring.add (weighted_value j) (sum_to F.ring j weighted_value))
          ≡ sum_to F.ring (suc j + left) weighted_value → F.ring.add (F.ring.add (weighted_value j) rest) (sum_to F.ring j weighted_value)
          ≡ sum_to F.ring (suc j + left) weighted_value
      weight_moves ih = ring F.ring (rest ∷ weighted_value j ∷ sum_to F.ring j weighted_value ∷ []) (plus (plus (v 1) (v 0)) (v 2))
          (plus (v 0) (plus (v 1) (v 2))) refl ∙ ih

      by_test : (b d : Bool) → F.order.is_least (weight (operations_of F) m n t j) ≡ b
          → F.order.is_least (F.ring.neg (weight (operations_of F) m n t j)) ≡ d
          → F.ring.add rest (F.ring.add (weighted_value j) (sum_to F.ring j weighted_value)) ≡ sum_to F.ring (suc j + left) weighted_value
          → F.ring.add (ring_combination (operations_of F) (cond (not (b && d))
          ((j, weight (operations_of F) m n t j) ∷ weights_from_column (operations_of F) m n t (j + 1) left)
          (weights_from_column (operations_of F) m n t (j + 1) left)) f) (sum_to F.ring j weighted_value)
          ≡ sum_to F.ring (suc j + left) weighted_value
      by_test true true e d ih = null_weight_drops (F.order.strict (weight (operations_of F) m n t j) e d) ih
      by_test true false e d ih = weight_moves ih
      by_test false b e d ih = weight_moves ih

  -- the weights sum to the target
  pub weights_sum : (p : FeasibilityProblem A) (t : SimplexTable A) → HasInvariants (operations_of F) m n p t
      → IsDone (operations_of F) m n t → (k : ℕ) → k < m
      → ring_combination (operations_of F) (weights (operations_of F) m n t) (λ j. p.column j k) ≡ p.target k
  weights_sum p t h d k hk =
      ring F.ring (ring_combination (operations_of F) (weights (operations_of F) m n t) (λ j. p.column j k) ∷ []) (v 0) (plus (v 0) nil) refl
      ∙ combination_of_weights t (λ j. p.column j k) 0 n
      ∙ ap (λ i. sum_to F.ring i (λ j. F.ring.mul (weight (operations_of F) m n t j) (p.column j k))) zero_plus ∙ by_columns p t k
      ∙ sym (target_is p t h d k hk)
    where
      zero_plus : 0 + n ≡ n
      zero_plus = omega arith

  weight_least : (p : FeasibilityProblem A) (t : SimplexTable A) → HasInvariants (operations_of F) m n p t → (j : ℕ)
      → IsAtLeastZero F (weight (operations_of F) m n t j)
  weight_least p t h j = sum_least F m (λ i. cond (eqb (t.basis i) j) (t.entry i (n + m)) F.ring.null) (λ i l. for_each i l (eqb (t.basis i) j))
    where
      for_each : (i : ℕ) → i < m → (b : Bool) → IsAtLeastZero F (cond b (t.entry i (n + m)) F.ring.null)
      for_each i l true = h.rights i l
      for_each i l false = null-least F

  weights_from_less : (from to : ℕ) (ws : List (ℕ × A)) → from ≤ to → AreWeights (operations_of F) n to ws → AreWeights (operations_of F) n from ws
  weights_from_less from to [] h a = tt
  weights_from_less from to (w ∷ ws) h a = (omega (arith, a.0), a.1, a.2, a.3)

  pub weights_are : (p : FeasibilityProblem A) (t : SimplexTable A) → HasInvariants (operations_of F) m n p t
      → AreWeights (operations_of F) n 0 (weights (operations_of F) m n t)
  weights_are p t h = rest_are_weights 0 n (omega arith)
    where
      rest_are_weights : (j left : ℕ) → j + left ≡ n → AreWeights (operations_of F) n j (weights_from_column (operations_of F) m n t j left)
      rest_are_weights j zero e = tt
      rest_are_weights j (suc left) e = by_test (F.order.is_least (weight (operations_of F) m n t j))
          (F.order.is_least (F.ring.neg (weight (operations_of F) m n t j))) refl refl
          (weights_from_less (suc j) (j + 1) (weights_from_column (operations_of F) m n t (j + 1) left) (omega arith)
          (rest_are_weights (j + 1) left (omega arith)))
        where
          by_test : (b d : Bool) → F.order.is_least (weight (operations_of F) m n t j) ≡ b
              → F.order.is_least (F.ring.neg (weight (operations_of F) m n t j)) ≡ d
              → AreWeights (operations_of F) n (suc j) (weights_from_column (operations_of F) m n t (j + 1) left)
              → AreWeights (operations_of F) n j (cond (not (b && d)) ((j, weight (operations_of F) m n t j)
              ∷ weights_from_column (operations_of F) m n t (j + 1) left) (weights_from_column (operations_of F) m n t (j + 1) left))
          by_test true true f g ih = weights_from_less j (suc j) (weights_from_column (operations_of F) m n t (j + 1) left) (omega arith) ih
          by_test true false f g ih = (omega arith, omega arith, g, ih)
          by_test false d f g ih = absurd (not_both F (weight (operations_of F) m n t j) f (weight_least p t h j))

  -- the list of the point's values
  point_length : (p : FeasibilityProblem A) (t : SimplexTable A) (k left : ℕ) → length (point_from_row (operations_of F) m n p t k left) ≡ left
  point_length p t k zero = refl
  point_length p t k (suc left) = let e = point_length p t (k + 1) left in omega (arith, e)

  point_entry_is : (p : FeasibilityProblem A) (t : SimplexTable A) (k left i : ℕ) → i < left
      → get_or (point_from_row (operations_of F) m n p t k left) i F.ring.null ≡ point_value (operations_of F) m n p t (k + i)
  point_entry_is p t k zero i l = absurd (omega arith)
  point_entry_is p t k (suc left) zero l = let e : k ≡ k + 0 = omega arith in ap (point_value (operations_of F) m n p t) e
  point_entry_is p t k (suc left) (suc i) l = let e : k + 1 + i ≡ k + suc i = omega arith
      in point_entry_is p t (k + 1) left i (omega arith) ∙ ap (point_value (operations_of F) m n p t) e

  -- the value of a row that is f at each coordinate is its cost
  point_value_of_column : (p : FeasibilityProblem A) (t : SimplexTable A) (f : ℕ → A) (j : ℕ) → HasInvariants (operations_of F) m n p t
      → ((k : ℕ) → k < m → start_row (operations_of F) m n p k j ≡ F.ring.mul (sign (operations_of F) p k) (f k))
      → value_at_point (operations_of F) m n (point (operations_of F) m n p t) f ≡ t.entry m j
  point_value_of_column p t f j h e =
      sum_same F.ring m (λ k. F.ring.mul (f k) (get_or (point (operations_of F) m n p t) k F.ring.null))
      (λ k. F.ring.mul (t.entry m (n + k)) (start_row (operations_of F) m n p k j))
      (λ k l. ap (F.ring.mul (f k)) (point_entry_is p t 0 m k l ∙ ap (point_value (operations_of F) m n p t) (from_zero k))
      ∙ ring F.ring (f k ∷ sign (operations_of F) p k ∷ t.entry m (n + k) ∷ []) (times (v 0) (times (v 1) (v 2)))
      (times (v 2) (times (v 1) (v 0))) refl ∙ ap (F.ring.mul (t.entry m (n + k))) (sym (e k l)))
      ∙ sym (h.combines m j (omega arith))
    where
      from_zero : (k : ℕ) → 0 + k ≡ k
      from_zero k = omega arith

  -- at an end by weights they are right
  pub weights_right : (p : FeasibilityProblem A) (t : SimplexTable A) → HasInvariants (operations_of F) m n p t
      → IsDone (operations_of F) m n t → SumsUp (operations_of F) m n p (weights (operations_of F) m n t)
  weights_right p t h d = record { ordered = weights_are p t h; sum_is = λ k l. weights_sum p t h d k l }

  -- at an end by a point each column has a value of at least 0, and the target a value below 0
  pub point_right : (p : FeasibilityProblem A) (t : SimplexTable A) → HasInvariants (operations_of F) m n p t
      → ¬ (IsDone (operations_of F) m n t) → IsStuck (operations_of F) m n t
      → Separates (operations_of F) m n p (point (operations_of F) m n p t)
  point_right p t h d s = record {
    complete = point_length p t 0 m;
    columns = λ j l. subst (IsAtLeastZero F) (sym (point_value_of_column p t (p.column j) j h (λ k _. row_column F m n p k j l))) (s j l);
    below = subst (IsBelowZero F) (sym (point_value_of_column p t p.target (n + m) h (λ k _. row_right F m n p k)))
        (below-from F (t.entry m (n + m)) (right_at_most p t h) d);
  }
