-- The meaning of the ends of the three phases by weights and by points.
use Rattle.std.proofs.Common.{◌≡◌, ℕ, ◌+◌, ◌-◌, ◌<◌, ◌≤◌, ℤ, pos, neg_ℤ, ◌+ℤ◌, List, [], ◌∷◌, ◌++◌, length, map, take, drop, Bool, true, false, cond, nat_eq, eq-eqb, ne_eqb, refl, sym, ap, ap₂, subst, ◌∙◌, arith, slice_index_or}
use Rattle.std.proofs.lemmas.List.{length-map, length-take, length-drop, length-append}
use Rattle.std.proofs.Math.IntN.{+ℤ_idl, +ℤ_idr}
use Rattle.it_number.proofs.Ring.{ring, v, nil}
use Rattle.it_closure.specs.Sizes.{column_count}
use Rattle.it_best.proofs.UnknownNumbers.{unknown_number, unknown_numbers}
use Rattle.it_number.proofs.Ring as S
use Rattle.it_rational.specs.Rational.{Rational, integer, plus, times, minus}
use Rattle.it_rational.proofs.RationalLaws.{ring_ℚ}
use Rattle.it_problems.specs.declared.problems.Kind.TheVariants.{Inequality, Equation}
use Rattle.it_problems.specs.Problems.{ProblemView, IsProblem}
use Rattle.it_space.specs.Rows.{Terms, IsOver, coefficient, value, negated_terms}
use Rattle.it_space.specs.Spaces.{size_of}
use Rattle.it_space.proofs.EveryLemmas.{all_of, every-same, every-map, every_all}
use Rattle.it_space.proofs.TermLemmas.{coefficient-append, coefficient-negated_terms}
use Rattle.it_polymatroid.specs.Elementals.{span}
use Rattle.it_polymatroid.proofs.Spans.{length-span}
use Rattle.it_tableau.specs.Operations.{rationals}
use Rattle.it_tableau.specs.Problems.{feasibility_problem}
use Rattle.it_run.specs.Readings.{SumsUp}
use Rattle.it_run.specs.RowValues.{rational_value}
use Rattle.it_elemental.specs.Generators.{Generator, generators, generator_at}
use Rattle.it_elemental.proofs.GeneratorLemmas.{rows_of_space, no_coefficient_beyond}
use Rattle.it_columns.specs.Columns.{columns, numbers_from}
use Rattle.it_best.specs.Factors.{IsFactor, ground_of}
use Rattle.it_best.specs.Numbers.{column_weight, numbers, weights_certificate}
use Rattle.it_best.specs.Phases.{counterweight, coordinate_unknown, coordinate_row, first_phase, slacks, third_phase, third_target, left_equation, right_equation}
use Rattle.it_best.proofs.NumberLemmas.{number_sum, numbers_sum_up, AreNumbers, numbers_signed, length-numbers_from}
use Rattle.it_best.proofs.CertificateLemmas.{factor_certified}
use Rattle.it_best.proofs.EquationLemmas.{number_sum-append, number_sum-none, values_equation, coordinate_at_low, coordinate_at_generator, coordinate_at_left, coordinate_at_right, coordinate_by, slacks_apart, slack_sum, IsSlack, are_numbers-append}
use Rattle.it_best.proofs.WholePoints.{rational_map}

null_plus : (x : Rational) → plus (integer (pos 0)) x ≡ x
null_plus x = ring ring_ℚ (x ∷ []) (S.plus nil (v 0)) (v 0) refl

plus_null : (x : Rational) → plus x (integer (pos 0)) ≡ x
plus_null x = ring ring_ℚ (x ∷ []) (S.plus (v 0) nil) (v 0) refl

take_all : (xs : List Rational) (n : ℕ) → length xs ≡ n → take n xs ≡ xs
take_all xs n e = ap (λ m. take m xs) (sym e) ∙ Rattle.std.proofs.lemmas.List.take_all (length xs) xs (omega arith)

-- ---- the first phase

module _ (q : ProblemView) (left right : Terms) (ws : List (ℕ × Rational))
    (s : SumsUp rationals (length (span 1 (size_of q.space))) (length (columns (first_phase (generators q) left)))
    (feasibility_problem (span 1 (size_of q.space)) (columns (first_phase (generators q) left)) right) ws) where
  abbrev first_rest : List Rational
  first_rest = unknown_numbers (0 + column_count Equation) (map counterweight (generators q)) (column_weight ws)

  first_numbers : numbers (first_phase (generators q) left) ws ≡ unknown_number Equation (column_weight ws) 0 ∷ first_rest
  unfolding first_phase numbers_from
  first_numbers = refl

  rest_length : length first_rest ≡ length (generators q)
  rest_length = length-numbers_from (map counterweight (generators q)) (0 + column_count Equation) (column_weight ws) ∙ length-map (generators q) counterweight

  rest_is : take (length (generators q)) (drop 1 (numbers (first_phase (generators q) left) ws)) ≡ first_rest
  rest_is = ap (λ (xs : List Rational). take (length (generators q)) (drop 1 xs)) first_numbers ∙ take_all first_rest (length (generators q)) rest_length

  first_signed : AreNumbers first_rest (map counterweight (generators q))
  unfolding first_phase numbers_from
  first_signed = (numbers_signed (first_phase (generators q) left) (length (columns (first_phase (generators q) left))) ws s.ordered).1

  first_sum : (c : ℕ) → 1 ≤ c → c ≤ size_of q.space
      → plus (times (unknown_number Equation (column_weight ws) 0) (integer (coefficient left c)))
      (number_sum c first_rest (map counterweight (generators q))) ≡ integer (coefficient right c)
  unfolding first_phase numbers_from
  first_sum c h l = numbers_sum_up (size_of q.space) (first_phase (generators q) left) right ws s c h l

  abbrev first_ns : List Rational
  first_ns = numbers (first_phase (generators q) left) ws

  pub first_right : IsFactor (ground_of q) (value left) (value right) (slice_index_or first_ns 0 (integer (pos 0))).num
      (pos (slice_index_or first_ns 0 (integer (pos 0))).den)
      (weights_certificate (pos (slice_index_or first_ns 0 (integer (pos 0))).den) (take (length (generators q)) (drop 1 first_ns)))
  first_right = subst (λ (ns : List Rational). IsFactor (ground_of q) (value left) (value right) (slice_index_or ns 0 (integer (pos 0))).num
      (pos (slice_index_or ns 0 (integer (pos 0))).den) (weights_certificate (pos (slice_index_or ns 0 (integer (pos 0))).den)
      (take (length (generators q)) (drop 1 ns)))) (sym first_numbers)
      (subst (λ (xs : List Rational). IsFactor (ground_of q) (value left) (value right) (unknown_number Equation (column_weight ws) 0).num
      (pos (unknown_number Equation (column_weight ws) 0).den) (weights_certificate
      (pos (unknown_number Equation (column_weight ws) 0).den) xs))
      (sym (take_all first_rest (length (generators q)) rest_length))
      (factor_certified q left right (unknown_number Equation (column_weight ws) 0) first_rest rest_length first_signed first_sum))

-- ---- the third phase

module _ (q : ProblemView) (left right : Terms) (k : IsProblem q) (l : IsOver (size_of q.space) left) (r : IsOver (size_of q.space) right)
    (ws : List (ℕ × Rational)) where
  abbrev size : ℕ
  size = size_of q.space

  abbrev gs : List Generator
  gs = generators q

  abbrev third : List Generator
  third = third_phase q.space.variables size gs left right

  abbrev equations : List ℕ
  equations = span 1 (right_equation size gs)

  abbrev weights_of_gs : List Generator
  weights_of_gs = map counterweight gs

  abbrev values_of_gs : List Generator
  values_of_gs = map (coordinate_unknown q.space.variables size gs left right) (span 1 size)

  abbrev factor_row : Terms
  factor_row = left ++ (right_equation size gs, neg_ℤ (pos 1)) ∷ []

  abbrev pub tail : List Generator
  tail = weights_of_gs ++ (values_of_gs ++ slacks (size + 1) gs)

  abbrev pub ns : List Rational
  ns = numbers third ws

  abbrev pub x : Rational
  x = unknown_number Equation (column_weight ws) 0

  abbrev pub rest : List Rational
  rest = unknown_numbers (0 + column_count Equation) tail (column_weight ws)

  abbrev pub xs : List Rational
  xs = take (length gs) rest

  abbrev pub hs : List Rational
  hs = take size (drop (length gs) rest)

  abbrev pub ss : List Rational
  ss = drop size (drop (length gs) rest)

  third_numbers : ns ≡ x ∷ rest
  unfolding third_phase numbers_from
  third_numbers = refl

  pub factor_is : slice_index_or ns 0 (integer (pos 0)) ≡ x
  factor_is = ap (λ (xs : List Rational). slice_index_or xs 0 (integer (pos 0))) third_numbers

  pub weights_are : take (length gs) (drop 1 ns) ≡ xs
  weights_are = ap (λ (xs : List Rational). take (length gs) (drop 1 xs)) third_numbers

  pub values_are : take size (drop (length gs) (drop 1 ns)) ≡ hs
  values_are = ap (λ (xs : List Rational). take size (drop (length gs) (drop 1 xs))) third_numbers

  count_weights : length weights_of_gs ≡ length gs
  count_weights = length-map gs counterweight

  count_values : length values_of_gs ≡ size
  count_values = length-map (span 1 size) (coordinate_unknown q.space.variables size gs left right) ∙ length-span 1 size

  count_rest : length rest ≡ length gs + (size + length (slacks (size + 1) gs))
  count_rest = length-numbers_from tail (0 + column_count Equation) (column_weight ws) ∙ length-append weights_of_gs (values_of_gs ++ slacks (size + 1) gs)
      ∙ ap₂ (λ (a b : ℕ). a + b) count_weights (length-append values_of_gs (slacks (size + 1) gs) ∙ ap (λ a. a + length (slacks (size + 1) gs)) count_values)

  pub xs_length : length xs ≡ length gs
  xs_length = length-take (length gs) rest ∙ omega (arith, count_rest)

  pub hs_length : length hs ≡ size
  hs_length = length-take size (drop (length gs) rest) ∙ ap (λ m. Rattle.std.proofs.Common.min size m) (length-drop (length gs) rest)
      ∙ omega (arith, count_rest)

  module _ (s : SumsUp rationals (length equations) (length (columns third))
      (feasibility_problem equations (columns third) (third_target size gs right)) ws) where
    rest_signed : AreNumbers rest tail
    unfolding third_phase numbers_from
    rest_signed = (numbers_signed third (length (columns third)) ws s.ordered).1

    signs : AreNumbers xs weights_of_gs × (AreNumbers hs values_of_gs × AreNumbers ss (slacks (size + 1) gs))
    signs =
        let one = are_numbers-append rest weights_of_gs (values_of_gs ++ slacks (size + 1) gs) rest_signed in
        let a : AreNumbers xs weights_of_gs = subst (λ n. AreNumbers (take n rest) weights_of_gs) count_weights one.0 in
        let b : AreNumbers (drop (length gs) rest) (values_of_gs ++ slacks (size + 1) gs) = subst
        (λ n. AreNumbers (drop n rest) (values_of_gs ++ slacks (size + 1) gs)) count_weights one.1 in
        let two = are_numbers-append (drop (length gs) rest) values_of_gs (slacks (size + 1) gs) b in (
          a,
          (
            subst (λ n. AreNumbers (take n (drop (length gs) rest)) values_of_gs) count_values two.0,
            subst
                (λ n. AreNumbers (drop n (drop (length gs) rest)) (slacks (size + 1) gs)) count_values two.1,
          ),
        )

    -- the sum of each equation, piece by piece
    equation_sum : (e : ℕ) → 1 ≤ e → e ≤ right_equation size gs
        → plus (times x (integer (coefficient factor_row e))) (plus (number_sum e xs weights_of_gs)
        (plus (number_sum e hs values_of_gs) (number_sum e ss (slacks (size + 1) gs))))
        ≡ integer (coefficient (third_target size gs right) e)
    unfolding third_phase numbers_from
    equation_sum e h m = ap (plus (times x (integer (coefficient factor_row e)))) (sym pieces) ∙ whole
      where
        whole : plus (times x (integer (coefficient factor_row e))) (number_sum e rest tail) ≡ integer (coefficient (third_target size gs right) e)
        whole = numbers_sum_up (right_equation size gs) third (third_target size gs right) ws s e h m

        pieces : number_sum e rest tail ≡ plus (number_sum e xs weights_of_gs) (plus (number_sum e hs values_of_gs) (number_sum e ss (slacks (size + 1) gs)))
        pieces = number_sum-append e rest weights_of_gs (values_of_gs ++ slacks (size + 1) gs)
            ∙ ap (λ n. plus (number_sum e (take n rest) weights_of_gs) (number_sum e (drop n rest) (values_of_gs ++ slacks (size + 1) gs))) count_weights
            ∙ ap (plus (number_sum e xs weights_of_gs)) (number_sum-append e (drop (length gs) rest) values_of_gs (slacks (size + 1) gs)
            ∙ ap (λ n. plus (number_sum e (take n (drop (length gs) rest)) values_of_gs)
            (number_sum e (drop n (drop (length gs) rest)) (slacks (size + 1) gs))) count_values)

    -- coefficients by equation
    factor_at : (e : ℕ) → coefficient factor_row e ≡ coefficient left e +ℤ (cond (nat_eq (right_equation size gs) e) (neg_ℤ (pos 1)) (pos 0) +ℤ pos 0)
    factor_at e = coefficient-append left ((right_equation size gs, neg_ℤ (pos 1)) ∷ []) e

    target_at : (e : ℕ) → coefficient (third_target size gs right) e ≡ coefficient right e +ℤ (cond (nat_eq (left_equation size gs) e) (pos 1) (pos 0) +ℤ pos 0)
    target_at e = coefficient-append right ((left_equation size gs, pos 1) ∷ []) e

    with_end : (a b y : ℤ) (t : Bool) (x : ℤ) → a ≡ b → t ≡ false → a +ℤ (cond t x (pos 0) +ℤ pos 0) ≡ b
    with_end a b y t x e f = ap₂ (λ z u. z +ℤ (cond u x (pos 0) +ℤ pos 0)) e f ∙ +ℤ_idr b

    at_end : (a : ℤ) (t : Bool) (x : ℤ) → a ≡ pos 0 → t ≡ true → a +ℤ (cond t x (pos 0) +ℤ pos 0) ≡ x
    at_end a t x e f = ap₂ (λ z u. z +ℤ (cond u x (pos 0) +ℤ pos 0)) e f ∙ +ℤ_idl (x +ℤ pos 0) ∙ +ℤ_idr x

    beyond : (row : Terms) (e : ℕ) → IsOver size row → size < e → coefficient row e ≡ pos 0
    beyond row e u h = no_coefficient_beyond size row e u h

    weights_beyond : (e : ℕ) → size < e → number_sum e xs weights_of_gs ≡ integer (pos 0)
    weights_beyond e h = number_sum-none e xs weights_of_gs (every-map (λ (u : Generator). coefficient u.row e ≡ pos 0) counterweight gs
        (every-same (λ g. IsOver size g.row) (λ g. coefficient (negated_terms g.row) e ≡ pos 0) gs
        (λ g u. coefficient-negated_terms e g.row ∙ ap neg_ℤ (beyond g.row e u h))
        (rows_of_space q.space.variables size q.constraints (omega arith) k.rows)))

    values_low : (e : ℕ) → e ≤ size → number_sum e hs values_of_gs ≡ integer (pos 0)
    values_low e h = number_sum-none e hs values_of_gs (every-map (λ (u : Generator). coefficient u.row e ≡ pos 0)
        (coordinate_unknown q.space.variables size gs left right) (span 1 size)
        (every_all (λ c. coefficient (coordinate_unknown q.space.variables size gs left right c).row e ≡ pos 0) (span 1 size)
        (λ c. coordinate_by size gs left right c q.space.variables e ∙ coordinate_at_low size gs left right c e h)))

    slacks_none : (e : ℕ) → ((j : ℕ) → j < length gs → size + 1 + j ≡ e → ⊥) → number_sum e ss (slacks (size + 1) gs) ≡ integer (pos 0)
    slacks_none e n = number_sum-none e ss (slacks (size + 1) gs) (slacks_apart (size + 1) gs e n)

    -- at the coordinates
    sides_sum : (c : ℕ) → 1 ≤ c → c ≤ size → plus (times x (integer (coefficient left c))) (number_sum c xs weights_of_gs) ≡ integer (coefficient right c)
    sides_sum c h m =
        ap₂ (λ y z. plus (times x (integer y)) z) (sym (factor_at c ∙ with_end (coefficient left c) (coefficient left c) (pos 0)
        (nat_eq (right_equation size gs) c) (neg_ℤ (pos 1)) refl (ne_eqb (right_equation size gs) c (λ e. omega (arith, e)))))
        (sym (ap (plus (number_sum c xs weights_of_gs)) (ap₂ plus (values_low c m) (slacks_none c (λ j n e. omega (arith, e)))
        ∙ null_plus (integer (pos 0))) ∙ plus_null (number_sum c xs weights_of_gs)))
        ∙ equation_sum c h (omega arith)
        ∙ ap integer (target_at c ∙ with_end (coefficient right c) (coefficient right c) (pos 0) (nat_eq (left_equation size gs) c)
        (pos 1) refl (ne_eqb (left_equation size gs) c (λ e. omega (arith, e))))

    -- past them
    high_sum : (e : ℕ) (row : Terms) → size < e → e ≤ right_equation size gs → IsOver size row
        → ((c : ℕ) → 1 ≤ c → c ≤ size → coefficient (coordinate_row size gs left right c) e ≡ coefficient row c)
        → plus (times x (integer (coefficient factor_row e))) (plus (rational_value row (rational_map hs))
        (number_sum e ss (slacks (size + 1) gs))) ≡ integer (coefficient (third_target size gs right) e)
    high_sum e row h m u same =
        ap (plus (times x (integer (coefficient factor_row e))))
        (ap (λ y. plus y (number_sum e ss (slacks (size + 1) gs))) (sym
        (values_equation e (coordinate_unknown q.space.variables size gs left right) row hs size hs_length u
        (λ c a b. coordinate_by size gs left right c q.space.variables e ∙ same c a b)))
        ∙ sym (null_plus (plus (number_sum e hs values_of_gs) (number_sum e ss (slacks (size + 1) gs))))
        ∙ ap (λ y. plus y (plus (number_sum e hs values_of_gs) (number_sum e ss (slacks (size + 1) gs)))) (sym (weights_beyond e h)))
        ∙ equation_sum e (omega arith) m

    slack_of : (y z : Rational) → plus (times x (integer (pos 0))) (plus y z) ≡ integer (pos 0) → y ≡ minus z
    slack_of y z e = ring ring_ℚ (y ∷ z ∷ x ∷ []) (S.v 0) (S.plus (S.plus (S.times (S.v 2) nil) (S.plus (S.v 0) (S.v 1))) (S.minus (S.v 1)))
        refl ∙ ap (λ w. plus w (minus z)) e ∙ null_plus (minus z)

    -- each generator is met by the values
    pub generator_value_is : (j : ℕ) → j < length gs → rational_value (generator_at gs j).row (rational_map hs)
        ≡ minus (number_sum (size + 1 + j) ss (slacks (size + 1) gs))
    generator_value_is j h = slack_of (rational_value (generator_at gs j).row (rational_map hs)) (number_sum (size + 1 + j) ss (slacks (size + 1) gs))
        (ap (λ y. plus (times x (integer y)) (plus (rational_value (generator_at gs j).row (rational_map hs))
        (number_sum (size + 1 + j) ss (slacks (size + 1) gs))))
        (sym (factor_at (size + 1 + j) ∙ with_end (coefficient left (size + 1 + j)) (pos 0) (pos 0)
        (nat_eq (right_equation size gs) (size + 1 + j)) (neg_ℤ (pos 1)) (beyond left (size + 1 + j) l (omega arith))
        (ne_eqb (right_equation size gs) (size + 1 + j) (λ e. omega (arith, e)))))
        ∙ high_sum (size + 1 + j) (generator_at gs j).row (omega arith) (omega arith)
        (all_of (λ g. IsOver size g.row) gs (rows_of_space q.space.variables size q.constraints (omega arith) k.rows) j
        (record { kind = Inequality; row = [] }) h)
        (λ c a b. coordinate_at_generator size gs left right c j h)
        ∙ ap integer (target_at (size + 1 + j) ∙ with_end (coefficient right (size + 1 + j)) (pos 0) (pos 0)
        (nat_eq (left_equation size gs) (size + 1 + j)) (pos 1) (beyond right (size + 1 + j) r (omega arith))
        (ne_eqb (left_equation size gs) (size + 1 + j) (λ e. omega (arith, e)))))

    pub generator_slack : (j : ℕ) → j < length gs → IsSlack (generator_at gs j).kind (number_sum (size + 1 + j) ss (slacks (size + 1) gs))
    generator_slack j h = slack_sum (size + 1) gs ss j signs.1.1 h

    -- the left side is 1 there, and the right one the factor
    pub left_value_is : rational_value left (rational_map hs) ≡ integer (pos 1)
    left_value_is =
        let e = left_equation size gs in
        ring ring_ℚ (rational_value left (rational_map hs) ∷ x ∷ []) (v 0) (S.plus (S.times (v 1) nil) (S.plus (v 0) nil)) refl
        ∙ ap₂ (λ y z. plus (times x (integer y)) (plus (rational_value left (rational_map hs)) z))
        (sym (factor_at e ∙ with_end (coefficient left e) (pos 0) (pos 0) (nat_eq (right_equation size gs) e) (neg_ℤ (pos 1))
        (beyond left e l (omega arith)) (ne_eqb (right_equation size gs) e (λ f. omega (arith, f)))))
        (sym (slacks_none e (λ j n f. omega (arith, n, f))))
        ∙ high_sum e left (omega arith) (omega arith) l (λ c a b. coordinate_at_left size gs left right c)
        ∙ ap integer (target_at e ∙ at_end (coefficient right e) (nat_eq (left_equation size gs) e) (pos 1) (beyond right e r (omega arith))
        (eq-eqb (left_equation size gs) e refl))

    pub right_value_is : rational_value right (rational_map hs) ≡ x
    right_value_is =
        let e = right_equation size gs in
        let equation : plus (times x (integer (neg_ℤ (pos 1)))) (plus (rational_value right (rational_map hs)) (integer (pos 0))) ≡ integer (pos 0) =
        ap₂ (λ y z. plus (times x (integer y)) (plus (rational_value right (rational_map hs)) z))
        (sym (factor_at e ∙ at_end (coefficient left e) (nat_eq (right_equation size gs) e) (neg_ℤ (pos 1)) (beyond left e l (omega arith))
        (eq-eqb (right_equation size gs) e refl)))
        (sym (slacks_none e (λ j n f. omega (arith, n, f))))
        ∙ high_sum e right (omega arith) (omega arith) r (λ c a b. coordinate_at_right size gs left right c)
        ∙ ap integer (target_at e ∙ with_end (coefficient right e) (pos 0) (pos 0) (nat_eq (left_equation size gs) e) (pos 1)
        (beyond right e r (omega arith)) (ne_eqb (left_equation size gs) e (λ f. omega (arith, f)))) in
        ring ring_ℚ (rational_value right (rational_map hs) ∷ x ∷ []) (v 0) (S.plus (S.plus (S.times (v 1) (S.minus S.one)) (S.plus (v 0) nil)) (v 1)) refl
        ∙ ap (λ y. plus y x) (ap (λ y. plus (times x y) (plus (rational_value right (rational_map hs)) (integer (pos 0))))
        (sym (Rattle.it_columns.proofs.Wholes.whole_minus (pos 1))) ∙ equation)
        ∙ null_plus x

    pub third_factor_right : IsFactor (ground_of q) (value left) (value right) x.num (pos x.den) (weights_certificate (pos x.den) xs)
    third_factor_right = factor_certified q left right x xs xs_length signs.0 sides_sum
