-- The equations of the third phase, one after the other: conditions on the factor, on the weights and on the point's values.
use Rattle.std.proofs.Common.{◌≡◌, ℕ, zero, suc, ◌+◌, ◌^◌, ◌<◌, ◌≤◌, ℤ, pos, neg_ℤ, ◌+ℤ◌, List, [], ◌∷◌, ◌++◌, length, map, get_or, take, drop, Bool, true, false, cond, nat_eq, nat_lt, eq-eqb, ne_eqb, refl, sym, ap, ap₂, subst, ◌∙◌, arith}
use Rattle.std.specs.List.{AllByRecursion as Every}
use Rattle.std.proofs.Math.IntN.{+ℤ_idl, +ℤ_idr}
use Rattle.it_number.proofs.Ring.{ring, v, nil}
use Rattle.it_number.proofs.Ring as S
use Rattle.it_rational.specs.Rational.{Rational, integer, plus, times, minus, is_at_least_zero}
use Rattle.it_rational.proofs.RationalLaws.{ring_ℚ}
use Rattle.it_problems.specs.declared.problems.Kind.{Kind}
use Rattle.it_problems.specs.declared.problems.Kind.TheVariants.{Inequality, Equation}
use Rattle.it_space.specs.Rows.{Terms, IsOver, coefficient, single_term}
use Rattle.it_space.proofs.EveryLemmas.{every_of, every-append}
use Rattle.it_space.proofs.TermLemmas.{coefficient-append, coefficient-single_term}
use Rattle.it_polymatroid.specs.Elementals.{span}
use Rattle.it_run.specs.RowValues.{rational_value}
use Rattle.it_run.proofs.RowValues.{whole_plus}
use Rattle.it_elemental.specs.Generators.{Generator, generator_at}
use Rattle.it_columns.proofs.Wholes.{whole_minus}
use Rattle.it_best.specs.Phases.{coordinate_terms, coordinate_row, coordinate_unknown, slack_by, slacks, left_equation, right_equation}
use Rattle.it_best.proofs.NumberLemmas.{number_sum, AreNumbers, zero_least}
use Rattle.it_best.proofs.WholePoints.{rational_map}

-- ---- sums of numbers over pieces of a list of unknowns

null_plus : (x : Rational) → plus (integer (pos 0)) x ≡ x
null_plus x = ring ring_ℚ (x ∷ []) (S.plus nil (v 0)) (v 0) refl

plus_null : (x : Rational) → plus x (integer (pos 0)) ≡ x
plus_null x = ring ring_ℚ (x ∷ []) (S.plus (v 0) nil) (v 0) refl

times_null : (x : Rational) → times x (integer (pos 0)) ≡ integer (pos 0)
times_null x = ring ring_ℚ (x ∷ []) (S.times (v 0) nil) nil refl

pub number_sum-append : (c : ℕ) (xs : List Rational) (us vs : List Generator)
    → number_sum c xs (us ++ vs) ≡ plus (number_sum c (take (length us) xs) us) (number_sum c (drop (length us) xs) vs)
number_sum-append c xs [] vs = sym (null_plus (number_sum c xs vs)) ∙ ap (λ ys. plus (integer (pos 0)) (number_sum c ys vs)) (sym (drop_none xs))
  where
    drop_none : (ys : List Rational) → drop 0 ys ≡ ys
    drop_none ys = refl
number_sum-append c [] (u ∷ us) vs = sym (null_plus (integer (pos 0)))
number_sum-append c (x ∷ xs) (u ∷ us) vs = ap (plus (times x (integer (coefficient u.row c)))) (number_sum-append c xs us vs)
    ∙ ring ring_ℚ (times x (integer (coefficient u.row c)) ∷ number_sum c (take (length us) xs) us ∷ number_sum c (drop (length us) xs) vs ∷ [])
    (S.plus (v 0) (S.plus (v 1) (v 2))) (S.plus (S.plus (v 0) (v 1)) (v 2)) refl

-- unknowns without a coefficient add nothing
pub number_sum-none : (c : ℕ) (xs : List Rational) (us : List Generator) → Every (λ u. coefficient u.row c ≡ pos 0) us → number_sum c xs us ≡ integer (pos 0)
number_sum-none c [] us e = refl
number_sum-none c (x ∷ xs) [] e = refl
number_sum-none c (x ∷ xs) (u ∷ us) e = ap₂ (λ y z. plus (times x (integer y)) z) e.0 (number_sum-none c xs us e.1)
    ∙ ap (λ y. plus y (integer (pos 0))) (times_null x) ∙ null_plus (integer (pos 0))

-- ---- the values of a point

abbrev coordinate_sum : (ℕ → ℤ) → ℕ → List Rational → Rational
coordinate_sum f c [] = integer (pos 0)
coordinate_sum f c (h ∷ hs) = plus (times h (integer (f c))) (coordinate_sum f (c + 1) hs)

coordinate_sum-null : (c : ℕ) (hs : List Rational) → coordinate_sum (λ d. pos 0) c hs ≡ integer (pos 0)
coordinate_sum-null c [] = refl
coordinate_sum-null c (h ∷ hs) = ap₂ plus (times_null h) (coordinate_sum-null (c + 1) hs) ∙ null_plus (integer (pos 0))

coordinate_sum-add : (f g : ℕ → ℤ) (c : ℕ) (hs : List Rational) → coordinate_sum (λ d. f d +ℤ g d) c hs ≡ plus (coordinate_sum f c hs) (coordinate_sum g c hs)
coordinate_sum-add f g c [] = sym (null_plus (integer (pos 0)))
coordinate_sum-add f g c (h ∷ hs) = ap₂ (λ y z. plus (times h y) z) (whole_plus (f c) (g c)) (coordinate_sum-add f g (c + 1) hs)
    ∙ ring ring_ℚ (h ∷ integer (f c) ∷ integer (g c) ∷ coordinate_sum f (c + 1) hs ∷ coordinate_sum g (c + 1) hs ∷ [])
    (S.plus (S.times (v 0) (S.plus (v 1) (v 2))) (S.plus (v 3) (v 4))) (S.plus (S.plus (S.times (v 0) (v 1)) (v 3)) (S.plus (S.times (v 0) (v 2)) (v 4))) refl

coordinate_sum-past : (t : ℕ) (x : ℤ) (c : ℕ) (hs : List Rational) → t < c → coordinate_sum (λ d. cond (nat_eq t d) x (pos 0)) c hs ≡ integer (pos 0)
coordinate_sum-past t x c [] l = refl
coordinate_sum-past t x c (h ∷ hs) l = ap₂ (λ b y. plus (times h (integer (cond b x (pos 0)))) y) (ne_eqb t c (λ e. omega arith))
    (coordinate_sum-past t x (c + 1) hs (omega arith))
    ∙ ap (λ y. plus y (integer (pos 0))) (times_null h) ∙ null_plus (integer (pos 0))

coordinate_sum-one : (t : ℕ) (x : ℤ) (c i : ℕ) (hs : List Rational) → i < length hs → t ≡ c + i
    → coordinate_sum (λ d. cond (nat_eq t d) x (pos 0)) c hs ≡ times (integer x) (get_or hs i (integer (pos 0)))
coordinate_sum-one t x c i [] l e = absurd (omega arith)
coordinate_sum-one t x c zero (h ∷ hs) l e = ap₂ (λ b y. plus (times h (integer (cond b x (pos 0)))) y) (eq-eqb t c (omega arith))
    (coordinate_sum-past t x (c + 1) hs (omega arith))
    ∙ ring ring_ℚ (h ∷ integer x ∷ []) (S.plus (S.times (v 0) (v 1)) nil) (S.times (v 1) (v 0)) refl
coordinate_sum-one t x c (suc i) (h ∷ hs) l e = ap₂ (λ b y. plus (times h (integer (cond b x (pos 0)))) y) (ne_eqb t c (λ q. omega arith))
    (coordinate_sum-one t x (c + 1) i hs (omega arith) (omega arith))
    ∙ ap (λ y. plus y (times (integer x) (get_or hs i (integer (pos 0))))) (times_null h) ∙ null_plus (times (integer x) (get_or hs i (integer (pos 0))))

-- the sum over the coordinates of a row is its value
row_value : (row : Terms) (hs : List Rational) → Every (λ (t : ℕ × ℤ). (1 ≤ t.0) × (t.0 ≤ length hs)) row
    → coordinate_sum (coefficient row) 1 hs ≡ rational_value row (rational_map hs)
row_value [] hs u = coordinate_sum-null 1 hs
row_value (t ∷ ts) hs u = coordinate_sum-add (λ d. cond (nat_eq t.0 d) t.1 (pos 0)) (coefficient ts) 1 hs
    ∙ ap₂ plus (one t.0 t.1 u.0.0 u.0.1) (row_value ts hs u.1)
  where
    one : (c : ℕ) (x : ℤ) → 1 ≤ c → c ≤ length hs → coordinate_sum (λ d. cond (nat_eq c d) x (pos 0)) 1 hs ≡ times (integer x) (rational_map hs c)
    one zero x h l = absurd (omega arith)
    one (suc c) x h l = coordinate_sum-one (suc c) x 1 c hs (omega arith) (omega arith)

values_sum : (e : ℕ) (U : ℕ → Generator) (f : ℕ → ℤ) (c : ℕ) (hs : List Rational) → ((d : ℕ) → c ≤ d → d < c + length hs → coefficient (U d).row e ≡ f d)
    → number_sum e hs (map U (span c (length hs))) ≡ coordinate_sum f c hs
values_sum e U f c [] s = refl
values_sum e U f c (h ∷ hs) s = ap₂ (λ y z. plus (times h (integer y)) z) (s c (omega arith) (omega arith))
    (values_sum e U f (c + 1) hs (λ d l m. s d (omega arith) (omega arith)))

-- where unknowns have the coefficients of a row at an equation, the sum is the row's value at their numbers
pub values_equation : (e : ℕ) (U : ℕ → Generator) (row : Terms) (hs : List Rational) (size : ℕ) → length hs ≡ size → IsOver size row
    → ((d : ℕ) → 1 ≤ d → d ≤ size → coefficient (U d).row e ≡ coefficient row d)
    → number_sum e hs (map U (span 1 size)) ≡ rational_value row (rational_map hs)
values_equation e U row hs size len u s =
    ap (λ n. number_sum e hs (map U (span 1 n))) (sym len)
    ∙ values_sum e U (coefficient row) 1 hs (λ d l m. s d l (omega (arith, len, m)))
    ∙ row_value row hs (every_of (λ (t : ℕ × ℤ). (1 ≤ t.0) × (t.0 ≤ length hs)) row (subst (λ n. IsOver n row) (sym len) u))

-- ---- coefficients by equation

single_at : (e : ℕ) (x : ℤ) → coefficient (single_term e x) e ≡ x
single_at e x = coefficient-single_term e x e ∙ ap (λ b. cond b x (pos 0)) (eq-eqb e e refl)

single_apart : (e : ℕ) (x : ℤ) (d : ℕ) → (e ≡ d → ⊥) → coefficient (single_term e x) d ≡ pos 0
single_apart e x d n = coefficient-single_term e x d ∙ ap (λ b. cond b x (pos 0)) (ne_eqb e d n)

terms_apart : (e : ℕ) (gs : List Generator) (c d : ℕ) → ((j : ℕ) → j < length gs → e + j ≡ d → ⊥) → coefficient (coordinate_terms e gs c) d ≡ pos 0
unfolding coordinate_terms
terms_apart e [] c d n = refl
terms_apart e (g ∷ gs) c d n =
    coefficient-append (single_term e (coefficient g.row c)) (coordinate_terms (e + 1) gs c) d
    ∙ ap₂ (λ x y. x +ℤ y) (single_apart e (coefficient g.row c) d (λ q. n 0 (omega arith) (omega (arith, q))))
    (terms_apart (e + 1) gs c d (λ j l q. n (suc j) (omega arith) (omega (arith, q))))

terms_at : (e : ℕ) (gs : List Generator) (c j : ℕ) → j < length gs → coefficient (coordinate_terms e gs c) (e + j) ≡ coefficient (generator_at gs j).row c
unfolding coordinate_terms
terms_at e [] c j l = absurd (omega arith)
terms_at e (g ∷ gs) c zero l =
    coefficient-append (single_term e (coefficient g.row c)) (coordinate_terms (e + 1) gs c) (e + zero)
    ∙ ap₂ (λ x y. x +ℤ y) (ap (coefficient (single_term e (coefficient g.row c))) (more e) ∙ single_at e (coefficient g.row c))
    (terms_apart (e + 1) gs c (e + zero) (λ j m q. omega (arith, q)))
    ∙ +ℤ_idr (coefficient g.row c)
  where
    more : (e : ℕ) → e + zero ≡ e
    more e = omega arith
terms_at e (g ∷ gs) c (suc j) l =
    coefficient-append (single_term e (coefficient g.row c)) (coordinate_terms (e + 1) gs c) (e + suc j)
    ∙ ap₂ (λ x y. x +ℤ y) (single_apart e (coefficient g.row c) (e + suc j) (λ q. omega (arith, q)))
    (ap (coefficient (coordinate_terms (e + 1) gs c)) (next e j) ∙ terms_at (e + 1) gs c j (omega arith))
    ∙ +ℤ_idl (coefficient (generator_at gs j).row c)
  where
    next : (e j : ℕ) → e + suc j ≡ e + 1 + j
    next e j = omega arith

-- of the value of a coordinate
module _ (size : ℕ) (gs : List Generator) (left right : Terms) (c : ℕ) where
  abbrev sides : Terms
  sides = single_term (left_equation size gs) (coefficient left c) ++ single_term (right_equation size gs) (coefficient right c)

  at_sum : (d : ℕ) → coefficient (coordinate_row size gs left right c) d
      ≡ coefficient (coordinate_terms (size + 1) gs c) d +ℤ (coefficient (single_term (left_equation size gs) (coefficient left c)) d
      +ℤ coefficient (single_term (right_equation size gs) (coefficient right c)) d)
  at_sum d = coefficient-append (coordinate_terms (size + 1) gs c) sides d
      ∙ ap (λ y. coefficient (coordinate_terms (size + 1) gs c) d +ℤ y) (coefficient-append
      (single_term (left_equation size gs) (coefficient left c)) (single_term (right_equation size gs) (coefficient right c)) d)

  all_three : (x y z a b e : ℤ) → x ≡ a → y ≡ b → z ≡ e → x +ℤ (y +ℤ z) ≡ a +ℤ (b +ℤ e)
  all_three x y z a b e p q r = ap₂ (λ s t. s +ℤ t) p (ap₂ (λ s t. s +ℤ t) q r)

  pub coordinate_at_low : (d : ℕ) → d ≤ size → coefficient (coordinate_row size gs left right c) d ≡ pos 0
  coordinate_at_low d l = at_sum d ∙ all_three _ _ _ (pos 0) (pos 0) (pos 0) (terms_apart (size + 1) gs c d (λ j m q. omega (arith, q)))
      (single_apart (left_equation size gs) (coefficient left c) d (λ q. omega (arith, q)))
      (single_apart (right_equation size gs) (coefficient right c) d (λ q. omega (arith, q)))

  pub coordinate_at_generator : (j : ℕ) → j < length gs → coefficient (coordinate_row size gs left right c) (size + 1 + j)
      ≡ coefficient (generator_at gs j).row c
  coordinate_at_generator j l = at_sum (size + 1 + j)
      ∙ all_three _ _ _ (coefficient (generator_at gs j).row c) (pos 0) (pos 0) (terms_at (size + 1) gs c j l)
      (single_apart (left_equation size gs) (coefficient left c) (size + 1 + j) (λ q. omega (arith, q)))
      (single_apart (right_equation size gs) (coefficient right c) (size + 1 + j) (λ q. omega (arith, q)))
      ∙ +ℤ_idr (coefficient (generator_at gs j).row c)

  pub coordinate_at_left : coefficient (coordinate_row size gs left right c) (left_equation size gs) ≡ coefficient left c
  coordinate_at_left = at_sum (left_equation size gs)
      ∙ all_three _ _ _ (pos 0) (coefficient left c) (pos 0) (terms_apart (size + 1) gs c (left_equation size gs) (λ j m q. omega (arith, m, q)))
      (single_at (left_equation size gs) (coefficient left c)) (single_apart (right_equation size gs) (coefficient right c)
      (left_equation size gs) (λ q. omega (arith, q)))
      ∙ +ℤ_idl (coefficient left c +ℤ pos 0) ∙ +ℤ_idr (coefficient left c)

  pub coordinate_at_right : coefficient (coordinate_row size gs left right c) (right_equation size gs) ≡ coefficient right c
  coordinate_at_right = at_sum (right_equation size gs)
      ∙ all_three _ _ _ (pos 0) (pos 0) (coefficient right c) (terms_apart (size + 1) gs c (right_equation size gs) (λ j m q. omega (arith, m, q)))
      (single_apart (left_equation size gs) (coefficient left c) (right_equation size gs) (λ q. omega (arith, q)))
      (single_at (right_equation size gs) (coefficient right c))
      ∙ +ℤ_idl (pos 0 +ℤ coefficient right c) ∙ +ℤ_idl (coefficient right c)

  pub coordinate_by : (n : ℕ) (d : ℕ) → coefficient (coordinate_unknown n size gs left right c).row d ≡ coefficient (coordinate_row size gs left right c) d
  coordinate_by n d = by_test (nat_lt c (2 ^ n))
    where
      by_test : (b : Bool) → coefficient (Rattle.std.specs.Prelude.if◌then◌else◌ {A = Generator} b
          (record { kind = Inequality; row = coordinate_row size gs left right c })
          (record { kind = Equation; row = coordinate_row size gs left right c })).row d
          ≡ coefficient (coordinate_row size gs left right c) d
      by_test true = refl
      by_test false = refl

-- of the slacks of inequalities
pub slacks_apart : (e : ℕ) (gs : List Generator) (d : ℕ) → ((j : ℕ) → j < length gs → e + j ≡ d → ⊥) → Every (λ u. coefficient u.row d ≡ pos 0) (slacks e gs)
unfolding slacks
slacks_apart e [] d n = tt
slacks_apart e (g ∷ gs) d n = every-append (λ (u : Generator). coefficient u.row d ≡ pos 0) (slack_by e g.kind) (slacks (e + 1) gs)
    (by_kind g.kind) (slacks_apart (e + 1) gs d (λ j l q. n (suc j) (omega arith) (omega (arith, q))))
  where
    by_kind : (k : Kind) → Every (λ u. coefficient u.row d ≡ pos 0) (slack_by e k)
    by_kind Inequality = (ap (λ b. cond b (neg_ℤ (pos 1)) (pos 0) +ℤ pos 0) (ne_eqb e d (λ q. n 0 (omega arith) (omega (arith, q)))), tt)
    by_kind Equation = tt

-- an inequality is at least 0, an equation 0
abbrev pub IsSlack : Kind → Rational → Type 0
IsSlack Inequality y = is_at_least_zero (minus y) ≡ true
IsSlack Equation y = y ≡ integer (pos 0)

slack_zero : (k : Kind) → IsSlack k (integer (pos 0))
slack_zero Inequality = subst (λ x. is_at_least_zero x ≡ true) (ring ring_ℚ [] nil (S.minus nil) refl) zero_least
slack_zero Equation = refl

abbrev RestSlack : ℕ → List Generator → ℕ → Type 0
RestSlack e gs j = (ys : List Rational) → AreNumbers ys (slacks (e + 1) gs) → IsSlack (generator_at gs j).kind (number_sum (e + 1 + j) ys (slacks (e + 1) gs))

pub slack_sum : (e : ℕ) (gs : List Generator) (ss : List Rational) (j : ℕ) → AreNumbers ss (slacks e gs) → j < length gs
    → IsSlack (generator_at gs j).kind (number_sum (e + j) ss (slacks e gs))
unfolding slacks
slack_sum e [] ss j a l = absurd (omega arith)
slack_sum e (g ∷ gs) ss zero a l = by_kind g.kind ss a
  where
    rest_none : (ys : List Rational) → number_sum (e + zero) ys (slacks (e + 1) gs) ≡ integer (pos 0)
    rest_none ys = number_sum-none (e + zero) ys (slacks (e + 1) gs) (slacks_apart (e + 1) gs (e + zero) (λ j m q. omega (arith, q)))

    own : coefficient ((e, neg_ℤ (pos 1)) ∷ []) (e + zero) ≡ neg_ℤ (pos 1)
    own = ap (λ b. cond b (neg_ℤ (pos 1)) (pos 0) +ℤ pos 0) (eq-eqb e (e + zero) (omega arith))

    by_kind : (k : Kind) (ss : List Rational) → AreNumbers ss (slack_by e k ++ slacks (e + 1) gs)
        → IsSlack k (number_sum (e + zero) ss (slack_by e k ++ slacks (e + 1) gs))
    by_kind Equation ss a = rest_none ss
    by_kind Inequality [] a = slack_zero Inequality
    by_kind Inequality (s ∷ ss) a = subst (λ x. is_at_least_zero x ≡ true)
        (sym (ap minus (ap₂ (λ y z. plus (times s (integer y)) z) own (rest_none ss)
        ∙ ap (λ y. plus (times s y) (integer (pos 0))) (whole_minus (pos 1)))
        ∙ ring ring_ℚ (s ∷ []) (S.minus (S.plus (S.times (v 0) (S.minus S.one)) nil)) (v 0) refl)) (a.0 refl)
slack_sum e (g ∷ gs) ss (suc j) a l = by_kind (λ ys b. slack_sum (e + 1) gs ys j b (omega arith)) g.kind ss a
  where
    next : (e j : ℕ) → e + suc j ≡ e + 1 + j
    next e j = omega arith

    rest_slack : RestSlack e gs j → (ys : List Rational) → AreNumbers ys (slacks (e + 1) gs)
        → IsSlack (generator_at gs j).kind (number_sum (e + suc j) ys (slacks (e + 1) gs))
    rest_slack r ys b = subst (λ d. IsSlack (generator_at gs j).kind (number_sum d ys (slacks (e + 1) gs))) (sym (next e j)) (r ys b)

    by_kind : RestSlack e gs j → (k : Kind) (ss : List Rational) → AreNumbers ss (slack_by e k ++ slacks (e + 1) gs)
        → IsSlack (generator_at gs j).kind (number_sum (e + suc j) ss (slack_by e k ++ slacks (e + 1) gs))
    by_kind r Equation ss a = rest_slack r ss a
    by_kind r Inequality [] a = slack_zero (generator_at gs j).kind
    by_kind r Inequality (s ∷ ss) a = subst (IsSlack (generator_at gs j).kind)
        (sym (ap (λ y. plus (times s (integer (y +ℤ pos 0))) (number_sum (e + suc j) ss (slacks (e + 1) gs)))
        (ap (λ b. cond b (neg_ℤ (pos 1)) (pos 0)) (ne_eqb e (e + suc j) (λ q. omega (arith, q))))
        ∙ ap (λ y. plus y (number_sum (e + suc j) ss (slacks (e + 1) gs))) (times_null s) ∙ null_plus (number_sum (e + suc j) ss (slacks (e + 1) gs))))
        (rest_slack r ss a.1)

pub are_numbers-append : (xs : List Rational) (us vs : List Generator) → AreNumbers xs (us ++ vs)
    → AreNumbers (take (length us) xs) us × AreNumbers (drop (length us) xs) vs
are_numbers-append xs [] vs a = (tt, a)
are_numbers-append [] (u ∷ us) vs a = (tt, tt)
are_numbers-append (x ∷ xs) (u ∷ us) vs a = let both = are_numbers-append xs us vs a.1 in ((a.0, both.0), both.1)
