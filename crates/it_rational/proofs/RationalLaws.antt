-- The rational numbers as a commutative ring, for the solver.
use Rattle.std.proofs.Common.{◌≡◌, ◌*◌, ◌<◌, ℤ, pos, ◌+ℤ◌, ◌*ℤ◌, neg_ℤ, List, [], ◌∷◌, refl, arith, mul-pos}
use Rattle.it_rational.specs.Rational.{Rational}
use Rattle.it_rational.specs.Rational as Q
use Rattle.it_number.proofs.Ring.{ring, v, plus, times, minus, one, nil}
use Rattle.it_number.specs.Rings.{Ring}
use Rattle.it_number.proofs.IntegerRing.{ring_ℤ}
use Rattle.it_rational.proofs.Names.{quotient_names, same_value, plus_names, times_names, whole_names}

-- the laws of three
module _ (a b c : Rational) where
  ρ : List ℤ
  ρ = a.num ∷ pos a.den ∷ b.num ∷ pos b.den ∷ c.num ∷ pos c.den ∷ []

  pub plus_assoc : Q.plus (Q.plus a b) c ≡ Q.plus a (Q.plus b c)
  unfolding ρ
  plus_assoc =
      let ab = plus_names a b a.num b.num a.den b.den a.positive b.positive refl refl in
      let bc = plus_names b c b.num c.num b.den c.den b.positive c.positive refl refl in
      let abd : 0 < a.den * b.den = mul-pos a.positive b.positive in
      let bcd : 0 < b.den * c.den = mul-pos b.positive c.positive in
      same_value (Q.plus (Q.plus a b) c) (Q.plus a (Q.plus b c)) _ _ ((a.den * b.den) * c.den) (a.den * (b.den * c.den))
      (mul-pos abd c.positive) (mul-pos a.positive bcd)
      (plus_names (Q.plus a b) c (a.num *ℤ pos b.den +ℤ b.num *ℤ pos a.den) c.num (a.den * b.den) c.den abd c.positive ab refl)
      (plus_names a (Q.plus b c) a.num (b.num *ℤ pos c.den +ℤ c.num *ℤ pos b.den) a.den (b.den * c.den) a.positive bcd refl bc)
      (ring ring_ℤ ρ
      (times (plus (times (plus (times (v 0) (v 3)) (times (v 2) (v 1))) (v 5)) (times (v 4) (times (v 1) (v 3)))) (times (v 1) (times (v 3) (v 5))))
      (times (plus (times (v 0) (times (v 3) (v 5))) (times (plus (times (v 2) (v 5)) (times (v 4) (v 3))) (v 1))) (times (times (v 1) (v 3)) (v 5))) refl)

  pub times_assoc : Q.times (Q.times a b) c ≡ Q.times a (Q.times b c)
  unfolding ρ
  times_assoc =
      let ab = times_names a b a.num b.num a.den b.den a.positive b.positive refl refl in
      let bc = times_names b c b.num c.num b.den c.den b.positive c.positive refl refl in
      let abd : 0 < a.den * b.den = mul-pos a.positive b.positive in
      let bcd : 0 < b.den * c.den = mul-pos b.positive c.positive in
      same_value (Q.times (Q.times a b) c) (Q.times a (Q.times b c)) _ _ ((a.den * b.den) * c.den) (a.den * (b.den * c.den))
      (mul-pos abd c.positive) (mul-pos a.positive bcd)
      (times_names (Q.times a b) c (a.num *ℤ b.num) c.num (a.den * b.den) c.den abd c.positive ab refl)
      (times_names a (Q.times b c) a.num (b.num *ℤ c.num) a.den (b.den * c.den) a.positive bcd refl bc)
      (ring ring_ℤ ρ
      (times (times (times (v 0) (v 2)) (v 4)) (times (v 1) (times (v 3) (v 5))))
      (times (times (v 0) (times (v 2) (v 4))) (times (times (v 1) (v 3)) (v 5))) refl)

  pub times-plus : Q.times a (Q.plus b c) ≡ Q.plus (Q.times a b) (Q.times a c)
  unfolding ρ
  times-plus =
      let bc = plus_names b c b.num c.num b.den c.den b.positive c.positive refl refl in
      let ab = times_names a b a.num b.num a.den b.den a.positive b.positive refl refl in
      let ac = times_names a c a.num c.num a.den c.den a.positive c.positive refl refl in
      let abd : 0 < a.den * b.den = mul-pos a.positive b.positive in
      let acd : 0 < a.den * c.den = mul-pos a.positive c.positive in
      let bcd : 0 < b.den * c.den = mul-pos b.positive c.positive in
      same_value (Q.times a (Q.plus b c)) (Q.plus (Q.times a b) (Q.times a c)) _ _ (a.den * (b.den * c.den))
      ((a.den * b.den) * (a.den * c.den)) (mul-pos a.positive bcd) (mul-pos abd acd)
      (times_names a (Q.plus b c) a.num (b.num *ℤ pos c.den +ℤ c.num *ℤ pos b.den) a.den (b.den * c.den) a.positive bcd refl bc)
      (plus_names (Q.times a b) (Q.times a c) (a.num *ℤ b.num) (a.num *ℤ c.num) (a.den * b.den) (a.den * c.den) abd acd ab ac)
      (ring ring_ℤ ρ
      (times (times (v 0) (plus (times (v 2) (v 5)) (times (v 4) (v 3)))) (times (times (v 1) (v 3)) (times (v 1) (v 5))))
      (times (plus (times (times (v 0) (v 2)) (times (v 1) (v 5))) (times (times (v 0) (v 4)) (times (v 1) (v 3)))) (times (v 1) (times (v 3) (v 5)))) refl)

pub plus_comm : (a b : Rational) → Q.plus a b ≡ Q.plus b a
plus_comm a b = same_value (Q.plus a b) (Q.plus b a) _ _ (a.den * b.den) (b.den * a.den) (mul-pos a.positive b.positive) (mul-pos b.positive a.positive)
    (plus_names a b a.num b.num a.den b.den a.positive b.positive refl refl) (plus_names b a b.num a.num b.den a.den b.positive a.positive refl refl)
    (ring ring_ℤ (a.num ∷ pos a.den ∷ b.num ∷ pos b.den ∷ [])
    (times (plus (times (v 0) (v 3)) (times (v 2) (v 1))) (times (v 3) (v 1)))
    (times (plus (times (v 2) (v 1)) (times (v 0) (v 3))) (times (v 1) (v 3))) refl)

pub times_comm : (a b : Rational) → Q.times a b ≡ Q.times b a
times_comm a b = same_value (Q.times a b) (Q.times b a) _ _ (a.den * b.den) (b.den * a.den) (mul-pos a.positive b.positive) (mul-pos b.positive a.positive)
    (times_names a b a.num b.num a.den b.den a.positive b.positive refl refl) (times_names b a b.num a.num b.den a.den b.positive a.positive refl refl)
    (ring ring_ℤ (a.num ∷ pos a.den ∷ b.num ∷ pos b.den ∷ [])
    (times (times (v 0) (v 2)) (times (v 3) (v 1)))
    (times (times (v 2) (v 0)) (times (v 1) (v 3))) refl)

pub zero-plus : (a : Rational) → Q.plus (Q.integer (pos 0)) a ≡ a
zero-plus a = same_value (Q.plus (Q.integer (pos 0)) a) a _ _ (1 * a.den) a.den (mul-pos (omega arith) a.positive) a.positive
    (plus_names (Q.integer (pos 0)) a (pos 0) a.num 1 a.den (omega arith) a.positive (whole_names (pos 0)) refl) refl
    (ring ring_ℤ (a.num ∷ pos a.den ∷ []) (times (plus (times nil (v 1)) (times (v 0) one)) (v 1)) (times (v 0) (times one (v 1))) refl)

pub one-times : (a : Rational) → Q.times (Q.integer (pos 1)) a ≡ a
one-times a = same_value (Q.times (Q.integer (pos 1)) a) a _ _ (1 * a.den) a.den (mul-pos (omega arith) a.positive) a.positive
    (times_names (Q.integer (pos 1)) a (pos 1) a.num 1 a.den (omega arith) a.positive (whole_names (pos 1)) refl) refl
    (ring ring_ℤ (a.num ∷ pos a.den ∷ []) (times (times one (v 0)) (v 1)) (times (v 0) (times one (v 1))) refl)

pub plus-minus : (a : Rational) → Q.plus a (Q.minus a) ≡ Q.integer (pos 0)
plus-minus a = same_value (Q.plus a (Q.minus a)) (Q.integer (pos 0)) _ (pos 0) (a.den * a.den) 1 (mul-pos a.positive a.positive) (omega arith)
    (plus_names a (Q.minus a) a.num (neg_ℤ a.num) a.den a.den a.positive a.positive refl (quotient_names (neg_ℤ a.num) a.den a.positive)) (whole_names (pos 0))
    (ring ring_ℤ (a.num ∷ pos a.den ∷ []) (times (plus (times (v 0) (v 1)) (times (minus (v 0)) (v 1))) one) (times nil (times (v 1) (v 1))) refl)

abbrev pub ring_ℚ : Ring Rational
ring_ℚ = record {
  null = Q.integer (pos 0);
  unit = Q.integer (pos 1);
  add = Q.plus;
  mul = Q.times;
  neg = Q.minus;
  add_assoc = plus_assoc;
  add_comm = plus_comm;
  null-add = zero-plus;
  add-neg = plus-minus;
  mul_assoc = times_assoc;
  mul_comm = times_comm;
  unit-mul = one-times;
  mul-add = times-plus;
}
