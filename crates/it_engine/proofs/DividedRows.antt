-- The row that leaves, over its entry.
use Rattle.std.proofs.Common.{◌≡◌, ℕ, ◌<◌, ◌^◌, ℤ, pos, negsuc, ◌≤ℤ◌, ◌*ℤ◌, unsigned_abs, List, [], ◌∷◌, refl, sym, ap, subst, ◌∙◌, arith}
use Rattle.std.proofs.lemmas.Int.{ints}
use Rattle.it_number.proofs.Integers.{zring}
use Rattle.it_number.proofs.Ring.{ring, v, plus, times, minus, one}
use Rattle.it_rational.specs.Rational.{Rational, IsRatio}
use Rattle.it_rational.specs.Rational as Q
use Rattle.it_rational.proofs.Names.{same_value, whole_names}
use Rattle.it_rational.proofs.RationalLaws.{ring_ℚ}
use Rattle.it_space.specs.Sums.{number_at}
use Rattle.it_whole.specs.Updates.{IsShortened, IsWholeRowReduced}
use Rattle.it_whole.specs.WholeRows.{IsRow, WholeRowView}
use Rattle.it_whole.proofs.Names.{inverse_names, quotient_in_row}
use Rattle.it_whole.proofs.RowSteps.{row_shortened}
use Rattle.it_engine.specs.PivotedRows.{IsWholeRowDivided}

-- the leaving row keeps its numbers: their new denominator is its entry
pub row_divided : (width limit : ℕ) (g : ℕ → Rational) (by : List ℤ) (e : ℕ) (w : Rational) (p : ℕ) → IsRow width limit g by e
    → IsRatio w (pos p) e → 0 < p → p < 2 ^ 63
    → IsRow width limit (λ k. Q.times (g k) (Q.inverse w)) by p
row_divided width limit g by e w p r ew hp low = record {
  length_is = r.length_is;
  some = hp;
  low = low;
  named = λ k l. quotient_in_row (g k) w (number_at by k) p e r.some hp (r.named k l) ew;
  small = r.small;
}

pub divided_row : (width limit : ℕ) (old new : WholeRowView) (p : ℤ) → pos 1 ≤ℤ p → unsigned_abs p < 2 ^ 63 → new.numbers ≡ old.numbers
    → new.denominator ≡ unsigned_abs p → IsWholeRowDivided width limit old p new
divided_row width limit old new (negsuc p) h k e d = absurd (omega (arith, ints))
divided_row width limit old new (pos p) h k e d = λ g w r ew.
    subst (λ (ns : List ℤ). IsRow width limit (λ k. Q.times (g k) (Q.inverse w)) ns new.denominator) (sym e)
    (subst (λ (b : ℕ). IsRow width limit (λ k. Q.times (g k) (Q.inverse w)) old.numbers b) (sym d)
    (row_divided width limit g old.numbers old.denominator w p r ew (omega (arith, ints, h)) k))

-- the multiple of the leaving row that makes an entry 0 may also be formed with that row divided by its entry, where it has 1
pub less_divided : (width limit : ℕ) (old own mid new : WholeRowView) (z p : ℤ) → IsWholeRowDivided width limit own p mid
    → IsWholeRowReduced width limit old mid z (pos mid.denominator) new → IsWholeRowReduced width limit old own z p new
less_divided width limit old own mid new z p d l = λ f g x w rf rg ex ew.
    same_row (λ k. Q.plus (f k) (Q.minus (Q.times (Q.times (g k) (Q.inverse w)) (Q.times x (Q.inverse (Q.integer (pos 1)))))))
    (λ k. Q.plus (f k) (Q.minus (Q.times (g k) (Q.times x (Q.inverse w)))))
    (λ k. same_difference (f k) (g k) x (Q.inverse w))
    (l f (λ k. Q.times (g k) (Q.inverse w)) x (Q.integer (pos 1)) rf (d g w rg ew) ex
    (one_named (Q.integer (pos 1)).num (Q.integer (pos 1)).den mid.denominator (whole_names (pos 1))))
  where
    same_row : (f g : ℕ → Rational) → ((k : ℕ) → f k ≡ g k) → IsRow width limit f new.numbers new.denominator → IsRow width limit g new.numbers new.denominator
    same_row f g e r = record {
      length_is = r.length_is;
      some = r.some;
      low = r.low;
      named = λ k h. subst (λ (q : Rational). IsRatio q (number_at new.numbers k) new.denominator) (e k) (r.named k h);
      small = r.small;
    }

    one_named : (x : ℤ) (b d : ℕ) → x *ℤ pos 1 ≡ pos 1 *ℤ pos b → x *ℤ pos d ≡ pos d *ℤ pos b
    one_named x b d e = ap (λ z. z *ℤ pos d) number_is_denominator ∙ omega (arith, zring)
      where
        number_is_denominator : x ≡ pos b
        number_is_denominator = omega (arith, ints, e)

    inverse_one : Q.inverse (Q.integer (pos 1)) ≡ Q.integer (pos 1)
    inverse_one = same_value (Q.inverse (Q.integer (pos 1))) (Q.integer (pos 1)) (pos 1) (pos 1) 1 1 (omega arith) (omega arith)
        (inverse_names (Q.integer (pos 1)) 1 1 (omega arith) (omega arith) (whole_names (pos 1))) (whole_names (pos 1)) refl

    same_difference : (a b x i : Rational) → Q.plus a (Q.minus (Q.times (Q.times b i) (Q.times x (Q.inverse (Q.integer (pos 1))))))
        ≡ Q.plus a (Q.minus (Q.times b (Q.times x i)))
    same_difference a b x i = ap (λ y. Q.plus a (Q.minus (Q.times (Q.times b i) (Q.times x y)))) inverse_one
        ∙ ring ring_ℚ (a ∷ b ∷ x ∷ i ∷ []) (plus (v 0) (minus (times (times (v 1) (v 3)) (times (v 2) one))))
        (plus (v 0) (minus (times (v 1) (times (v 2) (v 3))))) refl

pub shortened_divided : (width limit : ℕ) (old mid new : WholeRowView) (p : ℤ) → IsWholeRowDivided width limit old p mid
    → IsShortened mid new → IsWholeRowDivided width limit old p new
shortened_divided width limit old mid new p l s = λ g w r ew. row_shortened width limit _ mid new s (l g w r ew)
