-- When fractions are equal, by the tests that code makes of their parts.
use Rattle.std.proofs.Common.{◌≡◌, ℕ, nat_eq, ap, sym, ◌∙◌, eqb-true}
use Rattle.std.proofs.lemmas.Bool.{eqb-false}
use Rattle.std.specs.Ordering.{is_eq}
use Rattle.it_rational.specs.Rational.{Rational, rational_cmp}
use Rattle.it_rational.proofs.Names.{same_parts}
use Rattle.it_rational.proofs.Total.{is_eq-rational_cmp}

-- equal numerators: the denominators decide
pub same_tops : (x y : Rational) (m n : ℕ) → x.num ≡ y.num → x.den ≡ m → y.den ≡ n → nat_eq m n ≡ is_eq (rational_cmp x y)
same_tops x y m n e f g = is_eq-rational_cmp (nat_eq m n) x y
    (λ h. same_parts x y e (f ∙ eqb-true m n h ∙ sym g))
    (λ h q. eqb-false m n h (sym f ∙ ap (λ (r : Rational). r.den) q ∙ g))

-- numerators whose codes m and n differ
pub other_tops : (x y : Rational) (m n : ℕ) → (m ≡ n → ⊥) → (x.num ≡ y.num → m ≡ n) → nat_eq m n ≡ is_eq (rational_cmp x y)
other_tops x y m n apart codes = is_eq-rational_cmp (nat_eq m n) x y
    (λ h. absurd (apart (eqb-true m n h)))
    (λ h q. apart (codes (ap (λ (r : Rational). r.num) q)))
