-- The weights of a factor as a certificate.
use Rattle.std.proofs.Common.{◌≡◌, ℕ, zero, suc, ◌+◌, ◌/◌, ◌<◌, ◌≤◌, ℤ, pos, negsuc, neg_ℤ, ◌+ℤ◌, ◌-ℤ◌, ◌*ℤ◌, ◌≤ℤ◌, List, [], ◌∷◌, length, map, All, true, false, refl, sym, ap, ap₂, subst, ◌∙◌, arith}
use Rattle.std.specs.List.{AllByRecursion as Every}
use Rattle.std.proofs.lemmas.Int.{ints}
use Rattle.std.proofs.lemmas.List.{length-map}
use Rattle.it_number.proofs.SignLemmas.{product_least}
use Rattle.it_rational.specs.Rational.{Rational, integer, plus, times, is_at_least_zero}
use Rattle.it_rational.proofs.Field.{field_ℚ, least_by_sign, sign_of_least}
use Rattle.it_problems.specs.declared.problems.Kind.{Kind}
use Rattle.it_problems.specs.declared.problems.Kind.TheVariants.{Inequality, Equation}
use Rattle.it_space.specs.Answers.{CertificateView}
use Rattle.it_problems.specs.Problems.{ProblemView, IsProblem, AreMet, Meets}
use Rattle.it_space.specs.Rows.{Terms, IsOver, coefficient, value, one_at, single_term}
use Rattle.it_space.specs.Spaces.{size_of}
use Rattle.it_space.specs.Sums.{terms_from}
use Rattle.it_space.proofs.EveryLemmas.{all_of, every-append}
use Rattle.it_space.proofs.TermLemmas.{value-one_at}
use Rattle.it_polymatroid.specs.Certificates.{Form, IsAllowed, IsCertificate, IsLinear, combination}
use Rattle.it_polymatroid.specs.Polymatroid.{IsPolymatroid}
use Rattle.it_polymatroid.proofs.Certified.{certificates_prove}
use Rattle.it_polymatroid.proofs.Forms.{value_linear, linear-scale, linear-sub, linear_same}
use Rattle.it_elemental.specs.Generators.{Generator, generators, generator_at, forms_of, generators_of, is_equation}
use Rattle.it_elemental.proofs.GeneratorLemmas.{rows_of_space}
use Rattle.it_check.specs.Verdicts.{column}
use Rattle.it_check.proofs.NoMeaning.{met_listed}
use Rattle.it_columns.specs.Scaling.{scale_of, scaled_number, scaled_point}
use Rattle.it_columns.proofs.Scales.{scale_pos}
use Rattle.it_columns.proofs.Wholes.{whole_parts}
use Rattle.it_best.specs.Factors.{HoldsFactor, IsFactor, ground_of}
use Rattle.it_best.specs.Numbers.{multiples, weights_certificate}
use Rattle.it_best.specs.Phases.{counterweight}
use Rattle.it_best.proofs.NumberLemmas.{number_sum, AreNumbers}
use Rattle.it_best.proofs.FactorLemmas.{certificate_sum, factor_sum}

-- ---- weights that are allowed

scaled_least : (l : ℕ) (x : Rational) → is_at_least_zero x ≡ true → pos 0 ≤ℤ scaled_number l x
unfolding scaled_number
scaled_least l x e = product_least x.num (pos (l / x.den)) (least_by_sign x.num e) (some (l / x.den))
  where
    some : (k : ℕ) → pos 0 ≤ℤ pos k
    some k = omega (arith, ints)

whole_least : (k : ℕ) → is_at_least_zero (integer (pos k)) ≡ true
whole_least k = sign_of_least (integer (pos k)).num (subst (λ (z : ℤ). pos 0 ≤ℤ z) (sym (whole_parts (pos k)).0) (some k))
  where
    some : (k : ℕ) → pos 0 ≤ℤ pos k
    some k = omega (arith, ints)

pub multiples_signed : (k : ℕ) (xs : List Rational) (gs : List Generator) → AreNumbers xs gs → AreNumbers (multiples (pos k) xs) gs
multiples_signed k [] gs a = tt
multiples_signed k (x ∷ xs) [] a = tt
multiples_signed k (x ∷ xs) (g ∷ gs) a = ((λ e. field_ℚ.order.mul-least x (integer (pos k)) (a.0 e) (whole_least k)), multiples_signed k xs gs a.1)

pub negated_signed : (xs : List Rational) (gs : List Generator) → AreNumbers xs (map counterweight gs) → AreNumbers xs gs
negated_signed [] gs a = tt
negated_signed (x ∷ xs) [] a = tt
negated_signed (x ∷ xs) (g ∷ gs) a = (a.0, negated_signed xs gs a.1)

every_single_term : (P : ℕ × ℤ → Type 0) (i : ℕ) (x : ℤ) → P (i, x) → Every P (single_term i x)
every_single_term P i (pos zero) h = tt
every_single_term P i (pos (suc n)) h = (h, tt)
every_single_term P i (negsuc n) h = (h, tt)

inequality : (k : Kind) → is_equation k ≡ false → k ≡ Inequality
inequality Inequality e = refl
inequality Equation e = absurd (cc)

terms_allowed : (l i : ℕ) (all gs : List Generator) (xs : List Rational) → length xs ≡ length gs → i + length gs ≤ length all
    → ((k : ℕ) → k < length gs → generator_at all (i + k) ≡ generator_at gs k) → AreNumbers xs gs
    → Every (IsAllowed (forms_of all)) (terms_from i (map (scaled_number l) xs))
terms_allowed l i all gs [] e b h a = tt
terms_allowed l i all [] (x ∷ xs) e b h a = absurd (omega (arith, e))
terms_allowed l i all (g ∷ gs) (x ∷ xs) e b h a =
    let here : generator_at all i ≡ g = ap (generator_at all) (same i) ∙ h zero (omega arith) in
    every-append (IsAllowed (forms_of all)) (single_term i (scaled_number l x)) (terms_from (i + 1) (map (scaled_number l) xs))
    (every_single_term (IsAllowed (forms_of all)) i (scaled_number l x) (
      omega (arith, b),
      λ f. scaled_least l x
          (a.0 (inequality g.kind (sym (ap (λ (u : Generator). is_equation u.kind) here) ∙ f))),
    ))
    (terms_allowed l (i + 1) all gs xs (omega (arith, e)) (omega (arith, b)) (λ k m. ap (generator_at all) (next i k) ∙ h (suc k) (omega arith)) a.1)
  where
    same : (i : ℕ) → i ≡ i + zero
    same i = omega arith

    next : (i k : ℕ) → i + 1 + k ≡ i + suc k
    next i k = omega arith

weighted_is : (gs : List Generator) (ws : List (ℕ × ℤ)) (c : ℕ) → combination ws (λ i. value (generator_at gs i).row (one_at c)) ≡ value ws (column gs c)
weighted_is gs [] c = refl
weighted_is gs (w ∷ ws) c = ap₂ (λ x y. w.1 *ℤ x +ℤ y) (value-one_at (generator_at gs w.0).row c) (weighted_is gs ws c)

-- ---- certificates

-- numbers of generators that sum up to a form's coefficients are a certificate of it
pub certifies_form : (size : ℕ) (gs : List Generator) (form : Form) (k : ℕ) (xs : List Rational) → length xs ≡ length gs → AreNumbers xs gs
    → ((c : ℕ) → 1 ≤ c → c ≤ size → number_sum c (multiples (pos k) xs) gs ≡ integer (form (one_at c)))
    → IsCertificate (size + 1) (forms_of gs) form (weights_certificate (pos k) xs)
certifies_form size gs form k xs e a s = record {
  scale_from_one = scale_some (scale_of (multiples (pos k) xs)) (scale_pos (multiples (pos k) xs));
  allowed = all_of (IsAllowed (forms_of gs)) (terms_from 0 (scaled_point (multiples (pos k) xs)))
      (terms_allowed (scale_of (multiples (pos k) xs)) 0 gs gs (multiples (pos k) xs) length_is (omega arith)
      (λ j l. ap (generator_at gs) (zero_plus j)) (multiples_signed k xs gs a));
  adds_up = λ c h l. certificate_sum c gs (multiples (pos k) xs) (form (one_at c)) length_is (s c (omega arith) (omega arith))
      ∙ sym (weighted_is gs (terms_from 0 (scaled_point (multiples (pos k) xs))) c);
}
  where
    scale_some : (l : ℕ) → 0 < l → pos 1 ≤ℤ pos l
    scale_some l h = omega (arith, ints)

    zero_plus : (k : ℕ) → 0 + k ≡ k
    zero_plus k = omega arith

    length_is : length (multiples (pos k) xs) ≡ length gs
    length_is = length-map xs (λ q. times q (integer (pos k))) ∙ e

-- where a factor's number times the left side less weights times the generators is the right side, the weights certify the factor
pub factor_certified : (q : ProblemView) (left right : Terms) (x : Rational) (xs : List Rational) → length xs ≡ length (generators q)
    → AreNumbers xs (map counterweight (generators q))
    → ((c : ℕ) → 1 ≤ c → c ≤ size_of q.space → plus (times x (integer (coefficient left c)))
    (number_sum c xs (map counterweight (generators q))) ≡ integer (coefficient right c))
    → IsFactor (ground_of q) (value left) (value right) x.num (pos x.den) (weights_certificate (pos x.den) xs)
factor_certified q left right x xs e a s = record {
  from_one = some x.den x.positive;
  lowest = x.lowest;
  certified = certifies_form (size_of q.space) (generators q) (λ p. x.num *ℤ value left p -ℤ (pos x.den) *ℤ value right p) x.den xs e
      (negated_signed xs (generators q) a)
      (λ c h l. factor_sum c x xs (generators q) (coefficient left c) (coefficient right c) (s c h l)
      ∙ ap₂ (λ y z. integer (x.num *ℤ y -ℤ pos x.den *ℤ z)) (sym (value-one_at left c)) (sym (value-one_at right c)));
}
  where
    some : (d : ℕ) → 0 < d → pos 1 ≤ℤ pos d
    some d h = omega (arith, ints)

-- ---- the meaning of a certificate

at_least : (k : Kind) (x : ℤ) → Meets k x → pos 0 ≤ℤ x
at_least Inequality x h = h
at_least Equation x h = omega (arith, ints, h)

is_zero : (k : Kind) (x : ℤ) → Meets k x → is_equation k ≡ true → x ≡ pos 0
is_zero Inequality x h e = absurd (cc)
is_zero Equation x h e = h

-- a form with a certificate is at least 0 wherever the problem is met
pub form_is_least : (q : ProblemView) (form : Form) (w : CertificateView) → IsProblem q → IsLinear (size_of q.space + 1) form
    → IsCertificate (size_of q.space + 1) (generators_of q) form w
    → (p : ℕ → ℤ) → IsPolymatroid q.space.variables p → AreMet p q.constraints → pos 0 ≤ℤ form p
form_is_least q form w k linear c p h m =
    let size = size_of q.space in
    let gs = generators q in
    let none : Generator = record { kind = Inequality; row = [] } in
    let rows : All (λ g. IsOver size g.row) gs = all_of (λ g. IsOver size g.row) gs (rows_of_space q.space.variables size q.constraints (omega arith) k.rows) in
    let met : All (λ g. Meets g.kind (value g.row p)) gs = all_of (λ g. Meets g.kind (value g.row p)) gs
    (met_listed q.space.variables q.constraints p h.empty h m) in
    certificates_prove (size + 1) (forms_of gs) form w (λ i l. value_linear size (generator_at gs i).row (rows i none l)) linear c p h.empty
    (λ i l. at_least (generator_at gs i).kind (value (generator_at gs i).row p) (met i none l))
    (λ i l e. is_zero (generator_at gs i).kind (value (generator_at gs i).row p) (met i none l) e)

-- the forms that certificates of factors are of are linear
pub linear-factor : (size : ℕ) (left right : Terms) (num den : ℤ) → IsOver size left → IsOver size right
    → IsLinear (size + 1) (λ p. num *ℤ value left p -ℤ den *ℤ value right p)
linear-factor size left right num den l r =
    linear-sub (size + 1) (λ p. num *ℤ value left p) (λ p. den *ℤ value right p)
    (linear-scale (size + 1) num (value left) (value_linear size left l))
    (linear-scale (size + 1) den (value right) (value_linear size right r))

pub linear-neg : (size : ℕ) (left : Terms) → IsOver size left → IsLinear (size + 1) (λ p. neg_ℤ (value left p))
linear-neg size left l =
    linear_same (size + 1) (λ p. neg_ℤ (pos 1) *ℤ value left p) (λ p. neg_ℤ (value left p)) (λ p e. by_minus_one (value left p))
    (linear-scale (size + 1) (neg_ℤ (pos 1)) (value left) (value_linear size left l))
  where
    by_minus_one : (x : ℤ) → neg_ℤ (pos 1) *ℤ x ≡ neg_ℤ x
    by_minus_one x = omega (arith, ints)

-- so a certified factor holds
pub factor_holds : (q : ProblemView) (left right : Terms) (num den : ℤ) (w : CertificateView) → IsProblem q → IsOver (size_of q.space) left
    → IsOver (size_of q.space) right
    → IsFactor (ground_of q) (value left) (value right) num den w → HoldsFactor (ground_of q) (value left) (value right) num den
factor_holds q left right num den w k l r f p h = form_is_least q (λ p. num *ℤ value left p -ℤ den *ℤ value right p) w k
    (linear-factor (size_of q.space) left right num den l r) f.certified p h.0 h.1
