-- The rows of forms: a form that is the value of few terms with small coefficients has its canonical row.
use Rattle.std.proofs.Common.{◌≡◌, ℕ, zero, suc, ◌+◌, ◌-◌, ◌<◌, ◌≤◌, ◌^◌, ℤ, pos, neg_ℤ, ◌+ℤ◌, ◌*ℤ◌, unsigned_abs, Bool, true, false, cond, nat_eq, List, [], ◌∷◌, ◌++◌, map, length, refl, sym, ap, ap₂, subst, ◌∙◌, arith, lit<, ne_eqb}
use Rattle.std.specs.List.{AllByRecursion as Every}
use Rattle.std.proofs.lemmas.Int.{ints}
use Rattle.std.proofs.lemmas.Bool.{eqb-true}
use Rattle.std.proofs.Math.IntN.{+ℤ_idr, +ℤ_idl}
use Rattle.it_space.specs.declared.spaces.Space.{Space}
use Rattle.it_space.specs.Bounds.{IsSmall, most_mass}
use Rattle.it_space.specs.Rows.{Terms, IsCanonical, IsOver, one_at, value, negated_terms, row_mass}
use Rattle.it_space.specs.Spaces.{size_of}
use Rattle.it_space.specs.Sums.{terms_from}
use Rattle.it_space.proofs.EveryLemmas.{every-append}
use Rattle.it_space.proofs.TermLemmas.{mass-append, mass-negated_terms, value-append, value-negated_terms}
use Rattle.it_polymatroid.specs.Certificates.{Form, dot, IsLinear}
use Rattle.it_polymatroid.specs.Elementals.{span}
use Rattle.it_polymatroid.proofs.Forms.{linear_at, linear_zero, linear-add, linear-scale}
use Rattle.it_polymatroid.proofs.Spans.{length-map-span}
use Rattle.it_demand.specs.Canonical.{IsRowOf}
use Rattle.it_demand.specs.Coefficients.{dense_form_from, mass}
use Rattle.it_demand.specs.Targets.{negation}
use Rattle.it_demand.proofs.TermLemmas.{row_canonical, row-value, row-mass, row_up_to}

-- the form is the value of terms with coordinates up to `size`, whose coefficients are `bound` together at most
pub record IsFormUpTo (size bound : ℕ) (form : Form) : Type 0 where
  pub terms : Terms
  pub same : (p : ℕ → ℤ) → value terms p ≡ form p
  pub coordinates : Every (λ (t : ℕ × ℤ). t.0 ≤ size) terms
  pub small : row_mass terms ≤ bound

-- ---- how forms are made

every-negated : (size : ℕ) (xs : Terms) → Every (λ (t : ℕ × ℤ). t.0 ≤ size) xs → Every (λ (t : ℕ × ℤ). t.0 ≤ size) (negated_terms xs)
every-negated size [] e = tt
every-negated size (x ∷ xs) e = (e.0, every-negated size xs e.1)

pub form_zero : (size : ℕ) → IsFormUpTo size 0 (λ p. pos 0)
form_zero size = record { terms = []; same = λ p. refl; coordinates = tt; small = omega arith }

pub form-add : (size a b : ℕ) (f g : Form) → IsFormUpTo size a f → IsFormUpTo size b g → IsFormUpTo size (a + b) (λ p. f p +ℤ g p)
form-add size a b f g x y = record {
  terms = x.terms ++ y.terms;
  same = λ p. value-append x.terms y.terms p ∙ ap₂ (λ (m n : ℤ). m +ℤ n) (x.same p) (y.same p);
  coordinates = every-append (λ (t : ℕ × ℤ). t.0 ≤ size) x.terms y.terms x.coordinates y.coordinates;
  small = omega (arith, mass-append x.terms y.terms, x.small, y.small);
}

pub form-negation : (size a : ℕ) (f : Form) → IsFormUpTo size a f → IsFormUpTo size a (negation f)
form-negation size a f x = record {
  terms = negated_terms x.terms;
  same = λ p. value-negated_terms x.terms p ∙ ap neg_ℤ (x.same p);
  coordinates = every-negated size x.terms x.coordinates;
  small = omega (arith, mass-negated_terms x.terms, x.small);
}

-- a form with the same values, and a greater bound
pub form_same : (size a b : ℕ) (f g : Form) → a ≤ b → ((p : ℕ → ℤ) → f p ≡ g p) → IsFormUpTo size a f → IsFormUpTo size b g
form_same size a b f g l e x = record { terms = x.terms; same = λ p. x.same p ∙ e p; coordinates = x.coordinates; small = omega (arith, l, x.small) }

-- ---- the row of a form

value_linear : (size : ℕ) (ts : Terms) → Every (λ (t : ℕ × ℤ). t.0 ≤ size) ts → IsLinear (size + 1) (value ts)
value_linear size [] e = linear_zero (size + 1)
value_linear size (t ∷ ts) e =
    linear-add (size + 1) (λ p. t.1 *ℤ p t.0) (value ts) (linear-scale (size + 1) t.1 (λ p. p t.0)
    (linear_at (size + 1) t.0 (omega (arith, e.0)))) (value_linear size ts e.1)

-- the coefficients from a coordinate on
dense_is : (first count : ℕ) (f p : ℕ → ℤ) → dot first f p +ℤ dense_form_from first (map f (span first count)) p ≡ dot (first + count) f p
dense_is first zero f p = let e : first ≡ first + 0 = omega arith in +ℤ_idr (dot first f p) ∙ ap (λ (n : ℕ). dot n f p) e
dense_is first (suc count) f p =
    let e : first + 1 + count ≡ first + suc count = omega arith in
    let next : suc first ≡ first + 1 = omega arith in
    let rest : ℤ = dense_form_from (first + 1) (map f (span (first + 1) count)) p in
    sum-swap (dot first f p) (f first *ℤ p first) rest ∙ ap (λ (n : ℕ). dot n f p +ℤ rest) next ∙ dense_is (first + 1) count f p ∙ ap (λ (n : ℕ). dot n f p) e
  where
    sum-swap : (x y z : ℤ) → x +ℤ (y +ℤ z) ≡ (y +ℤ x) +ℤ z
    sum-swap x y z = omega (arith, ints)

-- all coefficients together are no more than the terms
module _ (t : ℕ × ℤ) (f : ℕ → ℤ) where
  abbrev with_term : ℕ → ℤ
  with_term c = t.1 *ℤ one_at c t.0 +ℤ f c

  at_term : (b : Bool) (y : ℤ) → unsigned_abs (t.1 *ℤ cond b (pos 1) (pos 0) +ℤ y) ≤ unsigned_abs t.1 + unsigned_abs y
  at_term true y = omega (arith, ints)
  at_term false y = omega (arith, ints)

  past_term : (first count : ℕ) → t.0 < first → mass (map with_term (span first count)) ≡ mass (map f (span first count))
  past_term first zero l = refl
  past_term first (suc count) l = ap₂ (λ (a b : ℕ). a + b) (ap unsigned_abs elsewhere) (past_term (first + 1) count (omega (arith, l)))
    where
      elsewhere : with_term first ≡ f first
      elsewhere = ap (λ b. t.1 *ℤ cond b (pos 1) (pos 0) +ℤ f first) (ne_eqb t.0 first (λ e. omega (arith, e, l))) ∙ omega (arith, ints)

  mass-with_term : (first count : ℕ) → mass (map with_term (span first count)) ≤ unsigned_abs t.1 + mass (map f (span first count))
  mass-with_term first zero = omega arith
  mass-with_term first (suc count) = by_test (nat_eq t.0 first) refl (mass-with_term (first + 1) count)
    where
      by_test : (b : Bool) → nat_eq t.0 first ≡ b
          → mass (map with_term (span (first + 1) count)) ≤ unsigned_abs t.1 + mass (map f (span (first + 1) count))
          → mass (map with_term (span first (suc count))) ≤ unsigned_abs t.1 + mass (map f (span first (suc count)))
      by_test true e rest = omega (arith, at_term (nat_eq t.0 first) (f first), past_term (first + 1) count (omega (arith, eqb-true t.0 first e)))
      by_test false e rest =
          let elsewhere : with_term first ≡ f first = ap (λ b. t.1 *ℤ cond b (pos 1) (pos 0) +ℤ f first) e ∙ omega (arith, ints) in
          omega (arith, ap unsigned_abs elsewhere, rest)

mass-coefficients : (ts : Terms) (first count : ℕ) → mass (map (λ c. value ts (one_at c)) (span first count)) ≤ row_mass ts
mass-coefficients [] first zero = omega arith
mass-coefficients [] first (suc count) = omega (arith, mass-coefficients [] (first + 1) count)
mass-coefficients (t ∷ ts) first count =
    let one : mass (map (λ c. value (t ∷ ts) (one_at c)) (span first count)) ≤ unsigned_abs t.1 + mass (map (λ c. value ts (one_at c)) (span first count)) =
    mass-with_term t (λ c. value ts (one_at c)) first count in
    omega (arith, one, mass-coefficients ts first count)

module _ (s : Space) (bound : ℕ) (within : bound < 2 ^ 127) (form : Form) (x : IsFormUpTo (size_of s) bound form) where
  -- its value at the map that is 1 at a coordinate
  abbrev coefficient_at : ℕ → ℤ
  coefficient_at c = value x.terms (one_at c)

  abbrev coefficients : List ℤ
  coefficients = map coefficient_at (span 0 (suc (size_of s)))

  abbrev pub row : Terms
  row = terms_from 1 (map coefficient_at (span 1 (size_of s)))

  all_small : mass coefficients ≤ bound
  all_small =
      let all : mass coefficients ≤ row_mass x.terms = mass-coefficients x.terms 0 (suc (size_of s)) in
      omega (arith, all, x.small)

  pub row_same : (p : ℕ → ℤ) → p 0 ≡ pos 0 → value row p ≡ form p
  row_same p z =
      let e : 0 + suc (size_of s) ≡ size_of s + 1 = omega arith in
      row-value coefficients row p refl z ∙ sym (+ℤ_idl (dense_form_from 0 coefficients p)) ∙ dense_is 0 (suc (size_of s)) coefficient_at p
      ∙ ap (λ (n : ℕ). dot n coefficient_at p) e ∙ sym ((value_linear (size_of s) x.terms x.coordinates).sum p z) ∙ x.same p

  pub row_coordinates : IsOver (size_of s) row
  row_coordinates = let e : length coefficients - 1 ≡ size_of s = omega (arith, length-map-span coefficient_at 0 (suc (size_of s)))
      in subst (λ (n : ℕ). IsOver n row) e (row_up_to coefficients row refl)

  pub row_is_canonical : IsCanonical row
  row_is_canonical = row_canonical coefficients row refl (omega (arith, all_small, within))

module _ (s : Space) (form : Form) (x : IsFormUpTo (size_of s) most_mass form) where
  within : most_mass < 2 ^ 127
  within = lit< tt

  abbrev own_row : Terms
  own_row = row s most_mass within form x

  row_is_small : IsSmall own_row
  row_is_small =
      let coefficients = coefficients s most_mass within form x in
      omega (arith, row-mass coefficients own_row refl, all_small s most_mass within form x)

  -- the form has its canonical row
  pub row_there : (ts : Terms) × IsRowOf s form ts
  row_there = (
    own_row,
    record {
      same = row_same s most_mass within form x;
      coordinates = row_coordinates s most_mass within form x;
      canonical = row_is_canonical s most_mass within form x;
      small = row_is_small;
    },
  )
