-- Rows over closed sets.
use Rattle.std.proofs.Common.{◌≡◌, ◌≢◌, ◌⊎◌, inl, inr, ℕ, zero, suc, ◌+◌, ◌^◌, ◌<◌, ◌≤◌, ℤ, pos, ◌+ℤ◌, ◌*ℤ◌, List, [], ◌∷◌, length, get_or, Bool, true, false, not, cond, nat_eq, nat_lt, eq-eqb, ne_eqb, refl, sym, ap, ◌∙◌, arith, map}
use Rattle.std.specs.List.{filter, AllByRecursion as Every}
use Rattle.std.proofs.lemmas.Int.{ints}
use Rattle.std.proofs.lemmas.Bool.{eqb-true, false≢true, true≢false}
use Rattle.std.proofs.Math.IntN.{+ℤ_idl}
use Rattle.it_space.specs.Rows.{Terms, coefficient, value, IsOver, one_at}
use Rattle.it_space.proofs.CanonicalRows.{other_is}
use Rattle.it_space.proofs.EveryLemmas.{every_of, all_of, every-same, every-filter}
use Rattle.it_polymatroid.proofs.Forms.{one_at-zero}
use Rattle.it_elemental.specs.Generators.{Generator, generator_at}
use Rattle.it_space.proofs.TermLemmas.{value-one_at}
use Rattle.it_closure.specs.declared.dependences.Dependence.{Dependence}
use Rattle.it_closure.specs.Collapse.{place, placed_terms, spread_out, AreDependences, IsCollapseOf}
use Rattle.it_closure.specs.Coordinates.{closed_coordinates, RiseTo}
use Rattle.it_closure.proofs.Places.{value-placed}
use Rattle.it_closure.proofs.Serving.{coordinates_serve}
use Rattle.it_run.proofs.RowValues.{AreApart}
use Rattle.it_columns.proofs.ColumnLemmas.{In}
use Rattle.it_prove.specs.Closed.{collapsed_row, collapsed_generator}

-- ---- terms with a coordinate

some_test : (x : ℕ) → nat_lt 0 (suc x) ≡ true
some_test x = grind (arith, Rattle.std.proofs.lemmas.Bool.Decides.nat_tests)

coefficient_kept : (ts : Terms) (c : ℕ) → 0 < c → coefficient (filter (λ t. nat_lt 0 t.0) ts) c ≡ coefficient ts c
coefficient_kept [] c h = refl
coefficient_kept (t ∷ ts) c h = by_place t.0 t.1 (coefficient_kept ts c h)
  where
    other_coefficient : (c : ℕ) → 0 < c → (v x : ℤ) → cond (nat_eq 0 c) v (pos 0) +ℤ x ≡ x
    other_coefficient c h v x = ap (λ b. cond b v (pos 0) +ℤ x) (ne_eqb 0 c (λ e. omega (arith, e))) ∙ +ℤ_idl x

    by_place : (x : ℕ) (v : ℤ) → coefficient (filter (λ t. nat_lt 0 t.0) ts) c ≡ coefficient ts c
        → coefficient (cond (nat_lt 0 x) ((x, v) ∷ filter (λ t. nat_lt 0 t.0) ts) (filter (λ t. nat_lt 0 t.0) ts)) c
        ≡ cond (nat_eq x c) v (pos 0) +ℤ coefficient ts c
    by_place zero v e = e ∙ sym (other_coefficient c h v (coefficient ts c))
    by_place (suc x) v e = ap (λ b. coefficient (cond b ((suc x, v) ∷ filter (λ t. nat_lt 0 t.0) ts) (filter (λ t. nat_lt 0 t.0) ts)) c)
        (some_test x) ∙ ap (λ y. cond (nat_eq (suc x) c) v (pos 0) +ℤ y) e

value_kept : (ts : Terms) (p : ℕ → ℤ) → p 0 ≡ pos 0 → value (filter (λ t. nat_lt 0 t.0) ts) p ≡ value ts p
value_kept [] p z = refl
value_kept (t ∷ ts) p z = by_place t.0 t.1 (value_kept ts p z)
  where
    by_place : (x : ℕ) (v : ℤ) → value (filter (λ t. nat_lt 0 t.0) ts) p ≡ value ts p
        → value (cond (nat_lt 0 x) ((x, v) ∷ filter (λ t. nat_lt 0 t.0) ts) (filter (λ t. nat_lt 0 t.0) ts)) p ≡ v *ℤ p x +ℤ value ts p
    by_place zero v e = e ∙ zero_term v (value ts p) ∙ ap (λ y. v *ℤ y +ℤ value ts p) (sym z)
      where
        zero_term : (v x : ℤ) → x ≡ v *ℤ pos 0 +ℤ x
        zero_term v x = omega (arith, ints)
    by_place (suc x) v e = ap (λ b. value (cond b ((suc x, v) ∷ filter (λ t. nat_lt 0 t.0) ts) (filter (λ t. nat_lt 0 t.0) ts)) p)
        (some_test x) ∙ ap (λ y. v *ℤ p (suc x) +ℤ y) e

-- no coefficient where no term has the coordinate
pub coefficient_absent : (ts : Terms) (c : ℕ) → Every (λ t. t.0 ≢ c) ts → coefficient ts c ≡ pos 0
coefficient_absent [] c e = refl
coefficient_absent (t ∷ ts) c e = other_is t ts c e.0 ∙ coefficient_absent ts c e.1

not_zero : (x : ℕ) → nat_lt 0 x ≡ true → x ≢ 0
not_zero zero e = absurd (cc)
not_zero (suc x) e = λ z. omega (arith, z)

kept_some : (ts : Terms) → Every (λ t. t.0 ≢ 0) (filter (λ t. nat_lt 0 t.0) ts)
kept_some ts = every-filter (λ t. t.0 ≢ 0) (λ t. nat_lt 0 t.0) ts (coordinates_not_zero ts)
  where
    coordinates_not_zero : (ts : Terms) → Every (λ t. nat_lt 0 t.0 ≡ true → t.0 ≢ 0) ts
    coordinates_not_zero [] = tt
    coordinates_not_zero (t ∷ ts) = (not_zero t.0, coordinates_not_zero ts)

-- ---- rows over closed sets

module _ (n : ℕ) (ds : List Dependence) where
  pub collapsed_value : (row : Terms) (p : ℕ → ℤ) → p 0 ≡ pos 0 → value (collapsed_row n ds row) p ≡ value row (spread_out n ds p)
  collapsed_value row p z = value_kept (placed_terms n ds row) p z ∙ value-placed n ds row p

  pub collapsed_at : (row : Terms) (c : ℕ) → 0 < c → value row (spread_out n ds (one_at c)) ≡ coefficient (collapsed_row n ds row) c
  collapsed_at row c h = sym (value-placed n ds row (one_at c)) ∙ value-one_at (placed_terms n ds row) c ∙ sym (coefficient_kept (placed_terms n ds row) c h)

  -- a row that the code has collapsed has these coefficients
  pub collapse_same : (size : ℕ) (old new : Terms) → IsCollapseOf n ds old new → IsOver size new → (c : ℕ)
      → coefficient new c ≡ coefficient (collapsed_row n ds old) c
  collapse_same size old new k u zero =
      coefficient_absent new 0 (every-same (λ (t : ℕ × ℤ). (1 ≤ t.0) × (t.0 ≤ size)) (λ t. t.0 ≢ 0) new (λ t b z. omega (arith, b.0, z))
      (every_of (λ (t : ℕ × ℤ). (1 ≤ t.0) × (t.0 ≤ size)) new u))
      ∙ sym (coefficient_absent (collapsed_row n ds old) 0 (kept_some (placed_terms n ds old)))
  collapse_same size old new k u (suc c) =
      sym (value-one_at new (suc c)) ∙ k (one_at (suc c)) (one_at-zero (suc c) (omega arith)) ∙ collapsed_at old (suc c) (omega arith)

  pub collapsed_generator_at : (gs : List Generator) (i : ℕ) → generator_at (map (collapsed_generator n ds) gs) i ≡ collapsed_generator n ds (generator_at gs i)
  collapsed_generator_at [] i = refl
  collapsed_generator_at (g ∷ gs) zero = refl
  collapsed_generator_at (g ∷ gs) (suc i) = collapsed_generator_at gs i

-- ---- coordinates in ascending order

pub rise_low : (from to : ℕ) (xs : List ℕ) → RiseTo from to xs → (k : ℕ) → k < length xs → from ≤ get_or xs k 0
rise_low from to [] r k h = absurd (omega arith)
rise_low from to (x ∷ xs) r zero h = r.0
rise_low from to (x ∷ xs) r (suc k) h = omega (arith, r.0, rise_low (x + 1) to xs r.1 k (omega arith))

pub rise_apart : (from to : ℕ) (xs : List ℕ) → RiseTo from to xs → AreApart xs
rise_apart from to [] r i k h l e = absurd (omega arith)
rise_apart from to (x ∷ xs) r zero zero h l e = refl
rise_apart from to (x ∷ xs) r zero (suc k) h l e = absurd (omega (arith, rise_low (x + 1) to xs r.1 k (omega arith), e))
rise_apart from to (x ∷ xs) r (suc i) zero h l e = absurd (omega (arith, rise_low (x + 1) to xs r.1 i (omega arith), e))
rise_apart from to (x ∷ xs) r (suc i) (suc k) h l e = ap suc (rise_apart (x + 1) to xs r.1 i k (omega arith) (omega arith) e)

pub listed_or_absent : (xs : List ℕ) (c : ℕ) → In xs c ⊎ Every (λ x. x ≢ c) xs
listed_or_absent [] c = inr tt
listed_or_absent (x ∷ xs) c = by_test (nat_eq x c) refl (listed_or_absent xs c)
  where
    by_test : (b : Bool) → nat_eq x c ≡ b → In xs c ⊎ Every (λ x. x ≢ c) xs → In (x ∷ xs) c ⊎ Every (λ x. x ≢ c) (x ∷ xs)
    by_test true e f = inl (zero, omega arith, eqb-true x c e)
    by_test false e (inl f) = inl (suc f.0, omega (arith, f.1), f.2)
    by_test false e (inr f) = inr ((λ q. true≢false (sym (eq-eqb x c q) ∙ e)), f)

-- the places are among them
module _ (n rates : ℕ) (ds : List Dependence) (a : AreDependences n ds) where
  abbrev coords : List ℕ
  coords = closed_coordinates n rates ds

  pub coords_rise : RiseTo 1 (2 ^ n + rates) coords
  coords_rise = (coordinates_serve n rates ds a).0

  place_differs : (c : ℕ) → Every (λ x. x ≢ c) coords → (x : ℕ) → x < 2 ^ n + rates → place n ds x ≢ 0 → place n ds x ≢ c
  place_differs c e x h some q = false≢true (sym (ap not (eq-eqb (place n ds x) c q)) ∙ (coordinates_serve n rates ds a).1 x h some (λ y. not (nat_eq y c))
      (all_of (λ y. not (nat_eq y c) ≡ true) coords (every-same (λ y. y ≢ c) (λ y. not (nat_eq y c) ≡ true) coords (λ y d. ap not (ne_eqb y c d)) e)))

  pub place_listed : (x : ℕ) → x < 2 ^ n + rates → place n ds x ≢ 0 → In coords (place n ds x)
  place_listed x h some = by_cases (listed_or_absent coords (place n ds x))
    where
      by_cases : In coords (place n ds x) ⊎ Every (λ y. y ≢ place n ds x) coords → In coords (place n ds x)
      by_cases (inl f) = f
      by_cases (inr f) = absurd (place_differs (place n ds x) f x h some refl)

  -- a row over closed sets has its terms at these coordinates, and no coefficient elsewhere
  pub collapsed_over : (row : Terms) → Every (λ t. t.0 < 2 ^ n + rates) row → Every (λ (t : ℕ × ℤ). In coords t.0) (collapsed_row n ds row)
  collapsed_over row u = every-filter (λ (t : ℕ × ℤ). In coords t.0) (λ t. nat_lt 0 t.0) (placed_terms n ds row) (places_listed row u)
    where
      places_listed : (ts : Terms) → Every (λ t. t.0 < 2 ^ n + rates) ts → Every (λ (t : ℕ × ℤ). nat_lt 0 t.0 ≡ true → In coords t.0) (placed_terms n ds ts)
      places_listed [] u = tt
      places_listed (t ∷ ts) u = ((λ e. place_listed t.0 u.0 (not_zero (place n ds t.0) e)), places_listed ts u.1)

  pub collapsed_none : (row : Terms) (c : ℕ) → Every (λ t. t.0 < 2 ^ n + rates) row → Every (λ x. x ≢ c) coords → coefficient (collapsed_row n ds row) c ≡ pos 0
  collapsed_none row c u e = coefficient_absent (collapsed_row n ds row) c (every-same (λ (t : ℕ × ℤ). In coords t.0) (λ t. t.0 ≢ c) (collapsed_row n ds row)
      (λ t i q. all_of (λ x. x ≢ c) coords e i.0 0 i.1 (i.2 ∙ q)) (collapsed_over row u))
