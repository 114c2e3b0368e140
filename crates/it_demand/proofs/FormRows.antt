-- A row is the terms of its form.
use Rattle.std.proofs.Common.{◌≡◌, ◌⊎◌, inl, inr, ℕ, zero, suc, ◌+◌, ◌<◌, ◌≤◌, ℤ, pos, negsuc, refl, sym, ap, ap₂, subst, ◌∙◌, arith, List, [], ◌∷◌, ◌++◌, map}
use Rattle.std.specs.List.{AllZip, AllByRecursion as Every}
use Rattle.std.proofs.lemmas.Bool.{cases_order}
use Rattle.it_space.specs.declared.spaces.Space.{Space}
use Rattle.it_problems.specs.declared.problems.Kind.{Kind}
use Rattle.it_problems.specs.declared.problems.Constraint.{Constraint}
use Rattle.it_space.specs.Rows.{Terms, Ascends, IsCanonical, IsOver, coefficient, one_at, single_term, value}
use Rattle.it_space.specs.Spaces.{size_of}
use Rattle.it_space.specs.Sums.{terms_from}
use Rattle.it_space.proofs.CanonicalRows.{head_is, none_below, other_is}
use Rattle.it_space.proofs.EveryLemmas.{every_of}
use Rattle.it_space.proofs.TermLemmas.{value-one_at}
use Rattle.it_polymatroid.specs.Certificates.{Form}
use Rattle.it_polymatroid.specs.Elementals.{span}
use Rattle.it_polymatroid.proofs.Forms.{one_at-zero}
use Rattle.it_demand.specs.Canonical.{IsRowOf}
use Rattle.it_demand.specs.Demands.{Demand}
use Rattle.it_demand.specs.Origins.{States}
use Rattle.it_demand.specs.SystemForms.{AreRowsOf}
use Rattle.it_demand.specs.RowsOfForms.{terms_of_form}

-- a row from a coordinate on, by its coefficients
told_from : (limit first count : ℕ) (row : Terms) (f : ℕ → ℤ) → limit ≤ first + count → Ascends first row → Every (λ (t : ℕ × ℤ). t.0 < limit) row
    → ((c : ℕ) → first ≤ c → coefficient row c ≡ f c) → row ≡ terms_from first (map f (span first count))
told_from limit first zero [] f l a u h = refl
told_from limit first zero (t ∷ ts) f l a u h = absurd (omega (arith, l, a.0, u.0))
told_from limit first (suc count) [] f l a u h = told_from limit (first + 1) count [] f (omega (arith, l)) tt tt (λ c k. h c (omega (arith, k)))
    ∙ ap (λ (x : ℤ). single_term first x ++ terms_from (first + 1) (map f (span (first + 1) count))) (h first (omega arith))
told_from limit first (suc count) (t ∷ ts) f l a u h = by_order (cases_order t.0 first)
    (λ e. told_from limit (first + 1) count ts f (omega (arith, l)) (subst (λ (n : ℕ). Ascends (n + 1) ts) e a.3) u.1
    (λ c k. sym (other_is t ts c (λ q. omega (arith, k, q, e))) ∙ h c (omega (arith, k))))
    (λ k. told_from limit (first + 1) count (t ∷ ts) f (omega (arith, l)) (omega (arith, k), a.1, a.2, a.3) u (λ c m. h c (omega (arith, m))))
  where
    rest : Terms
    rest = terms_from (first + 1) (map f (span (first + 1) count))

    single_term_stays : (x : ℤ) → (x ≡ pos 0 → ⊥) → single_term first x ≡ (first, x) ∷ []
    single_term_stays (pos zero) n = absurd (n refl)
    single_term_stays (pos (suc x)) n = refl
    single_term_stays (negsuc x) n = refl

    first_coefficient : t.0 ≡ first → f first ≡ t.1
    first_coefficient e = sym (h first (omega arith)) ∙ ap (coefficient (t ∷ ts)) (sym e) ∙ head_is first t ts a

    by_order : (t.0 ≡ first) ⊎ ((t.0 < first) ⊎ (first < t.0)) → (t.0 ≡ first → ts ≡ rest) → (first < t.0 → t ∷ ts ≡ rest)
        → t ∷ ts ≡ single_term first (f first) ++ rest
    by_order (inl e) same later = ap₂ (λ (n : ℕ) (xs : Terms). (n, t.1) ∷ xs) e (same e)
        ∙ ap (λ (xs : Terms). xs ++ rest) (sym (ap (single_term first) (first_coefficient e) ∙ single_term_stays t.1 a.1))
    by_order (inr (inl k)) same later = absurd (omega (arith, k, a.0))
    by_order (inr (inr k)) same later = later k ∙ ap (λ (x : ℤ). single_term first x ++ rest)
        (sym (none_below t.0 (t ∷ ts) first (omega arith, a.1, a.2, a.3) k) ∙ h first (omega arith))

-- a canonical row with coordinates up to a number is the terms of each form that has its value at every map that is 0 at 0
pub told_by_form : (size : ℕ) (form : Form) (row : Terms) → IsCanonical row → IsOver size row
    → ((p : ℕ → ℤ) → p 0 ≡ pos 0 → value row p ≡ form p) → row ≡ terms_of_form size form
unfolding terms_of_form
told_by_form size form row a up same =
    let each = every_of (λ (t : ℕ × ℤ). (1 ≤ t.0) × (t.0 ≤ size)) row up in
    told_from (size + 1) 1 size row (λ c. form (one_at c)) (omega arith) (from_one row a each) (row_below_limit row each)
    (λ c h. sym (value-one_at row c) ∙ same (one_at c) (one_at-zero c h))
  where
    from_one : (row : Terms) → Ascends 0 row → Every (λ (t : ℕ × ℤ). (1 ≤ t.0) × (t.0 ≤ size)) row → Ascends 1 row
    from_one [] a u = tt
    from_one (t ∷ ts) a u = (u.0.0, a.1, a.2, a.3)

    row_below_limit : (row : Terms) → Every (λ (t : ℕ × ℤ). (1 ≤ t.0) × (t.0 ≤ size)) row → Every (λ (t : ℕ × ℤ). t.0 < size + 1) row
    row_below_limit [] u = tt
    row_below_limit (t ∷ ts) u = (omega (arith, u.0.1), row_below_limit ts u.1)

pub row_is_terms_of_form : (s : Space) (form : Form) (row : Terms) → IsRowOf s form row → row ≡ terms_of_form (size_of s) form
row_is_terms_of_form s form row r = told_by_form (size_of s) form row r.canonical r.coordinates r.same

-- the form that is 0 has no terms
pub no_terms : (size : ℕ) → terms_of_form size (λ p. pos 0) ≡ []
no_terms size = sym (told_by_form size (λ p. pos 0) [] tt (λ i d l. absurd (omega arith)) (λ p z. refl))

-- rows of forms, and of demands
pub rows_are_terms_of_forms : (s : Space) (forms : List Form) (rows : List Terms) → AreRowsOf s forms rows → rows ≡ map (terms_of_form (size_of s)) forms
rows_are_terms_of_forms s [] [] a = refl
rows_are_terms_of_forms s [] (row ∷ rows) a = absurd a
rows_are_terms_of_forms s (form ∷ forms) [] a = absurd a
rows_are_terms_of_forms s (form ∷ forms) (row ∷ rows) a = ap₂ (λ (t : Terms) (ts : List Terms). t ∷ ts)
    (row_is_terms_of_form s form row a.0) (rows_are_terms_of_forms s forms rows a.1)

pub stated_rows : (s : Space) (ds : List Demand) (cs : List Constraint) → AllZip (States s) ds cs
    → map (λ (c : Constraint). let x : Kind × Terms = (c.kind, c.row) in x) cs
    ≡ map (λ (d : Demand). let x : Kind × Terms = (d.kind, terms_of_form (size_of s) d.form) in x) ds
stated_rows s [] [] a = refl
stated_rows s [] (c ∷ cs) a = absurd a
stated_rows s (d ∷ ds) [] a = absurd a
stated_rows s (d ∷ ds) (c ∷ cs) a = ap₂ (λ (x : Kind × Terms) (xs : List (Kind × Terms)). x ∷ xs)
    (ap₂ (λ (k : Kind) (t : Terms). let x : Kind × Terms = (k, t) in x) a.0.kind (row_is_terms_of_form s d.form c.row a.0.row)) (stated_rows s ds cs a.1)
