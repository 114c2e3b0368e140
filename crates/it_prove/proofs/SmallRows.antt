-- Small rows: those of the generators are, and over closed sets small rows stay so.
use Rattle.std.proofs.Common.{ℕ, zero, suc, ◌+◌, ◌-◌, ◌^◌, ◌≤◌, ℤ, pos, negsuc, neg_ℤ, ◌+ℤ◌, unsigned_abs, List, [], ◌∷◌, ◌++◌, map, get_or, Bool, true, false, cond, nat_lt, nat_eq, All, arith}
use Rattle.std.specs.List.{AllByRecursion as Every}
use Rattle.std.proofs.lemmas.Int.{ints}
use Rattle.it_problems.specs.declared.problems.Constraint.{Constraint}
use Rattle.it_problems.specs.declared.problems.Kind.{Kind}
use Rattle.it_problems.specs.declared.problems.Kind.TheVariants.{Inequality, Equation}
use Rattle.it_space.specs.Bounds.{IsSmall, most_mass}
use Rattle.it_space.specs.Rows.{Terms, negated_terms, row_mass}
use Rattle.it_polymatroid.specs.Elementals.{Elemental, Conditional, Mutual, elementals}
use Rattle.it_space.proofs.EveryLemmas.{every_of, every-same, every-append, every-map, every-flat_map}
use Rattle.it_elemental.specs.Generators.{Generator, of_elemental, of_constraint, generator_list}
use Rattle.it_elemental.specs.Rows.{elemental_row, set_term}
use Rattle.it_closure.specs.declared.dependences.Dependence.{Dependence}
use Rattle.it_closure.specs.Collapse.{PlaceSumsFit, CollapseFits, place, placed_terms}
use Rattle.it_space.specs.Sums.{plus_at}
use Rattle.it_prove.specs.Closed.{collapsed_row}
use Rattle.it_columns.specs.Columns.{columns_by, columns}
use Rattle.it_space.proofs.TermLemmas.{mass-append, mass-negated_terms}

pub abs_add : (x y : ℤ) (a b : ℕ) → unsigned_abs x ≤ a → unsigned_abs y ≤ b → unsigned_abs (x +ℤ y) ≤ a + b
abs_add x y a b h k = omega (arith, ints, h, k)

pub abs_neg : (x : ℤ) (a : ℕ) → unsigned_abs x ≤ a → unsigned_abs (neg_ℤ x) ≤ a
abs_neg x a h = omega (arith, ints, h)

-- ---- the rows of the generators

term-small : (s : ℕ) (a : ℤ) → row_mass (set_term s a) ≤ unsigned_abs a
term-small zero a = omega arith
term-small (suc s) a = omega arith

elemental_small : (n : ℕ) (e : Elemental) → IsSmall (elemental_row n e)
elemental_small n (Conditional i) =
    let all_but : Terms = set_term (2 ^ n - 1 - 2 ^ i) (negsuc 0) in
    let all : Terms = set_term (2 ^ n - 1) (pos 1) in
    omega (arith, mass-append all_but all, term-small (2 ^ n - 1 - 2 ^ i) (negsuc 0), term-small (2 ^ n - 1) (pos 1))
elemental_small n (Mutual i j k) =
    let a : Terms = set_term k (negsuc 0) in
    let b : Terms = set_term (k + 2 ^ i) (pos 1) in
    let c : Terms = set_term (k + 2 ^ j) (pos 1) in
    let d : Terms = set_term (k + 2 ^ i + 2 ^ j) (negsuc 0) in
    omega (
      arith,
      mass-append (a ++ b ++ c) d,
      mass-append (a ++ b) c,
      mass-append a b,
      term-small k (negsuc 0),
      term-small (k + 2 ^ i) (pos 1),
      term-small (k + 2 ^ j) (pos 1),
      term-small (k + 2 ^ i + 2 ^ j) (negsuc 0),
    )

pub generators_small : (n : ℕ) (cs : List Constraint) → All (λ c. IsSmall c.row) cs → Every (λ g. IsSmall g.row) (generator_list n cs)
unfolding generator_list
generators_small n cs a = every-append (λ (g : Generator). IsSmall g.row) (map (of_elemental n) (elementals n)) (map of_constraint cs)
    (every-map (λ (g : Generator). IsSmall g.row) (of_elemental n) (elementals n)
    (every_of (λ e. IsSmall (elemental_row n e)) (elementals n) (λ i d l. elemental_small n (get_or (elementals n) i d))))
    (every-map (λ (g : Generator). IsSmall g.row) of_constraint cs (every_of (λ (c : Constraint). IsSmall c.row) cs a))

-- ---- rows over closed sets

module _ (n : ℕ) (ds : List Dependence) where
  parts_fit : (f : ℕ → ℤ) (ts : Terms) (m : ℕ) → ((c : ℕ) → unsigned_abs (f c) ≤ m) → m + row_mass ts ≤ most_mass → PlaceSumsFit f (placed_terms n ds ts)
  parts_fit f [] m b l = tt
  parts_fit f (t ∷ ts) m b l = (
    (λ h. omega (arith, l, abs_add (f (place n ds t.0)) t.1 m (unsigned_abs t.1) (b (place n ds t.0)) (omega arith))),
    parts_fit (plus_at f (place n ds t.0, t.1)) ts (m + unsigned_abs t.1) (λ c. sum_stays_small c (nat_eq (place n ds t.0) c)) (omega (arith, l)),
  )
    where
      sum_stays_small : (c : ℕ) (s : Bool) → unsigned_abs (f c +ℤ cond s t.1 (pos 0)) ≤ m + unsigned_abs t.1
      sum_stays_small c true = abs_add (f c) t.1 m (unsigned_abs t.1) (b c) (omega arith)
      sum_stays_small c false = omega (arith, abs_add (f c) (pos 0) m 0 (b c) (omega arith))

  pub collapse_fits : (row : Terms) → IsSmall row → CollapseFits n ds row
  collapse_fits row s = parts_fit (λ c. pos 0) row 0 (λ c. omega arith) (omega (arith, s))

  collapsed-mass : (row : Terms) → row_mass (collapsed_row n ds row) ≤ row_mass row
  collapsed-mass [] = omega arith
  collapsed-mass (t ∷ ts) = by_test (nat_lt 0 (place n ds t.0)) (collapsed-mass ts)
    where
      by_test : (s : Bool) → row_mass (collapsed_row n ds ts) ≤ row_mass ts
          → row_mass (cond s ((place n ds t.0, t.1) ∷ collapsed_row n ds ts) (collapsed_row n ds ts)) ≤ unsigned_abs t.1 + row_mass ts
      by_test true h = omega (arith, h)
      by_test false h = omega (arith, h)

  pub collapsed_small : (row : Terms) → IsSmall row → IsSmall (collapsed_row n ds row)
  collapsed_small row s = omega (arith, collapsed-mass row, s)

-- the negation of a small row is small
pub small-negated_terms : (row : Terms) → IsSmall row → IsSmall (negated_terms row)
small-negated_terms row s = omega (arith, mass-negated_terms row, s)

by_kind : (k : Kind) (r : Terms) → IsSmall r → Every IsSmall (columns_by k r)
by_kind Inequality r s = (s, tt)
by_kind Equation r s = (s, (small-negated_terms r s, tt))

pub columns_small : (gs : List Generator) → Every (λ g. IsSmall g.row) gs → Every IsSmall (columns gs)
unfolding columns
columns_small gs e = every-flat_map IsSmall (λ (g : Generator). columns_by g.kind g.row) gs
    (every-same (λ g. IsSmall g.row) (λ g. Every IsSmall (columns_by g.kind g.row)) gs (λ g s. by_kind g.kind g.row s) e)
