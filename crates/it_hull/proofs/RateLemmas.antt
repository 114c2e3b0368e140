-- Rows over rates: they hold at a point exactly where they hold at the same rates with 0 at each set, which meets all constraints about
-- sets alone.
use Rattle.std.proofs.Common.{◌≡◌, ◌↔◌, ℕ, ◌-◌, ◌<◌, ◌≤◌, ◌^◌, bit_and, bit_or, ℤ, pos, negsuc, ◌*ℤ◌, ◌≤ℤ◌, List, [], ◌∷◌, Bool, true, false, cond, nat_lt, refl, sym, ap, subst, arith, All}
use Rattle.std.specs.Prelude.{Contains}
use Rattle.std.specs.List.{AllByRecursion as Every}
use Rattle.std.proofs.lemmas.Int.{ints}
use Rattle.std.proofs.lemmas.Nat.{pow_pos, or_lt, and_le_l}
use Rattle.std.proofs.lemmas.Bool.{ltb-true, ltb-false}
use Rattle.std.proofs.lemmas.List.Elements.{All-nil, All-cons, All-head, All-tail}
use Rattle.std.proofs.Math.IntN.{*ℤ-zero}
use Rattle.it_problems.specs.declared.problems.Constraint.{Constraint}
use Rattle.it_problems.specs.declared.problems.Kind.{Kind}
use Rattle.it_problems.specs.declared.problems.Kind.TheVariants.{Inequality, Equation}
use Rattle.it_problems.specs.Problems.{Meets, IsMet, AreMet}
use Rattle.it_space.specs.declared.spaces.Space.{Space}
use Rattle.it_space.specs.Rows.{Terms, IsOver, value}
use Rattle.it_space.specs.Spaces.{size_of}
use Rattle.it_space.proofs.EveryLemmas.{all_of, every_of}
use Rattle.it_space.proofs.SetLemmas.{inside_below}
use Rattle.it_polymatroid.specs.Polymatroid.{IsPolymatroid}
use Rattle.it_eliminate.specs.Projections.{IsPointOf}
use Rattle.it_hull.specs.Hulls.{UsesOnly, first_rows}
use Rattle.it_hull.specs.Theorems.{AreNoSets, ReducedIsHull, RatesMeet, IsZeroAtSets}
use Rattle.it_hull.proofs.ValueLemmas.{value_by_kept}

-- ---- the same rates with 0 at each set

module _ (n : ℕ) (kept : List ℕ) (rates : AreNoSets n kept) (x : ℕ → ℤ) where
  abbrev at_rates : ℕ → ℤ
  at_rates c = cond (nat_lt c (2 ^ n)) (pos 0) (x c)

  at_sets : IsZeroAtSets n at_rates
  at_sets c l = by_test (nat_lt c (2 ^ n)) refl
    where
      by_test : (b : Bool) → nat_lt c (2 ^ n) ≡ b → cond b (pos 0) (x c) ≡ pos 0
      by_test true e = refl
      by_test false e = let k : 2 ^ n ≤ c = ltb-false c (2 ^ n) e in absurd (omega (arith, k, l))

  at_kept : (c : ℕ) → Contains kept c → at_rates c ≡ x c
  at_kept c m = by_test (nat_lt c (2 ^ n)) refl
    where
      by_test : (b : Bool) → nat_lt c (2 ^ n) ≡ b → cond b (pos 0) (x c) ≡ x c
      by_test true e = let k : c < 2 ^ n = ltb-true c (2 ^ n) e in let r = rates c m in absurd (omega (arith, k, r))
      by_test false e = refl

  points_agree : (rows : List Terms) → Every (UsesOnly kept) rows → Every (λ row. pos 0 ≤ℤ value row at_rates) rows ↔ Every (λ row. pos 0 ≤ℤ value row x) rows
  points_agree [] o = (λ a. tt, λ a. tt)
  points_agree (row ∷ rows) o =
      let own = value_by_kept kept row at_rates x o.0 at_kept in
      let more = points_agree rows o.1 in (
        λ a. (subst (λ (z : ℤ). pos 0 ≤ℤ z) own a.0, more.0 a.1),
        λ a. (subst (λ (z : ℤ). pos 0 ≤ℤ z) (sym own) a.0, more.1 a.1),
      )

  points_at : (rows : List Terms) → All (UsesOnly kept) rows → IsPointOf rows at_rates ↔ IsPointOf rows x
  points_at rows o =
      let same = points_agree rows (every_of (UsesOnly kept) rows o) in (
        λ a. all_of (λ (row : Terms). pos 0 ≤ℤ value row x) rows (same.0 (every_of (λ (row : Terms). pos 0 ≤ℤ value row at_rates) rows a)),
        λ a. all_of (λ (row : Terms). pos 0 ≤ℤ value row at_rates) rows (same.1 (every_of (λ (row : Terms). pos 0 ≤ℤ value row x) rows a)),
      )

pub reduced_is_hull : ReducedIsHull
reduced_is_hull n kept rows others rays rates over alike h = record {
  over = over;
  exact = λ x.
      let own = points_at n kept rates x rows h.over in
      let new = points_at n kept rates x others over in
      let same = alike (at_rates n kept rates x) (at_sets n kept rates x) in (
        λ a. (h.exact x).0 (own.0 (same.1 (new.1 a))),
        λ s. new.0 (same.0 (own.1 ((h.exact x).1 s))),
      );
}

-- ---- constraints about sets alone are met

module _ (n : ℕ) (x : ℕ → ℤ) (zero : IsZeroAtSets n x) where
  zero_polymatroid : IsPolymatroid n x
  zero_polymatroid = record {
    empty = zero 0 (pow_pos n);
    rises = λ s t l i. let a = zero s (inside_below n s t l i) in let b = zero t l in omega (arith, ints, a, b);
    submodular = λ s t l m.
        let a = zero s l in let b = zero t m in let u = zero (bit_or s t) (or_lt n s t l m) in
        let below : bit_and s t < 2 ^ n = (let b : bit_and s t ≤ s = and_le_l s t in omega (arith, b)) in
        let d = zero (bit_and s t) below in omega (arith, ints, a, b, u, d);
  }

  zero_value : (row : Terms) → IsOver (2 ^ n - 1) row → value row x ≡ pos 0
  zero_value [] u = refl
  zero_value (t ∷ ts) u =
      let own : (1 ≤ t.0) × (t.0 ≤ 2 ^ n - 1) = All-head (λ (t : ℕ × ℤ). (1 ≤ t.0) × (t.0 ≤ 2 ^ n - 1)) t ts u in
      let z : t.1 *ℤ x t.0 ≡ t.1 *ℤ pos 0 = ap (λ a. t.1 *ℤ a) (zero t.0 (omega (arith, own.0, own.1, pow_pos n))) in
      omega (arith, ints, z, *ℤ-zero t.1, zero_value ts (All-tail (λ (t : ℕ × ℤ). (1 ≤ t.0) × (t.0 ≤ 2 ^ n - 1)) t ts u))

  met_at_zero : (kind : Kind) (z : ℤ) → z ≡ pos 0 → Meets kind z
  met_at_zero Inequality z e = omega (arith, ints, e)
  met_at_zero Equation z e = e

  zero_met : (cs : List Constraint) → All (λ c. IsOver (2 ^ n - 1) c.row) cs → AreMet x cs
  zero_met [] u = All-nil (IsMet x)
  zero_met (c ∷ cs) u = All-cons (IsMet x) c cs (met_at_zero c.kind (value c.row x)
      (zero_value c.row (All-head (λ (c : Constraint). IsOver (2 ^ n - 1) c.row) c cs u)))
      (zero_met cs (All-tail (λ (c : Constraint). IsOver (2 ^ n - 1) c.row) c cs u))

pub rates_meet : RatesMeet
rates_meet q x sets zero = (zero_polymatroid q.space.variables x zero, zero_met q.space.variables x zero q.constraints sets)

-- ---- the rows of the hull of no rays are of the space

pub first_rows_over : (s : Space) (kept : List ℕ) → All (λ c. (2 ^ s.variables ≤ c) × (c ≤ size_of s)) kept → All (IsOver (size_of s)) (first_rows kept)
first_rows_over s kept rates = all_of (IsOver (size_of s)) (first_rows kept)
    (each_over kept (every_of (λ (c : ℕ). (2 ^ s.variables ≤ c) × (c ≤ size_of s)) kept rates))
  where
    each_over : (cs : List ℕ) → Every (λ c. (2 ^ s.variables ≤ c) × (c ≤ size_of s)) cs → Every (IsOver (size_of s)) (first_rows cs)
    each_over [] a = tt
    each_over (c ∷ cs) a = (one (pos 1), (one (negsuc 0), each_over cs a.1))
      where
        one : (x : ℤ) → IsOver (size_of s) ((c, x) ∷ [])
        one x = all_of (λ (t : ℕ × ℤ). (1 ≤ t.0) × (t.0 ≤ size_of s)) ((c, x) ∷ []) ((omega (arith, a.0.0, pow_pos s.variables), a.0.1), tt)
