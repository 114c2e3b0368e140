-- A point that separates a target from the columns of unknowns, made whole: each unknown's row is met there as its kind says, and the target
-- is -1 or less. The equations are numbered from 1 on.
use Rattle.std.proofs.Common.{◌≡◌, ℕ, zero, suc, ◌+◌, ◌-◌, ◌<◌, ◌≤◌, ℤ, pos, neg_ℤ, ◌≤ℤ◌, List, [], ◌∷◌, length, map, get_or, true, false, refl, sym, ap, subst, ◌∙◌, arith}
use Rattle.std.specs.List.{AllByRecursion as Every}
use Rattle.std.proofs.lemmas.List.{get_or_default}
use Rattle.it_rational.specs.Rational.{Rational, integer, times, is_at_least_zero}
use Rattle.it_rational.proofs.RationalLaws.{ring_ℚ}
use Rattle.it_number.proofs.Ring.{ring, v, nil}
use Rattle.it_number.proofs.Ring as S
use Rattle.it_problems.specs.Problems.{Meets}
use Rattle.it_space.specs.Rows.{Terms, IsOver, point_of, value}
use Rattle.it_space.proofs.EveryLemmas.{every_of, all_of, every-same, every_all}
use Rattle.it_polymatroid.specs.Elementals.{span}
use Rattle.it_polymatroid.proofs.Spans.{get_or-span, length-span}
use Rattle.it_tableau.specs.Operations.{rationals}
use Rattle.it_tableau.specs.Problems.{feasibility_problem}
use Rattle.it_run.specs.Readings.{Separates}
use Rattle.it_run.specs.RowValues.{rational_value}
use Rattle.it_run.proofs.RowValues.{AreApart, point_separates}
use Rattle.it_elemental.specs.Generators.{Generator}
use Rattle.it_columns.specs.Columns.{columns}
use Rattle.it_columns.specs.Scaling.{scale_of, scaled_number, scaled_point}
use Rattle.it_columns.proofs.Scales.{scale_pos, denominators_divide}
use Rattle.it_columns.proofs.ColumnLemmas.{In}
use Rattle.it_columns.proofs.ColumnLemmas.{columns_keep, columns_met}
use Rattle.it_columns.proofs.Wholes.{whole_scaled, least_scaled, below_scaled}
use Prim.Native.Nat.{◌∣◌}

-- ---- the equations

spans_apart : (m : ℕ) → AreApart (span 1 m)
spans_apart m i k h l e = omega (arith, sym (get_or-span 1 m i 0 (omega (arith, length-span 1 m))) ∙ e ∙ get_or-span 1 m k 0 (omega (arith, length-span 1 m)))

pub in_span : (m c : ℕ) → 1 ≤ c → c ≤ m → In (span 1 m) c
in_span m c h l = (c - 1, omega (arith, length-span 1 m), get_or-span 1 m (c - 1) 0 (omega arith) ∙ from_one c h)
  where
    from_one : (c : ℕ) → 1 ≤ c → 1 + (c - 1) ≡ c
    from_one c h = omega arith

row_in_span : (m : ℕ) (row : Terms) → IsOver m row → Every (λ (t : ℕ × ℤ). In (span 1 m) t.0) row
row_in_span m row u = every-same (λ (t : ℕ × ℤ). (1 ≤ t.0) × (t.0 ≤ m)) (λ t. In (span 1 m) t.0) row (λ t b. in_span m t.0 b.0 b.1)
    (every_of (λ (t : ℕ × ℤ). (1 ≤ t.0) × (t.0 ≤ m)) row u)

-- ---- the point as a map

abbrev pub rational_map : List Rational → ℕ → Rational
rational_map qs zero = integer (pos 0)
rational_map qs (suc c) = get_or qs c (integer (pos 0))

times_zero : (l : ℕ) → integer (pos 0) ≡ times (integer (pos l)) (integer (pos 0))
times_zero l = sym (ring ring_ℚ (integer (pos l) ∷ []) (S.times (v 0) nil) nil refl)

pub whole_value : (l : ℕ) (qs : List Rational) → Every (λ q. q.den ∣ l) qs → (c : ℕ)
    → integer (point_of (map (scaled_number l) qs) c) ≡ times (integer (pos l)) (rational_map qs c)
whole_value l qs d zero = times_zero l
whole_value l [] d (suc c) = times_zero l
whole_value l (q ∷ qs) d (suc zero) = whole_scaled l q d.0
whole_value l (q ∷ qs) d (suc (suc c)) = whole_value l qs d.1 (suc c)

module _ (m : ℕ) (us : List Generator) (target : Terms) (qs : List Rational) (up : Every (λ u. IsOver m u.row) us) (t_up : IsOver m target)
    (s : Separates rationals (length (span 1 m)) (length (columns us)) (feasibility_problem (span 1 m) (columns us) target) qs) where
  columns_in_span : Every (λ (r : Terms). Every (λ (t : ℕ × ℤ). In (span 1 m) t.0) r) (columns us)
  columns_in_span = columns_keep (In (span 1 m)) us (every-same (λ u. IsOver m u.row)
      (λ u. Every (λ (t : ℕ × ℤ). In (span 1 m) t.0) u.row) us (λ u b. row_in_span m u.row b) up)

  map_at : (k : ℕ) → k < length (span 1 m) → rational_map qs (get_or (span 1 m) k 0) ≡ get_or qs k (integer (pos 0))
  map_at k h = ap (rational_map qs) (get_or-span 1 m k 0 (omega (arith, length-span 1 m)) ∙ one_plus k)
    where
      one_plus : (k : ℕ) → 1 + k ≡ suc k
      one_plus k = omega arith

  apart : ((j : ℕ) → j < length (columns us) → is_at_least_zero (rational_value (get_or (columns us) j []) (rational_map qs)) ≡ true)
      × (is_at_least_zero (rational_value target (rational_map qs)) ≡ false)
  apart = point_separates (span 1 m) (spans_apart m) (columns us) target qs (rational_map qs)
      (λ j l. all_of (λ (t : ℕ × ℤ). In (span 1 m) t.0) (get_or (columns us) j [])
      (all_of (λ (r : Terms). Every (λ (t : ℕ × ℤ). In (span 1 m) t.0) r) (columns us) columns_in_span j [] l))
      (all_of (λ (t : ℕ × ℤ). In (span 1 m) t.0) target (row_in_span m target t_up)) map_at s

  scaled_row : (row : Terms) → Every (λ (t : ℕ × ℤ). integer (point_of (scaled_point qs) t.0) ≡ times (integer (pos (scale_of qs))) (rational_map qs t.0)) row
  scaled_row row = every_all (λ (t : ℕ × ℤ). integer (point_of (scaled_point qs) t.0)
      ≡ times (integer (pos (scale_of qs))) (rational_map qs t.0)) row (λ t. whole_value (scale_of qs) qs (denominators_divide qs) t.0)

  pub unknowns_met : Every (λ u. Meets u.kind (value u.row (point_of (scaled_point qs)))) us
  unknowns_met = columns_met us (point_of (scaled_point qs)) (every_of (λ r. pos 0 ≤ℤ value r (point_of (scaled_point qs))) (columns us)
      (λ j d l. subst (λ r. pos 0 ≤ℤ value r (point_of (scaled_point qs))) (get_or_default (columns us) j [] d l)
      (least_scaled (scale_of qs) (point_of (scaled_point qs)) (rational_map qs) (scale_pos qs) (get_or (columns us) j [])
      (scaled_row (get_or (columns us) j [])) (apart.0 j l))))

  pub target_below : value target (point_of (scaled_point qs)) ≤ℤ neg_ℤ (pos 1)
  target_below = below_scaled (scale_of qs) (point_of (scaled_point qs)) (rational_map qs) (scale_pos qs) target (scaled_row target) apart.1
