-- The answers are right.
use Rattle.std.proofs.Common.{◌≡◌, ℕ, zero, suc, ◌<◌, ℤ, pos, neg_ℤ, ◌+ℤ◌, ◌*ℤ◌, ◌≤ℤ◌, List, [], ◌∷◌, length, map, refl, sym, ap, ap₂, subst, ◌∙◌, arith}
use Rattle.std.specs.List.{AllByRecursion as Every}
use Rattle.std.proofs.lemmas.Int.{ints}
use Rattle.std.proofs.lemmas.List.{get_or_default, length-map}
use Rattle.it_number.proofs.Ring.{ring, v, nil}
use Rattle.it_number.proofs.Ring as S
use Rattle.it_number.proofs.Integers.{zring}
use Rattle.it_rational.specs.Rational.{Rational, integer, times, minus, is_at_least_zero}
use Rattle.it_rational.proofs.RationalLaws.{ring_ℚ}
use Rattle.it_problems.specs.declared.problems.Kind.{Kind}
use Rattle.it_problems.specs.declared.problems.Kind.TheVariants.{Inequality, Equation}
use Rattle.it_problems.specs.Problems.{ProblemView, IsProblem, Meets}
use Rattle.it_space.specs.Rows.{Terms, IsOver, point_of, value, negated_terms}
use Rattle.it_space.specs.Spaces.{size_of}
use Rattle.it_space.proofs.EveryLemmas.{every_of, every-same, every-map, every_mapped, every_all}
use Rattle.it_space.proofs.TermLemmas.{value-negated_terms}
use Rattle.it_polymatroid.specs.Elementals.{span}
use Rattle.it_tableau.specs.Operations.{rationals}
use Rattle.it_tableau.specs.Problems.{feasibility_problem}
use Rattle.it_run.specs.Readings.{SumsUp, Separates}
use Rattle.it_run.specs.RowValues.{rational_value}
use Rattle.it_elemental.specs.Generators.{Generator, generators, generator_at}
use Rattle.it_elemental.proofs.GeneratorLemmas.{rows_of_space}
use Rattle.it_check.proofs.NoMeaning.{listed_met}
use Rattle.it_columns.specs.Columns.{columns}
use Rattle.it_columns.specs.Scaling.{scale_of, scaled_number, scaled_point}
use Rattle.it_columns.proofs.Scales.{scale_pos, denominators_divide}
use Rattle.it_columns.proofs.Wholes.{value_scaled, least_scaled, whole_same, whole_times}
use Rattle.it_best.specs.Factors.{IsPoint, IsLeastFactor, HasNoFactor, ground_of}
use Rattle.it_best.specs.Numbers.{weights_certificate}
use Rattle.it_best.specs.Phases.{first_phase, third_phase, third_target, right_equation, counterweight}
use Rattle.it_best.proofs.EquationLemmas.{IsSlack}
use Rattle.it_best.proofs.FactorLemmas.{times_den}
use Rattle.it_best.proofs.PhaseLemmas as phases
use Rattle.it_best.proofs.WholePoints.{rational_map, whole_value, unknowns_met, target_below}

-- ---- the point of the third phase

-- its values made whole
whole_row : (hs : List Rational) (row : Terms) → integer (value row (point_of (scaled_point hs)))
    ≡ times (integer (pos (scale_of hs))) (rational_value row (rational_map hs))
whole_row hs row = value_scaled (scale_of hs) (point_of (scaled_point hs)) (rational_map hs) row (row_scaled hs row)
  where
    row_scaled : (hs : List Rational) (row : Terms) → Every (λ (t : ℕ × ℤ). integer (point_of (scaled_point hs) t.0)
        ≡ times (integer (pos (scale_of hs))) (rational_map hs t.0)) row
    row_scaled hs row = every_all (λ (t : ℕ × ℤ). integer (point_of (scaled_point hs) t.0)
        ≡ times (integer (pos (scale_of hs))) (rational_map hs t.0)) row (λ t. whole_value (scale_of hs) hs (denominators_divide hs) t.0)

met_by_slack : (hs : List Rational) (k : Kind) (row : Terms) (s : Rational) → rational_value row (rational_map hs) ≡ minus s → IsSlack k s
    → Meets k (value row (point_of (scaled_point hs)))
met_by_slack hs Inequality row s e i = least_scaled (scale_of hs) (point_of (scaled_point hs)) (rational_map hs) (scale_pos hs) row
    (every_all (λ (t : ℕ × ℤ). integer (point_of (scaled_point hs) t.0) ≡ times (integer (pos (scale_of hs))) (rational_map hs t.0)) row
    (λ t. whole_value (scale_of hs) hs (denominators_divide hs) t.0))
    (ap is_at_least_zero e ∙ i)
met_by_slack hs Equation row s e i = whole_same (value row (point_of (scaled_point hs))) (pos 0)
    (whole_row hs row ∙ ap (times (integer (pos (scale_of hs)))) (e ∙ ap minus i)
    ∙ ring ring_ℚ (integer (pos (scale_of hs)) ∷ []) (S.times (v 0) (S.minus nil)) nil refl)

module _ (q : ProblemView) (left right : Terms) (k : IsProblem q) (l : IsOver (size_of q.space) left) (r : IsOver (size_of q.space) right)
    (ws : List (ℕ × Rational))
    (s : SumsUp rationals (length (span 1 (right_equation (size_of q.space) (generators q))))
    (length (columns (third_phase q.space.variables (size_of q.space) (generators q) left right)))
    (feasibility_problem (span 1 (right_equation (size_of q.space) (generators q)))
    (columns (third_phase q.space.variables (size_of q.space) (generators q) left right))
    (third_target (size_of q.space) (generators q) right)) ws) where
  abbrev gs : List Generator
  gs = generators q

  abbrev hs : List Rational
  hs = phases.hs q left right k l r ws

  abbrev x : Rational
  x = phases.x q left right k l r ws

  abbrev p : ℕ → ℤ
  p = point_of (scaled_point hs)

  abbrev big : ℕ
  big = scale_of hs

  all_met : Every (λ g. Meets g.kind (value g.row p)) gs
  all_met = every_of (λ g. Meets g.kind (value g.row p)) gs (λ j d h. subst (λ (g : Generator). Meets g.kind (value g.row p))
      (get_or_default gs j (record { kind = Inequality; row = [] }) d h)
      (met_by_slack hs (generator_at gs j).kind (generator_at gs j).row _ (phases.generator_value_is q left right k l r ws s j h)
      (phases.generator_slack q left right k l r ws s j h)))

  pub third_meets : IsPoint (ground_of q) (scaled_point hs)
  third_meets = let both = listed_met q.space.variables q.constraints p refl all_met in
      record { complete = length-map hs (scaled_number big) ∙ phases.hs_length q left right k l r ws; holds = both }

  left_is : value left p ≡ pos big
  left_is = whole_same (value left p) (pos big) (whole_row hs left
      ∙ ap (times (integer (pos big))) (phases.left_value_is q left right k l r ws s)
      ∙ ring ring_ℚ (integer (pos big) ∷ []) (S.times (v 0) S.one) (v 0) refl)

  pub left_some : pos 1 ≤ℤ value left p
  left_some = subst (λ (z : ℤ). pos 1 ≤ℤ z) (sym left_is) (some big (scale_pos hs))
    where
      some : (m : ℕ) → 0 < m → pos 1 ≤ℤ pos m
      some m h = omega (arith, ints)

  pub sides_equal : pos x.den *ℤ value right p ≡ x.num *ℤ value left p
  sides_equal = whole_same (pos x.den *ℤ value right p) (x.num *ℤ value left p)
      (whole_times (pos x.den) (value right p) ∙ ap (times (integer (pos x.den)))
      (whole_row hs right ∙ ap (times (integer (pos big))) (phases.right_value_is q left right k l r ws s))
      ∙ ring ring_ℚ (integer (pos x.den) ∷ integer (pos big) ∷ x ∷ []) (S.times (v 0) (S.times (v 1) (v 2))) (S.times (S.times (v 0) (v 2)) (v 1)) refl
      ∙ ap₂ times (times_den x) (ap integer (sym left_is)) ∙ sym (whole_times x.num (value left p)))

  pub third_right : IsLeastFactor (ground_of q) (value left) (value right) x.num (pos x.den)
      (weights_certificate (pos x.den) (phases.xs q left right k l r ws)) (scaled_point hs)
  third_right = record { factor = phases.third_factor_right q left right k l r ws s; point = third_meets; some = left_some; equal = sides_equal }

-- ---- the negated point of the first phase

negated_map : (vs : List ℤ) (c : ℕ) → point_of (map neg_ℤ vs) c ≡ neg_ℤ (point_of vs c)
negated_map vs zero = refl
negated_map [] (suc c) = refl
negated_map (y ∷ vs) (suc zero) = refl
negated_map (y ∷ vs) (suc (suc c)) = negated_map vs (suc c)

value_at_negated : (row : Terms) (vs : List ℤ) → value row (point_of (map neg_ℤ vs)) ≡ neg_ℤ (value row (point_of vs))
value_at_negated [] vs = refl
value_at_negated (t ∷ ts) vs = ap₂ (λ y z. t.1 *ℤ y +ℤ z) (negated_map vs t.0) (value_at_negated ts vs) ∙ regroup t.1 (point_of vs t.0) (value ts (point_of vs))
  where
    regroup : (a y z : ℤ) → a *ℤ neg_ℤ y +ℤ neg_ℤ z ≡ neg_ℤ (a *ℤ y +ℤ z)
    regroup a y z = omega (arith, zring)

pub never_right : (q : ProblemView) (left right : Terms) (qs : List Rational) → IsProblem q → IsOver (size_of q.space) left → IsOver (size_of q.space) right
    → Separates rationals (length (span 1 (size_of q.space))) (length (columns (first_phase (generators q) left)))
    (feasibility_problem (span 1 (size_of q.space)) (columns (first_phase (generators q) left)) right) qs
    → HasNoFactor (ground_of q) (value left) (value right) (map neg_ℤ (scaled_point qs))
unfolding first_phase
never_right q left right qs k l r s =
    let gs = generators q in
    let size = size_of q.space in
    let rows = rows_of_space q.space.variables size q.constraints (omega arith) k.rows in
    let up : Every (λ u. IsOver size u.row) (first_phase gs left) = (
      l,
      every-map (λ (u : Generator). IsOver size u.row) counterweight gs
          (every-same (λ g. IsOver size g.row) (λ g. IsOver size (negated_terms g.row)) gs
          (λ g u. Rattle.it_best.proofs.RowLemmas.negated_up size g.row u) rows),
    ) in
    let met = unknowns_met size (first_phase gs left) right qs up r s in
    let negated : Every (λ g. Meets g.kind (value g.row (point_of (map neg_ℤ (scaled_point qs))))) gs =
    every-same (λ g. Meets g.kind (value (negated_terms g.row) (point_of (scaled_point qs))))
    (λ g. Meets g.kind (value g.row (point_of (map neg_ℤ (scaled_point qs))))) gs
    (λ g m. subst (Meets g.kind) (value-negated_terms g.row (point_of (scaled_point qs)) ∙ sym (value_at_negated g.row (scaled_point qs))) m)
    (every_mapped (λ (u : Generator). Meets u.kind (value u.row (point_of (scaled_point qs)))) counterweight gs met.1) in
    let both = listed_met q.space.variables q.constraints (point_of (map neg_ℤ (scaled_point qs))) refl negated in record {
      point = record {
        complete = length-map (scaled_point qs) neg_ℤ ∙ length-map qs (scaled_number (scale_of qs)) ∙ s.complete
            ∙ Rattle.it_polymatroid.proofs.Spans.length-span 1 size;
        holds = both;
      };
      zero = value_at_negated left (scaled_point qs) ∙ ap neg_ℤ met.0;
      above = subst (λ (z : ℤ). pos 1 ≤ℤ z) (sym (value_at_negated right (scaled_point qs)))
          (above_zero (value right (point_of (scaled_point qs))) (target_below size (first_phase gs left) right qs up r s));
    }
  where
    above_zero : (z : ℤ) → z ≤ℤ neg_ℤ (pos 1) → pos 1 ≤ℤ neg_ℤ z
    above_zero z h = omega (arith, ints, h)
