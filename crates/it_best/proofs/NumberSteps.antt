-- Numbers, step by step as the code forms them.
use Rattle.std.proofs.Common.{◌≡◌, ◌↔◌, ℕ, suc, ◌+◌, ◌*◌, ◌<◌, ◌≤◌, ℤ, pos, neg_ℤ, List, [], ◌∷◌, ◌++◌, length, map, drop, get_or, cond, eq-eqb, ne_eqb, refl, sym, ap, ap₂, subst, ◌∙◌, arith}
use Rattle.std.proofs.lemmas.Int.{ints}
use Rattle.std.proofs.lemmas.List.{drop_all}
use Rattle.it_number.proofs.Ring.{ring, v, nil}
use Rattle.it_closure.specs.Sizes.{column_count}
use Rattle.it_columns.specs.Columns.{numbers_from}
use Rattle.it_best.proofs.UnknownNumbers.{unknown_number, unknown_numbers}
use Rattle.it_number.proofs.Ring as S
use Rattle.it_rational.specs.Rational.{Rational, integer, plus, times}
use Rattle.it_rational.proofs.RationalLaws.{ring_ℚ}
use Rattle.it_fraction.specs.Fits.{IsNarrow}
use Rattle.std.specs.List.{AllByRecursion as Every}
use Rattle.std.proofs.Common.{All, FitsSigned, ◌-ℤ◌}
use Rattle.it_number.specs.Limit.{IsWithin}
use Rattle.it_number.proofs.SignLemmas.{size_negated}
use Rattle.it_space.proofs.EveryLemmas.{all_of, every_of, every-map, every-same}
use Rattle.it_columns.specs.Scaling.{scale_of, scaled_number, scaled_point}
use Rattle.it_problems.specs.declared.problems.Kind.{Kind}
use Rattle.it_space.proofs.ListLemmas.{drop_item}
use Rattle.it_run.specs.Readings.{AreWeights}
use Rattle.it_elemental.specs.Generators.{Generator}
use Rattle.it_best.specs.declared.unknowns.Unknown.{Unknown}
use Rattle.it_best.specs.Numbers.{DifferencesFit, NumberFits, column_weight, multiples, numbers}
use Rattle.it_best.specs.Phases.{unknown_view, unknown_views}
use Rattle.it_best.proofs.WalkLemmas.{piece_more, piece_end}
use Rattle.it_tableau.specs.Operations.{rationals}
use mir.Syntax.{w128}

-- ---- the numbers of unknowns

-- each number k times is within the limit
abbrev pub MultiplesFit : ℤ → List Rational → Type 0
MultiplesFit k qs = Every IsNarrow (multiples k qs)

pub record AreNumbersSoFar (us : List Generator) (ws : List (ℕ × Rational)) (i column : ℕ) (out : List Rational) : Type 0 where
  pub same : out ++ unknown_numbers column (drop i us) (column_weight ws) ≡ numbers us ws
  pub fits : DifferencesFit column (drop i us) (column_weight ws) ↔ DifferencesFit 0 us (column_weight ws)
  pub few : column ≤ 2 * i

pub record AreMultiples (k : ℤ) (qs : List Rational) (i : ℕ) (out : List Rational) : Type 0 where
  pub same : out ++ multiples k (drop i qs) ≡ multiples k qs
  pub fits : MultiplesFit k (drop i qs) ↔ MultiplesFit k qs

module _ (k : ℤ) (qs : List Rational) (i : ℕ) (q : Rational) (old : List Rational) (h : i < length qs) (is : q ≡ get_or qs i q)
    (a : AreMultiples k qs i old) where
  next_multiple : drop i qs ≡ q ∷ drop (i + 1) qs
  next_multiple = drop_item qs i q h is

  pub multiples_more : (new : List Rational) → new ≡ old ++ times q (integer k) ∷ [] → IsNarrow (times q (integer k)) → AreMultiples k qs (i + 1) new
  multiples_more new e f = record {
    same = piece_more old new (times q (integer k) ∷ []) (multiples k (drop (i + 1) qs)) (multiples k qs) e
        (ap (λ xs. old ++ multiples k xs) (sym next_multiple) ∙ a.same);
    fits = (λ g. a.fits.0 (subst (MultiplesFit k) (sym next_multiple) (f, g)), λ g. (subst (MultiplesFit k) next_multiple (a.fits.1 g)).1);
  }

  pub multiples_wide : ¬ (IsNarrow (times q (integer k))) → ¬ (MultiplesFit k qs)
  multiples_wide n f = n (subst (MultiplesFit k) next_multiple (a.fits.1 f)).0

pub multiples_done : (k : ℤ) (qs : List Rational) (i : ℕ) (out : List Rational) → length qs ≤ i → AreMultiples k qs i out
    → (out ≡ multiples k qs) × MultiplesFit k qs
multiples_done k qs i out h a = (
  piece_end out (multiples k (drop i qs)) (multiples k qs) (ap (multiples k) (drop_all i qs h)) a.same,
  a.fits.0 (subst (MultiplesFit k) (sym (drop_all i qs h)) tt),
)

-- ---- the weight of a column

null_plus : (x : Rational) → plus (integer (pos 0)) x ≡ x
null_plus x = ring ring_ℚ (x ∷ []) (S.plus nil (v 0)) (v 0) refl

plus_null : (x : Rational) → plus x (integer (pos 0)) ≡ x
plus_null x = ring ring_ℚ (x ∷ []) (S.plus (v 0) nil) (v 0) refl

weights_past : (n from : ℕ) (ws : List (ℕ × Rational)) (j : ℕ) → AreWeights rationals n from ws → j < from → column_weight ws j ≡ integer (pos 0)
weights_past n from [] j a h = refl
weights_past n from (w ∷ ws) j a h = ap₂ (λ b y. plus (cond b w.1 (integer (pos 0))) y) (ne_eqb w.0 j (λ e. omega (arith, a.0, e)))
    (weights_past n (suc w.0) ws j a.3 (omega (arith, a.0))) ∙ null_plus (integer (pos 0))

abbrev WeightsFrom : ℕ → List (ℕ × Rational) → Type 0
WeightsFrom n ws = (from : ℕ) × AreWeights rationals n from ws

module _ (n : ℕ) (ws : List (ℕ × Rational)) (j i : ℕ) (w : ℕ × Rational) (h : i < length ws) (is : w ≡ get_or ws i w)
    (inv : ((from : ℕ) × AreWeights rationals n from (drop i ws)) × (column_weight (drop i ws) j ≡ column_weight ws j)) where
  next_weight : drop i ws ≡ w ∷ drop (i + 1) ws
  next_weight = drop_item ws i w h is

  rest_ordered : AreWeights rationals n (suc w.0) (drop (i + 1) ws)
  rest_ordered = (subst (AreWeights rationals n inv.0.0) next_weight inv.0.1).3

  pub weight_found : w.0 ≡ j → w.1 ≡ column_weight ws j
  weight_found e = sym (ap₂ (λ b y. plus (cond b w.1 (integer (pos 0))) y) (eq-eqb w.0 j e)
      (weights_past n (suc w.0) (drop (i + 1) ws) j rest_ordered (omega (arith, e))) ∙ plus_null w.1)
      ∙ sym (ap (λ xs. column_weight xs j) next_weight) ∙ inv.1

  pub weight_passed : (w.0 ≡ j → ⊥) → ((from : ℕ) × AreWeights rationals n from (drop (i + 1) ws)) × (column_weight (drop (i + 1) ws) j ≡ column_weight ws j)
  weight_passed d = (
    (suc w.0, rest_ordered),
    sym (ap (λ xs. column_weight xs j) next_weight ∙ ap (λ b. plus (cond b w.1 (integer (pos 0))) (column_weight (drop (i + 1) ws) j))
        (ne_eqb w.0 j d) ∙ null_plus (column_weight (drop (i + 1) ws) j)) ∙ inv.1,
  )

-- ---- the numbers of unknowns

module _ (us : List Unknown) (ws : List (ℕ × Rational)) (i column : ℕ) (u : Unknown) (old : List Rational) (h : i < length us)
    (is : u ≡ get_or us i u) (a : AreNumbersSoFar (unknown_views us) ws i column old) where
  drop_views : (us : List Unknown) (i : ℕ) → drop i (unknown_views us) ≡ unknown_views (drop i us)
  drop_views us i = Rattle.std.proofs.lemmas.List.drop-map unknown_view i us

  next_unknown : drop i (unknown_views us) ≡ unknown_view u ∷ drop (i + 1) (unknown_views us)
  next_unknown = drop_views us i ∙ ap unknown_views (drop_item us i u h is) ∙ ap (λ xs. unknown_view u ∷ xs) (sym (drop_views us (i + 1)))

  pub numbers_more : (kind : Kind) (width : ℕ) (new : List Rational) → kind ≡ u.kind → width ≡ column_count kind
      → new ≡ old ++ unknown_number kind (column_weight ws) column ∷ [] → NumberFits kind (column_weight ws) column
      → AreNumbersSoFar (unknown_views us) ws (i + 1) (column + width) new
  unfolding numbers_from DifferencesFit
  numbers_more kind width new k w e f =
      let here : NumberFits u.kind (column_weight ws) column = subst (λ m. NumberFits m (column_weight ws) column) k f in
      let after : column + column_count u.kind ≡ column + width = ap (λ n. column + n) (sym (w ∙ ap column_count k)) in
      subst (λ n. AreNumbersSoFar (unknown_views us) ws (i + 1) n new) after (record {
        same = piece_more old new (unknown_number u.kind (column_weight ws) column ∷ [])
            (unknown_numbers (column + column_count u.kind) (drop (i + 1) (unknown_views us)) (column_weight ws))
            (numbers (unknown_views us) ws)
            (e ∙ ap (λ m. old ++ unknown_number m (column_weight ws) column ∷ []) k)
            (ap (λ xs. old ++ unknown_numbers column xs (column_weight ws)) (sym next_unknown) ∙ a.same);
        fits = (
          λ g. a.fits.0 (subst (λ xs. DifferencesFit column xs (column_weight ws)) (sym next_unknown) (here, g)),
          λ g.
              (subst (λ xs. DifferencesFit column xs (column_weight ws)) next_unknown (a.fits.1 g)).1,
        );
        few = omega (arith, a.few, few_columns u.kind);
      })
    where
      few_columns : (m : Kind) → column_count m ≤ 2
      few_columns Rattle.it_problems.specs.declared.problems.Kind.TheVariants.Inequality = omega arith
      few_columns Rattle.it_problems.specs.declared.problems.Kind.TheVariants.Equation = omega arith

  pub numbers_wide : (kind : Kind) → kind ≡ u.kind → ¬ (NumberFits kind (column_weight ws) column) → ¬ (DifferencesFit 0 (unknown_views us) (column_weight ws))
  unfolding DifferencesFit
  numbers_wide kind k n f = n (subst (λ m. NumberFits m (column_weight ws) column) (sym k)
      (subst (λ xs. DifferencesFit column xs (column_weight ws)) next_unknown (a.fits.1 f)).0)

pub numbers_done : (us : List Unknown) (ws : List (ℕ × Rational)) (i column : ℕ) (out : List Rational) → length us ≤ i
    → AreNumbersSoFar (unknown_views us) ws i column out
    → (out ≡ numbers (unknown_views us) ws) × DifferencesFit 0 (unknown_views us) (column_weight ws)
unfolding numbers_from DifferencesFit
numbers_done us ws i column out h a =
    let none : drop i (unknown_views us) ≡ [] = drop_all i (unknown_views us) (omega (arith, h, Rattle.std.proofs.lemmas.List.length-map us unknown_view)) in (
      piece_end out (unknown_numbers column (drop i (unknown_views us)) (column_weight ws)) (numbers (unknown_views us) ws)
          (ap (λ xs. unknown_numbers column xs (column_weight ws)) none) a.same,
      a.fits.0 (subst (λ xs. DifferencesFit column xs (column_weight ws)) (sym none) tt),
    )

-- ---- numbers within the limit

pub scaled_point_within : (l : ℕ) (qs : List Rational) → l ≡ scale_of qs → Every (λ q. IsWithin (scaled_number l q)) qs → All IsWithin (scaled_point qs)
scaled_point_within l qs e f = subst (λ n. All IsWithin (map (scaled_number n) qs)) e
    (all_of IsWithin (map (scaled_number l) qs) (every-map IsWithin (scaled_number l) qs f))

pub negated_within : (xs : List ℤ) → All IsWithin xs → All IsWithin (map neg_ℤ xs)
negated_within xs w = all_of IsWithin (map neg_ℤ xs) (every-map IsWithin neg_ℤ xs
    (every-same IsWithin (λ x. IsWithin (neg_ℤ x)) xs (λ x h. omega (arith, size_negated x, h)) (every_of IsWithin xs w)))

pub negated_fits : (x : ℤ) → IsWithin x → FitsSigned w128 (pos 0 -ℤ x)
negated_fits x h = omega (arith, ints, h)
