-- The results of adding a ray.
use Rattle.std.proofs.Common.{◌≡◌, ◌≢◌, inl, inr, ◌↔◌, ℕ, ◌+◌, ◌<◌, ◌≤◌, ◌^◌, ℤ, pos, neg_ℤ, ◌+ℤ◌, ◌*ℤ◌, List, [], ◌∷◌, ◌++◌, map, Bool, true, false, cond, nat_eq, refl, sym, ap, subst, ◌∙◌, arith, All, get_or, append_assoc}
use Rattle.std.specs.Prelude.{length, drop}
use Rattle.std.specs.List.{AllWithin}
use Rattle.it_space.proofs.ListLemmas.{drop_item}
use Rattle.std.proofs.lemmas.Int.{ints}
use Rattle.std.proofs.lemmas.Bool.{eqb-true, eqb-false}
use Rattle.std.proofs.lemmas.Nat.{pow_pos}
use Rattle.std.proofs.lemmas.List.{get_or_default}
use Rattle.std.proofs.lemmas.List.Elements.{AllWithin-more}
use Rattle.std.proofs.Math.IntN.{*ℤ-zero}
use Rattle.it_problems.specs.declared.problems.System.{System}
use Rattle.it_space.specs.declared.spaces.Space.{Space}
use Rattle.it_problems.specs.Problems.{IsSystem}
use Rattle.it_space.specs.Rows.{Terms, IsOver, coefficient, one_at, value, point_of}
use Rattle.it_space.specs.Spaces.{size_of}
use Rattle.it_space.proofs.EveryLemmas.{all_of, every_of, every-append, every-map, every-same}
use Rattle.it_eliminate.specs.declared.types.Eliminated.{Eliminated}
use Rattle.it_eliminate.specs.declared.types.Eliminated.TheVariants as ends
use Rattle.it_eliminate.specs.Elimination.{EliminatedView, EliminationEnds, Region, next_list, ordered_rows}
use Rattle.it_eliminate.specs.Projections.{IsPointOf, Extends, LacksCoordinate, RegionIsProjection}
use Rattle.it_eliminate.specs.Views.{eliminated_view}
use Rattle.it_eliminate.proofs.LawLemmas.{one_end}
use Rattle.it_eliminate.proofs.OrderLemmas.{lacks-ordered_rows}
use Rattle.it_eliminate.proofs.RateLemmas.{next_keeps_lacking, projection_exact}
use Rattle.it_eliminate.proofs.RegionLemmas.{not_wide, step_list, step_up}
use Rattle.it_eliminate.proofs.StepLemmas.{next_lacks}
use Rattle.it_hull.specs.Hulls.{UsesOnly, rows_with_multiplier, with_multiplier}
use Rattle.it_hull.specs.Rays.{AddsRay, RayEnds, ValuesFit}
use Rattle.it_hull.specs.Theorems.{OneMoreRay, OneRayEnd}
use Rattle.it_hull.proofs.StepLemmas.{eliminated_is_hull}
use Rattle.it_hull.proofs.TermLemmas.{coefficient-with_term, over-with_term}

pub one_ray_end : OneRayEnd
one_ray_end base most ray rate rows e o (inl a) (inl b) = a.1 ∙ sym b.1
one_ray_end base most ray rate rows e o (inl a) (inr b) = absurd (a.0 b.0)
one_ray_end base most ray rate rows e o (inr a) (inl b) = absurd (b.0 a.0)
one_ray_end base most ray rate rows e o (inr a) (inr b) = one_end base most
    (ordered_rows (rows_with_multiplier (base + rate) (point_of ray) rows)) (rate ∷ []) e o a.1 b.1

-- ---- the rows with the multiplier are of the space

pub multiplier_over : (size at : ℕ) (ray : ℕ → ℤ) (rows : List Terms) → 1 ≤ at → at ≤ size → All (IsOver size) rows
    → All (IsOver size) (rows_with_multiplier at ray rows)
multiplier_over size at ray rows some few o = all_of (IsOver size) (rows_with_multiplier at ray rows)
    (every-append (IsOver size) (map (with_multiplier at ray) rows) (((at, pos 1) ∷ []) ∷ [])
    (every-map (IsOver size) (with_multiplier at ray) rows (every-same (IsOver size) (λ row. IsOver size (with_multiplier at ray row)) rows
    (λ row. over-with_term size at (neg_ℤ (value row ray)) row some few) (every_of (IsOver size) rows o)))
    (all_of (λ (t : ℕ × ℤ). (1 ≤ t.0) × (t.0 ≤ size)) ((at, pos 1) ∷ []) ((some, few), tt), tt))

-- ---- and lack what the rows lack, but for the multiplier's coordinate

multiplier_lacks : (c at : ℕ) (ray : ℕ → ℤ) (rows : List Terms) → c ≢ at → LacksCoordinate c rows → LacksCoordinate c (rows_with_multiplier at ray rows)
multiplier_lacks c at ray rows n o = all_of (λ (row : Terms). coefficient row c ≡ pos 0) (rows_with_multiplier at ray rows)
    (every-append (λ (row : Terms). coefficient row c ≡ pos 0) (map (with_multiplier at ray) rows) (((at, pos 1) ∷ []) ∷ [])
    (every-map (λ (row : Terms). coefficient row c ≡ pos 0) (with_multiplier at ray) rows
    (every-same (λ (row : Terms). coefficient row c ≡ pos 0) (λ row. coefficient (with_multiplier at ray row) c ≡ pos 0) rows own
    (every_of (λ (row : Terms). coefficient row c ≡ pos 0) rows o))) (by_test (nat_eq at c) refl, tt))
  where
    by_test : (b : Bool) → nat_eq at c ≡ b → cond b (pos 1) (pos 0) +ℤ pos 0 ≡ pos 0
    by_test true e = absurd (n (sym (eqb-true at c e)))
    by_test false e = refl

    apart : one_at c at ≡ pos 0
    apart = apart_by (nat_eq at c) refl
      where
        apart_by : (b : Bool) → nat_eq at c ≡ b → cond b (pos 1) (pos 0) ≡ pos 0
        apart_by true e = absurd (n (sym (eqb-true at c e)))
        apart_by false e = refl

    own : (row : Terms) → coefficient row c ≡ pos 0 → coefficient (with_multiplier at ray row) c ≡ pos 0
    own row e =
        let k = coefficient-with_term at (neg_ℤ (value row ray)) row c in
        let z : neg_ℤ (value row ray) *ℤ one_at c at ≡ neg_ℤ (value row ray) *ℤ pos 0 = ap (λ z. neg_ℤ (value row ray) *ℤ z) apart in
        omega (arith, ints, k, z, e, *ℤ-zero (neg_ℤ (value row ray)))

-- ---- the next hull

module _ (at : ℕ) (ray : ℕ → ℤ) (rows next : List Terms) (list : next ≡ next_list at (ordered_rows (rows_with_multiplier at ray rows))) where
  next_lacking : (c : ℕ) → LacksCoordinate c rows → LacksCoordinate c next
  next_lacking c o = subst (λ (rs : List Terms). LacksCoordinate c rs) (sym list) (by_test (nat_eq c at) refl)
    where
      by_test : (b : Bool) → nat_eq c at ≡ b → LacksCoordinate c (next_list at (ordered_rows (rows_with_multiplier at ray rows)))
      by_test true k = subst (λ (d : ℕ). LacksCoordinate d (next_list at (ordered_rows (rows_with_multiplier at ray rows))))
          (sym (eqb-true c at k)) (next_lacks at (ordered_rows (rows_with_multiplier at ray rows)))
      by_test false k = next_keeps_lacking c at (ordered_rows (rows_with_multiplier at ray rows))
          (lacks-ordered_rows c (rows_with_multiplier at ray rows) (multiplier_lacks c at ray rows (eqb-false c at k) o))

  next_over : (kept : List ℕ) → All (UsesOnly kept) rows → All (UsesOnly kept) next
  next_over kept o k d l c n = next_lacking c (λ j f m. o j f m c n) k d l

  next_exact : (x : ℕ → ℤ) → IsPointOf next x ↔ Extends (at ∷ []) (rows_with_multiplier at ray rows) x
  next_exact x = subst (λ (rs : List Terms). IsPointOf rs x ↔ Extends (at ∷ []) (rows_with_multiplier at ray rows) x) (sym list)
      (projection_exact (at ∷ []) (rows_with_multiplier at ray rows) x)

pub one_more_ray : OneMoreRay
one_more_ray base most ray rate kept rows next rays away h (inl e) = absurd (not_wide next rate e.1)
one_more_ray base most ray rate kept rows next rays away h (inr e) =
    let at : ℕ = base + rate in
    let list : next ≡ next_list at (ordered_rows (rows_with_multiplier at (point_of ray) rows))
    = (step_list base most (ordered_rows (rows_with_multiplier at (point_of ray) rows)) rate next e.1).0 in
    eliminated_is_hull kept rows next rays ray at away h (next_over at (point_of ray) rows next list kept h.over) (next_exact at (point_of ray) rows next list)

-- its rows lack the multiplier's coordinate
pub next_free : (base most : ℕ) (ray : List ℤ) (rate : ℕ) (rows next : List Terms) → RayEnds base most ray rate rows (Region next)
    → LacksCoordinate (base + rate) next
next_free base most ray rate rows next (inl e) = absurd (not_wide next rate e.1)
next_free base most ray rate rows next (inr e) =
    let lifted : List Terms = ordered_rows (rows_with_multiplier (base + rate) (point_of ray) rows) in
    subst (λ (rs : List Terms). LacksCoordinate (base + rate) rs) (sym (step_list base most lifted rate next e.1).0) (next_lacks (base + rate) lifted)

-- they are of the space, and few
pub next_of_space : (s : Space) (most rate : ℕ) (ray : List ℤ) (rows next : List Terms) → rate < s.rates → All (IsOver (size_of s)) rows
    → RayEnds (2 ^ s.variables) most ray rate rows (Region next)
    → All (IsOver (size_of s)) next × (length next ≤ most)
next_of_space s most rate ray rows next few o (inl e) = absurd (not_wide next rate e.1)
next_of_space s most rate ray rows next few o (inr e) =
    let at : ℕ = 2 ^ s.variables + rate in
    let lifted : List Terms = rows_with_multiplier at (point_of ray) rows in (
      step_up (size_of s) (2 ^ s.variables) most lifted rate next (multiplier_over (size_of s) at (point_of ray) rows
          (omega (arith, pow_pos s.variables)) (omega (arith, few, pow_pos s.variables)) o) e.1,
      (step_list (2 ^ s.variables) most (ordered_rows lifted) rate next e.1).1,
    )

pub adds_ray : (hull lifted : System) (ray : List ℤ) (most rate : ℕ) (end : Eliminated) → lifted.space ≡ hull.space
    → RayEnds (2 ^ hull.space.variables) most ray rate hull.rows.items (eliminated_view end) → RegionIsProjection lifted (rate ∷ []) end
    → AddsRay hull ray rate end
adds_ray hull lifted ray most rate (ends.Region next) same e projection = record {
  space = projection.space ∙ same;
  system = projection.system;
  free = subst (λ (c : ℕ). LacksCoordinate c next.rows.items) (ap (λ (s : Space). 2 ^ s.variables + rate) same) (projection.free rate (0, omega arith, refl));
  hull = λ kept rays away h. one_more_ray (2 ^ hull.space.variables) most ray rate kept hull.rows.items next.rows.items rays away h e;
}
adds_ray hull lifted ray most rate (ends.Rows other) same e p = tt
adds_ray hull lifted ray most rate (ends.Wide other) same e p = tt

-- ---- the loop over the rows

pub more_mapped : (f : Terms → Terms) (xs ys zs : List Terms) (i : ℕ) (x y : Terms) → i < length xs → zs ≡ ys ++ y ∷ [] → y ≡ f x
    → x ≡ get_or xs i x → ys ++ map f (drop i xs) ≡ map f xs → zs ++ map f (drop (i + 1) xs) ≡ map f xs
more_mapped f xs ys zs i x y l pushed is at e = ap (λ (rs : List Terms). rs ++ map f (drop (i + 1) xs)) pushed
    ∙ append_assoc ys (y ∷ []) (map f (drop (i + 1) xs))
    ∙ ap (λ (z : Terms). ys ++ z ∷ map f (drop (i + 1) xs)) is ∙ ap (λ (rs : List Terms). ys ++ map f rs) (sym (drop_item xs i x l at)) ∙ e

pub more_within : (P : Terms → Type 0) (xs : List Terms) (i : ℕ) (x : Terms) → i < length xs → x ≡ get_or xs i x → P x → AllWithin P xs 0 i
    → AllWithin P xs 0 (i + 1)
more_within P xs i x l at p a = AllWithin-more P xs 0 i a (λ d. subst P (at ∙ get_or_default xs i x d l) p)

-- ---- the step

pub multiplier_rows : (hull : System) (ray : List ℤ) (rate at : ℕ) (list : List Terms) → IsSystem hull → rate < hull.space.rates
    → at ≡ 2 ^ hull.space.variables + rate
    → list ≡ rows_with_multiplier at (point_of ray) hull.rows.items → All (IsOver (size_of hull.space)) list
multiplier_rows hull ray rate at list h few place are = subst (λ (rs : List Terms). All (IsOver (size_of hull.space)) rs) (sym are)
    (multiplier_over (size_of hull.space) at (point_of ray) hull.rows.items (omega (arith, place, pow_pos hull.space.variables))
    (omega (arith, place, few, pow_pos hull.space.variables)) h.rows)

pub ray_ends : (base most : ℕ) (ray : List ℤ) (rate at : ℕ) (rows list : List Terms) (end : EliminatedView) → ValuesFit ray rows
    → at ≡ base + rate → list ≡ rows_with_multiplier at (point_of ray) rows
    → EliminationEnds base most (ordered_rows list) (rate ∷ []) end → RayEnds base most ray rate rows end
ray_ends base most ray rate at rows list end fits place are e = inr (
  fits,
  subst (λ (rs : List Terms). EliminationEnds base most (ordered_rows rs) (rate ∷ []) end)
      (are ∙ ap (λ c. rows_with_multiplier c (point_of ray) rows) place) e,
)
