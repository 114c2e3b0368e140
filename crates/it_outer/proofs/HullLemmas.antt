-- Hulls as calls make them.
use Rattle.std.proofs.Common.{◌≡◌, ℕ, ◌+◌, ◌^◌, ◌<◌, ◌≤◌, ℤ, pos, List, [], ◌∷◌, map, length, drop, get_or, refl, sym, ap, subst, ◌∙◌, arith, All}
use Rattle.it_problems.specs.declared.problems.System.{System}
use Rattle.it_space.specs.declared.spaces.Space.{Space}
use Rattle.it_problems.specs.Problems.{ProblemView}
use Rattle.it_space.specs.Rows.{Terms, IsOver, coefficient}
use Rattle.it_space.specs.Spaces.{IsSpace, size_of}
use Rattle.it_space.proofs.ListLemmas.{drop_item}
use Rattle.it_eliminate.specs.Elimination as elimination
use Rattle.it_eliminate.specs.declared.types.Eliminated.{Eliminated}
use Rattle.it_eliminate.specs.declared.types.Eliminated.TheVariants as eliminated
use Rattle.it_eliminate.specs.Projections.{LacksCoordinate}
use Rattle.it_eliminate.specs.Views.{eliminated_view}
use Rattle.it_redundant.specs.declared.types.Reduced.{Reduced}
use Rattle.it_redundant.specs.Reduction.{IsSystemUnder, Reduces, dropped_view, kept_rows, kept_view}
use Rattle.it_redundant.proofs.ReductionLemmas.{all_kept}
use Rattle.it_redundant.proofs.VisitLemmas.{rows_kept}
use Rattle.it_hull.specs.Hulls.{first_rows}
use Rattle.it_hull.specs.Rays.{AddsRay, IsNextHull, RayEnds}
use Rattle.it_hull.proofs.RateLemmas.{first_rows_over}
use Rattle.it_hull.proofs.RayLemmas.{next_of_space}
use Rattle.it_hull.proofs.StepLemmas.{first_is_hull}
use Rattle.it_hull.specs.Constants.{constants}
use Rattle.it_outer.specs.Outer.{Search}
use Rattle.it_outer.specs.Rounds.{IsAfterRay, IsHullSystem, Resumes}
use Rattle.it_outer.specs.Search.{AfterRay, Hull, HullEnds, HullView, NextHull, TooMany, TooWide}
use Rattle.it_outer.specs.Theorems.{IsSearch}
use Rattle.it_hull.proofs.ConstantLemmas.{constants_are_problem, few_constants}

pub first_system : (s : Search) (hull : System) → IsSearch s → hull.space ≡ s.problem.space → hull.rows.items ≡ first_rows s.kept → IsHullSystem s hull
first_system s hull h same are = record {
  space = same;
  system = record {
    space = subst (λ (x : Space). IsSpace x) (sym same) h.problem.space;
    rows = subst (λ (x : Space). All (IsOver (size_of x)) hull.rows.items) (sym same)
        (subst (λ (rs : List Terms). All (IsOver (size_of s.problem.space)) rs) (sym are) (first_rows_over s.problem.space s.kept h.rates));
  };
  free = subst (λ (rs : List Terms). LacksCoordinate (2 ^ s.problem.space.variables + s.spare) rs) (sym are)
      (λ k d l. (first_is_hull s.kept).over k d l (2 ^ s.problem.space.variables + s.spare) h.away);
}

module _ (s : Search) (h : IsSearch s) (hull : System) (g : IsHullSystem s hull) where
  -- what `with_ray` requires
  pub spare_is_rate : s.spare < hull.space.rates
  spare_is_rate = subst (λ (x : Space). s.spare < x.rates) (sym g.space) h.spare

  pub hull_over : All (IsOver (size_of s.problem.space)) hull.rows.items
  hull_over = subst (λ (x : Space). All (IsOver (size_of x)) hull.rows.items) g.space g.system.rows

  pub hull_lacks : LacksCoordinate (2 ^ hull.space.variables + s.spare) hull.rows.items
  hull_lacks = subst (λ (x : Space). LacksCoordinate (2 ^ x.variables + s.spare) hull.rows.items) (sym g.space) g.free

  module _ (ray : List ℤ) where
    pub ray_of_hull : length ray ≡ size_of s.problem.space → length ray ≡ size_of hull.space
    ray_of_hull l = l ∙ ap size_of (sym g.space)

    pub few_next : (next : List Terms) → RayEnds (2 ^ hull.space.variables) s.limits.rows ray s.spare hull.rows.items
        (elimination.Region next) → length next ≤ 65535
    few_next next e = let k = (next_of_space hull.space s.limits.rows s.spare ray hull.rows.items next spare_is_rate g.system.rows e).1
        in omega (arith, k, h.few_rows)

    pub under_constants : (next : System) (q : ProblemView) → q ≡ constants s.problem.space → IsNextHull hull ray s.spare next → IsSystemUnder q next
    under_constants next q is n = subst (λ (p : ProblemView). IsSystemUnder p next) (sym is) (record {
      system = n.system;
      givens = constants_are_problem s.problem.space h.problem.space;
      space = n.space ∙ g.space;
      few_givens = (let k = few_constants s.problem.space h.problem.space in omega (arith, k));
    })

    same_rays : (e : elimination.EliminatedView) → RayEnds (2 ^ hull.space.variables) s.limits.rows ray s.spare hull.rows.items e
        → RayEnds (2 ^ s.problem.space.variables) s.limits.rows ray s.spare hull.rows.items e
    same_rays e r = subst (λ (x : Space). RayEnds (2 ^ x.variables) s.limits.rows ray s.spare hull.rows.items e) g.space r

    pub next_ends : (next system : System) (q : ProblemView) (r : Reduced) → q ≡ constants s.problem.space
        → RayEnds (2 ^ hull.space.variables) s.limits.rows ray s.spare hull.rows.items (elimination.Region next.rows.items)
        → Reduces q s.limits.effort [] next.rows.items (kept_view r) (dropped_view r) → system.rows.items ≡ map (λ k. k.0) r.kept.items
        → NextHull s hull.rows.items ray (Hull system.rows.items)
    next_ends next system q r is e red are = (
      elimination.Region next.rows.items,
      same_rays (elimination.Region next.rows.items) e,
      (
        kept_view r,
        dropped_view r,
        subst (λ (p : ProblemView). Reduces p s.limits.effort [] next.rows.items (kept_view r) (dropped_view r))
            is red,
        ap (λ rs. Hull rs) (are ∙ sym (rows_kept r.kept.items)),
      ),
    )

    pub too_many_ends : (e : Eliminated) (rate : ℕ) → e ≡ eliminated.Rows rate
        → RayEnds (2 ^ hull.space.variables) s.limits.rows ray s.spare hull.rows.items (eliminated_view e)
        → NextHull s hull.rows.items ray TooMany
    too_many_ends e rate is r = (
      elimination.Rows rate,
      same_rays (elimination.Rows rate)
          (subst (λ (x : Eliminated). RayEnds (2 ^ hull.space.variables) s.limits.rows ray s.spare hull.rows.items (eliminated_view x)) is r),
      refl,
    )

    pub too_wide_ends : (e : Eliminated) (rate : ℕ) → e ≡ eliminated.Wide rate
        → RayEnds (2 ^ hull.space.variables) s.limits.rows ray s.spare hull.rows.items (eliminated_view e)
        → NextHull s hull.rows.items ray TooWide
    too_wide_ends e rate is r = (
      elimination.Wide rate,
      same_rays (elimination.Wide rate)
          (subst (λ (x : Eliminated). RayEnds (2 ^ hull.space.variables) s.limits.rows ray s.spare hull.rows.items (eliminated_view x)) is r),
      refl,
    )

    pub region_rays : (e : Eliminated) (next : System) → e ≡ eliminated.Region next
        → RayEnds (2 ^ hull.space.variables) s.limits.rows ray s.spare hull.rows.items (eliminated_view e)
        → RayEnds (2 ^ hull.space.variables) s.limits.rows ray s.spare hull.rows.items (elimination.Region next.rows.items)
    region_rays e next is r = subst (λ (x : Eliminated). RayEnds (2 ^ hull.space.variables) s.limits.rows ray s.spare hull.rows.items (eliminated_view x)) is r

    pub region_next : (e : Eliminated) (next : System) → e ≡ eliminated.Region next → AddsRay hull ray s.spare e → IsNextHull hull ray s.spare next
    region_next e next is a = subst (λ (x : Eliminated). AddsRay hull ray s.spare x) is a

    pub next_system : (next system : System) (q : ProblemView) (r : Reduced) → IsNextHull hull ray s.spare next
        → Reduces q s.limits.effort [] next.rows.items (kept_view r) (dropped_view r)
        → system.space ≡ next.space → system.rows.items ≡ map (λ k. k.0) r.kept.items → IsHullSystem s system
    next_system next system q r n red same are = record {
      space = same ∙ n.space ∙ g.space;
      system = record {
        space = subst (λ (x : Space). IsSpace x) (sym same) n.system.space;
        rows = subst (λ (x : Space). All (IsOver (size_of x)) system.rows.items) (sym same)
            (subst (λ (rs : List Terms). All (IsOver (size_of next.space)) rs) (sym stay)
            (all_kept q s.limits.effort (IsOver (size_of next.space)) [] next.rows.items (kept_view r) (dropped_view r) red n.system.rows));
      };
      free = subst (λ (rs : List Terms). LacksCoordinate (2 ^ s.problem.space.variables + s.spare) rs) (sym stay)
          (all_kept q s.limits.effort (λ (row : Terms). coefficient row (2 ^ s.problem.space.variables + s.spare) ≡ pos 0) []
          next.rows.items (kept_view r) (dropped_view r) red
          (subst (λ (x : Space). LacksCoordinate (2 ^ x.variables + s.spare) next.rows.items) g.space n.free));
    }
      where
        stay : system.rows.items ≡ kept_rows (kept_view r)
        stay = are ∙ sym (rows_kept r.kept.items)

-- ---- rays one after the other

pub resumes_more : (s : Search) (h n : HullView) (ray : List ℤ) (rays : List (List ℤ)) (end : HullView) → IsAfterRay s h ray n
    → Resumes s n rays end → Resumes s h (ray ∷ rays) end
resumes_more s (Hull rows) n ray rays end a r = (n, a, by_next n r)
  where
    by_next : (n : HullView) → Resumes s n rays end → AfterRay (λ next end. HullEnds s next rays end) n end
    by_next (Hull next) r = r
    by_next TooMany r = r
    by_next TooWide r = r
resumes_more s TooMany n ray rays end a r = none n a r
  where
    none : (n : HullView) → n ≡ TooMany → Resumes s n rays end → end ≡ TooMany
    none (Hull next) e r = absurd (cc)
    none TooMany e r = r
    none TooWide e r = absurd (cc)
resumes_more s TooWide n ray rays end a r = none n a r
  where
    none : (n : HullView) → n ≡ TooWide → Resumes s n rays end → end ≡ TooWide
    none (Hull next) e r = absurd (cc)
    none TooMany e r = absurd (cc)
    none TooWide e r = r

pub record LeadsTo (s : Search) (rows : List Terms) (rays : List (List ℤ)) (h : HullView) (i : ℕ) : Type 0 where
  pub leads : (end : HullView) → Resumes s h (drop i rays) end → HullEnds s rows rays end

pub leads_more : (s : Search) (rows : List Terms) (rays : List (List ℤ)) (h n : HullView) (i : ℕ) (ray : List ℤ) → i < length rays
    → ray ≡ get_or rays i ray → IsAfterRay s h ray n → LeadsTo s rows rays h i → LeadsTo s rows rays n (i + 1)
leads_more s rows rays h n i ray l at a p = record {
  leads = λ end r. p.leads end (subst (λ (rs : List (List ℤ)). Resumes s h rs end) (sym (drop_item rays i ray l at))
      (resumes_more s h n ray (drop (i + 1) rays) end a r));
}

pub leads_done : (s : Search) (rows : List Terms) (rays : List (List ℤ)) (h : HullView) (i : ℕ) → drop i rays ≡ [] → LeadsTo s rows rays h i
    → HullEnds s rows rays h
leads_done s rows rays h i e p = p.leads h (subst (λ (rs : List (List ℤ)). Resumes s h rs h) (sym e) (here h))
  where
    here : (h : HullView) → Resumes s h [] h
    here (Hull rows) = refl
    here TooMany = refl
    here TooWide = refl
