-- Reduced elimination rate after rate: it has one end, and a region is the projection.
use Rattle.std.proofs.Common.{◌≡◌, inl, inr, ℕ, ◌+◌, ◌<◌, ◌≤◌, ◌^◌, ℤ, List, [], ◌∷◌, map, length, drop, get_or, refl, sym, subst, ◌∙◌, arith, All}
use Rattle.it_space.proofs.ListLemmas.{drop_item}
use Rattle.it_problems.specs.declared.problems.System.{System}
use Rattle.it_space.specs.declared.spaces.Space.{Space}
use Rattle.it_space.specs.Answers.{CertificateView}
use Rattle.it_problems.specs.Problems.{ProblemView, IsProblem}
use Rattle.it_space.specs.Rows.{Terms, IsOver}
use Rattle.it_space.specs.Spaces.{size_of}
use Rattle.it_eliminate.specs.Elimination.{EliminatedView, EliminationEnds, ordered_rows, next_list, list_after}
use Rattle.it_eliminate.specs.Elimination as elimination
use Rattle.it_eliminate.specs.Projections.{IsPointOf, Extends, LacksCoordinate}
use Rattle.it_eliminate.specs.declared.types.Stop.{Stop}
use Rattle.it_eliminate.specs.declared.types.Stop.TheVariants as stops
use Rattle.it_eliminate.specs.Views.{StopsBy as EliminationStopsBy}
use Rattle.it_eliminate.proofs.LawLemmas.{one_end}
use Rattle.it_eliminate.proofs.MemberLemmas.{Member, member_of, contains_of, member_mapped}
use Rattle.it_eliminate.proofs.OrderLemmas.{RowLacks, lacks-ordered_rows}
use Rattle.it_eliminate.proofs.RateLemmas.{next_keeps_lacking, projection_exact, rates_exact}
use Rattle.it_eliminate.proofs.RegionLemmas.{step_list, step_up}
use Rattle.it_eliminate.proofs.StepLemmas.{next_lacks}
use Rattle.it_prove.specs.declared.types.Effort.{Effort}
use Rattle.it_redundant.specs.declared.types.Reduced.{Reduced}
use Rattle.it_redundant.specs.Reduction.{NeedView, Reduces, dropped_view, kept_rows, kept_view}
use Rattle.it_redundant.specs.ReducedElimination.{ProjectedView, Region, Rows, Wide, GoesOn, ReducedEnds}
use Rattle.it_redundant.specs.ProjectionSteps.{IsAfterRate, Resumes, StopsBy, region_view}
use Rattle.it_redundant.specs.Theorems.{MeetsGivens, HoldAlike, AreNeeded, SpeakOfSets, IsReducedRegion, RegionIsReduced, OneReducedEnd}
use Rattle.it_redundant.proofs.MultipleLemmas.{multiple_meets}
use Rattle.it_redundant.proofs.ReductionLemmas.{all_kept, hold_alike, kept_are_needed, one_reduction}

-- the rows that stay of a step's list are of the space
pub kept_up : (givens : ProblemView) (effort : Effort) (most : ℕ) (rows : List Terms) (r : ℕ) (next : List Terms)
    (mid : List (Terms × NeedView)) (dropped : List (Terms × CertificateView)) → All (IsOver (size_of givens.space)) rows
    → EliminationEnds (2 ^ givens.space.variables) most (ordered_rows rows) (r ∷ []) (elimination.Region next)
    → Reduces givens effort [] next mid dropped → All (IsOver (size_of givens.space)) (kept_rows mid)
kept_up givens effort most rows r next mid dropped up e red = all_kept givens effort (IsOver (size_of givens.space)) [] next mid dropped red
    (step_up (size_of givens.space) (2 ^ givens.space.variables) most rows r next up e)

-- ---- rate after rate

module _ (givens : ProblemView) (effort : Effort) (most : ℕ) where
  resumes_more : (rows : List Terms) (last : List (Terms × NeedView)) (gone : List (Terms × CertificateView)) (r : ℕ) (rs : List ℕ)
      (now end : ProjectedView) → IsAfterRate givens effort most rows r now → Resumes givens effort most rs now end
      → ReducedEnds givens effort most rows last gone (r ∷ rs) end
  resumes_more rows last gone r rs now end (elimination.Region next, e, g) h =
      (elimination.Region next, e, (g.0, g.1, g.2, subst (λ (x : ProjectedView). Resumes givens effort most rs x end) g.3 h))
  resumes_more rows last gone r rs now end (elimination.Rows rate, e, is) h
      = (elimination.Rows rate, e, subst (λ (x : ProjectedView). Resumes givens effort most rs x end) is h)
  resumes_more rows last gone r rs now end (elimination.Wide rate, e, is) h
      = (elimination.Wide rate, e, subst (λ (x : ProjectedView). Resumes givens effort most rs x end) is h)

  module _ (rates : List ℕ) (i r : ℕ) (below : i < length rates) (is : r ≡ get_or rates i 0) (rows : List Terms)
      (last : List (Terms × NeedView)) (gone : List (Terms × CertificateView)) where
    one_more_rate : (now end : ProjectedView) → IsAfterRate givens effort most rows r now → Resumes givens effort most (drop (i + 1) rates) now end
        → ReducedEnds givens effort most rows last gone (drop i rates) end
    one_more_rate now end after h = subst (λ (rs : List ℕ). ReducedEnds givens effort most rows last gone rs end) (sym (drop_item rates i 0 below is))
        (resumes_more rows last gone r (drop (i + 1) rates) now end after h)

    stop_is_end : (ends : ProjectedView → Type 0) → ((end : ProjectedView) → ReducedEnds givens effort most rows last gone (drop i rates) end → ends end)
        → (stop : Stop) → StopsBy (IsAfterRate givens effort most rows r) stop → StopsBy ends stop
    stop_is_end ends f stops.Memory h = tt
    stop_is_end ends f (stops.Rows other) h = f (Rows other) (one_more_rate (Rows other) (Rows other) h refl)
    stop_is_end ends f (stops.Wide other) h = f (Wide other) (one_more_rate (Wide other) (Wide other) h refl)

  -- i rates are eliminated: the end of the others is that of all
  pub record Leads (size : ℕ) (rows : List Terms) (rates : List ℕ) (now : Reduced) (i : ℕ) : Type 0 where
    pub more : (end : ProjectedView) → Resumes givens effort most (drop i rates) (region_view now) end → ReducedEnds givens effort most rows [] [] rates end
    pub up : All (IsOver size) (kept_rows (kept_view now))

  module _ (size : ℕ) (rows : List Terms) (rates : List ℕ) where
    module _ (r : ℕ) (some : 0 < length rates) (is : r ≡ get_or rates 0 0) where
      pub leads_first : (new : Reduced) → IsAfterRate givens effort most rows r (region_view new) → All (IsOver size) (kept_rows (kept_view new))
          → Leads size rows rates new 1
      leads_first new after up = record { more = λ end h. one_more_rate rates 0 r some is rows [] [] (region_view new) end after h; up = up }

      pub stops_first : (stop : Stop) → StopsBy (IsAfterRate givens effort most rows r) stop
          → StopsBy (ReducedEnds givens effort most rows [] [] rates) stop
      stops_first stop h = stop_is_end rates 0 r some is rows [] [] (ReducedEnds givens effort most rows [] [] rates) (λ end e. e) stop h

    module _ (old : Reduced) (i r : ℕ) (below : i < length rates) (is : r ≡ get_or rates i 0) (l : Leads size rows rates old i) where
      pub leads_more : (new : Reduced) → IsAfterRate givens effort most (kept_rows (kept_view old)) r (region_view new)
          → All (IsOver size) (kept_rows (kept_view new)) → Leads size rows rates new (i + 1)
      leads_more new after up = record {
        more = λ end h. l.more end (one_more_rate rates i r below is (kept_rows (kept_view old)) (kept_view old) (dropped_view old)
            (region_view new) end after h);
        up = up;
      }

      pub stops_later : (stop : Stop) → StopsBy (IsAfterRate givens effort most (kept_rows (kept_view old)) r) stop
          → StopsBy (ReducedEnds givens effort most rows [] [] rates) stop
      stops_later stop h = stop_is_end rates i r below is (kept_rows (kept_view old)) (kept_view old) (dropped_view old)
          (ReducedEnds givens effort most rows [] [] rates) l.more stop h

-- ---- one end

pub one_reduced_end : OneReducedEnd
one_reduced_end givens effort most rows last gone [] end other defined e f = e ∙ sym f
one_reduced_end givens effort most rows last gone (r ∷ rs) end other defined (s, e, g) (t, f, h) =
    let same : s ≡ t = one_end (2 ^ givens.space.variables) most (ordered_rows rows) (r ∷ []) s t e f in
    by_step s g (subst (λ (x : EliminatedView). GoesOn givens effort (λ kept dropped. ReducedEnds givens effort most
    (kept_rows kept) kept dropped rs other) x other) (sym same) h)
    (λ kept dropped. one_reduced_end givens effort most (kept_rows kept) kept dropped rs end other defined)
  where
    by_step : (x : EliminatedView) → GoesOn givens effort (λ kept dropped. ReducedEnds givens effort most (kept_rows kept) kept dropped rs end) x end
        → GoesOn givens effort (λ kept dropped. ReducedEnds givens effort most (kept_rows kept) kept dropped rs other) x other
        → ((kept : List (Terms × NeedView)) (dropped : List (Terms × CertificateView))
        → ReducedEnds givens effort most (kept_rows kept) kept dropped rs end
        → ReducedEnds givens effort most (kept_rows kept) kept dropped rs other → end ≡ other) → end ≡ other
    by_step (elimination.Region next) g h later =
        let same = one_reduction givens effort [] next g.0 h.0 g.1 h.1 defined g.2 h.2 in
        later g.0 g.1 g.3 (subst (λ (d : List (Terms × CertificateView)). ReducedEnds givens effort most (kept_rows g.0) g.0 d rs other) (sym same.1)
        (subst (λ (k : List (Terms × NeedView)). ReducedEnds givens effort most (kept_rows k) k h.1 rs other) (sym same.0) h.3))
    by_step (elimination.Rows rate) g h later = g ∙ sym h
    by_step (elimination.Wide rate) g h later = g ∙ sym h

-- ---- a region is the projection

module _ (givens : ProblemView) (effort : Effort) (most : ℕ) (limits : IsProblem givens) (few : length givens.constraints ≤ 65535)
    (few_rows : most ≤ 65535) (sets : SpeakOfSets givens) where
  -- a region of rows without rates; and no coordinate comes back
  record Holds (rates : List ℕ) (rows : List Terms) (kept : List (Terms × NeedView)) : Type 0 where
    region : IsReducedRegion givens rates rows kept
    keeps : (c : ℕ) → LacksCoordinate c rows → LacksCoordinate c (kept_rows kept)

  nothing_gone : (kept : List (Terms × NeedView)) → All (IsOver (size_of givens.space)) (kept_rows kept) → AreNeeded givens kept
      → Holds [] (kept_rows kept) kept
  nothing_gone kept up need = record {
    region = record { coordinates = up; free = λ r m. absurd (member_of [] r m); exact = λ p meets. rates_exact [] (kept_rows kept) p; needed = need };
    keeps = λ c h. h;
  }

  -- sets aren't eliminated coordinates
  no_set : (rates : List ℕ) (c : ℕ) → c < 2 ^ givens.space.variables → Member c (map (λ r. 2 ^ givens.space.variables + r) rates) → ⊥
  no_set rates c below m = let x = member_mapped (λ r. 2 ^ givens.space.variables + r) c rates m in absurd (omega (arith, below, x.2))

  point_meets : (rates : List ℕ) (rows : List Terms) (p : ℕ → ℤ) (y : Extends (map (λ r. 2 ^ givens.space.variables + r) rates) rows p)
      → MeetsGivens givens p → MeetsGivens givens y.point
  point_meets rates rows p y m = multiple_meets givens y.factor p y.point sets
      (λ c below. y.kept c (λ k. no_set rates c below (member_of (map (λ r. 2 ^ givens.space.variables + r) rates) c k))) m

  -- points of two lists that hold alike extend alike
  extends_alike : (rates : List ℕ) (xs ys : List Terms) (p : ℕ → ℤ) → MeetsGivens givens p
      → ((q : ℕ → ℤ) → MeetsGivens givens q → IsPointOf xs q → IsPointOf ys q)
      → Extends (map (λ r. 2 ^ givens.space.variables + r) rates) xs p → Extends (map (λ r. 2 ^ givens.space.variables + r) rates) ys p
  extends_alike rates xs ys p m f y = record {
    factor = y.factor;
    some = y.some;
    point = y.point;
    kept = y.kept;
    meets = f y.point
        (point_meets rates xs p y m) y.meets;
  }

  module _ (rows : List Terms) (r : ℕ) (next : List Terms) (mid : List (Terms × NeedView)) (dropped : List (Terms × CertificateView))
      (up : All (IsOver (size_of givens.space)) rows)
      (e : EliminationEnds (2 ^ givens.space.variables) most (ordered_rows rows) (r ∷ []) (elimination.Region next))
      (red : Reduces givens effort [] next mid dropped) where
    next_is : next ≡ next_list (2 ^ givens.space.variables + r) (ordered_rows rows)
    next_is = (step_list (2 ^ givens.space.variables) most (ordered_rows rows) r next e).0

    few_next : length next ≤ most
    few_next = (step_list (2 ^ givens.space.variables) most (ordered_rows rows) r next e).1

    next_up : All (IsOver (size_of givens.space)) next
    next_up = step_up (size_of givens.space) (2 ^ givens.space.variables) most rows r next up e

    mid_up : All (IsOver (size_of givens.space)) (kept_rows mid)
    mid_up = kept_up givens effort most rows r next mid dropped up e red

    mid_alike : HoldAlike givens next (kept_rows mid)
    mid_alike = hold_alike givens effort limits few next mid dropped (omega (arith, few_next, few_rows)) next_up red

    mid_lacks : (c : ℕ) → LacksCoordinate c next → LacksCoordinate c (kept_rows mid)
    mid_lacks c h = all_kept givens effort (RowLacks c) [] next mid dropped red h

    mid_needed : AreNeeded givens mid
    mid_needed = kept_are_needed givens effort limits few next mid dropped (omega (arith, few_next, few_rows)) next_up red

    one_more : (rs : List ℕ) (kept : List (Terms × NeedView)) → Holds rs (kept_rows mid) kept → Holds (r ∷ rs) rows kept
    one_more rs kept h = record {
      region = record {
        coordinates = h.region.coordinates;
        free = λ s m. kept_lack_rates s (member_of (r ∷ rs) s m);
        exact = λ p m. (to_rows p m, from_rows p m);
        needed = h.region.needed;
      };
      keeps = λ c l. h.keeps c (mid_lacks c (subst (λ (xs : List Terms). LacksCoordinate c xs) (sym next_is)
          (next_keeps_lacking c (2 ^ givens.space.variables + r) (ordered_rows rows) (lacks-ordered_rows c rows l))));
    }
      where
        kept_lack_rates : (s : ℕ) → Member s (r ∷ rs) → LacksCoordinate (2 ^ givens.space.variables + s) (kept_rows kept)
        kept_lack_rates s (inl is) = h.keeps (2 ^ givens.space.variables + s) (mid_lacks (2 ^ givens.space.variables + s)
            (subst (λ (xs : List Terms). LacksCoordinate (2 ^ givens.space.variables + s) xs) (sym next_is)
            (subst (λ (x : ℕ). LacksCoordinate (2 ^ givens.space.variables + x)
            (next_list (2 ^ givens.space.variables + r) (ordered_rows rows))) (sym is)
            (next_lacks (2 ^ givens.space.variables + r) (ordered_rows rows)))))
        kept_lack_rates s (inr m) = h.region.free s (contains_of rs s m)

        to_rows : (p : ℕ → ℤ) → MeetsGivens givens p → IsPointOf (kept_rows kept) p
            → Extends ((2 ^ givens.space.variables + r) ∷ map (λ s. 2 ^ givens.space.variables + s) rs) rows p
        to_rows p m i =
            let y = extends_alike rs (kept_rows mid) next p m (λ q n. (mid_alike q n).1) ((h.region.exact p m).0 i) in
            let there : IsPointOf (list_after (map (λ s. 2 ^ givens.space.variables + s) rs) next) p
            = (rates_exact (map (λ s. 2 ^ givens.space.variables + s) rs) next p).1 y in
            (projection_exact ((2 ^ givens.space.variables + r) ∷ map (λ s. 2 ^ givens.space.variables + s) rs) rows p).0
            (subst (λ (xs : List Terms). IsPointOf (list_after (map (λ s. 2 ^ givens.space.variables + s) rs) xs) p) next_is there)

        from_rows : (p : ℕ → ℤ) → MeetsGivens givens p
            → Extends ((2 ^ givens.space.variables + r) ∷ map (λ s. 2 ^ givens.space.variables + s) rs) rows p
            → IsPointOf (kept_rows kept) p
        from_rows p m x =
            let there : IsPointOf (list_after (map (λ s. 2 ^ givens.space.variables + s) rs) next) p = subst
            (λ (xs : List Terms). IsPointOf (list_after (map (λ s. 2 ^ givens.space.variables + s) rs) xs) p) (sym next_is)
            ((projection_exact ((2 ^ givens.space.variables + r) ∷ map (λ s. 2 ^ givens.space.variables + s) rs) rows p).1 x) in
            (h.region.exact p m).1 (extends_alike rs next (kept_rows mid) p m (λ q n. (mid_alike q n).0)
            ((rates_exact (map (λ s. 2 ^ givens.space.variables + s) rs) next p).0 there))

  same_region : (xs ys : List (Terms × NeedView)) (ds es : List (Terms × CertificateView)) → Region xs ds ≡ Region ys es → xs ≡ ys
  same_region xs ys ds es e = cc

  region_not_rows : (xs : List (Terms × NeedView)) (ds : List (Terms × CertificateView)) (r : ℕ) → Region xs ds ≡ Rows r → ⊥
  region_not_rows xs ds r e = cc

  region_not_wide : (xs : List (Terms × NeedView)) (ds : List (Terms × CertificateView)) (r : ℕ) → Region xs ds ≡ Wide r → ⊥
  region_not_wide xs ds r e = cc

  module _ (kept : List (Terms × NeedView)) (dropped : List (Terms × CertificateView)) where
    later_region_holds : (rs : List ℕ) (mid : List (Terms × NeedView)) (gone : List (Terms × CertificateView))
        → All (IsOver (size_of givens.space)) (kept_rows mid) → AreNeeded givens mid
        → ReducedEnds givens effort most (kept_rows mid) mid gone rs (Region kept dropped) → Holds rs (kept_rows mid) kept
    later_region_holds [] mid gone up need is = subst (λ (k : List (Terms × NeedView)). Holds [] (kept_rows mid) k)
        (sym (same_region kept mid dropped gone is)) (nothing_gone mid up need)
    later_region_holds (r ∷ rs) mid gone up need (elimination.Region next, e, g) =
        one_more (kept_rows mid) r next g.0 g.1 up e g.2 rs kept (later_region_holds rs g.0 g.1
        (mid_up (kept_rows mid) r next g.0 g.1 up e g.2) (mid_needed (kept_rows mid) r next g.0 g.1 up e g.2) g.3)
    later_region_holds (r ∷ rs) mid gone up need (elimination.Rows rate, e, is) = absurd (region_not_rows kept dropped rate is)
    later_region_holds (r ∷ rs) mid gone up need (elimination.Wide rate, e, is) = absurd (region_not_wide kept dropped rate is)

    first_region_holds : (r : ℕ) (rs : List ℕ) (rows : List Terms) → All (IsOver (size_of givens.space)) rows
        → ReducedEnds givens effort most rows [] [] (r ∷ rs) (Region kept dropped) → Holds (r ∷ rs) rows kept
    first_region_holds r rs rows up (elimination.Region next, e, g) =
        one_more rows r next g.0 g.1 up e g.2 rs kept (later_region_holds rs g.0 g.1 (mid_up rows r next g.0 g.1 up e g.2)
        (mid_needed rows r next g.0 g.1 up e g.2) g.3)
    first_region_holds r rs rows up (elimination.Rows rate, e, is) = absurd (region_not_rows kept dropped rate is)
    first_region_holds r rs rows up (elimination.Wide rate, e, is) = absurd (region_not_wide kept dropped rate is)

  pub region_reduced : (rates : List ℕ) (rows : List Terms) (end : ProjectedView) → 1 ≤ length rates
      → All (IsOver (size_of givens.space)) rows → ReducedEnds givens effort most rows [] [] rates end
      → RegionIsReduced givens rates rows end
  region_reduced [] rows end some up e = absurd (omega arith)
  region_reduced (r ∷ rs) rows (Region kept dropped) some up e = (first_region_holds kept dropped r rs rows up e).region
  region_reduced (r ∷ rs) rows (Rows rate) some up e = tt
  region_reduced (r ∷ rs) rows (Wide rate) some up e = tt

-- ---- the code's step and reduction

module _ (givens : ProblemView) (effort : Effort) (most : ℕ) (system : System) (rate : ℕ) (space : system.space ≡ givens.space) where
  over_givens : (e : EliminatedView) → EliminationEnds (2 ^ system.space.variables) most (ordered_rows system.rows.items) (rate ∷ []) e
      → EliminationEnds (2 ^ givens.space.variables) most (ordered_rows system.rows.items) (rate ∷ []) e
  over_givens e is = subst (λ (s : Space). EliminationEnds (2 ^ s.variables) most (ordered_rows system.rows.items) (rate ∷ []) e) space is

  pub stop_ends : (stop : Stop) → EliminationStopsBy (EliminationEnds (2 ^ system.space.variables) most (ordered_rows system.rows.items) (rate ∷ [])) stop
      → StopsBy (IsAfterRate givens effort most system.rows.items rate) stop
  stop_ends stops.Memory h = tt
  stop_ends (stops.Rows other) h = (elimination.Rows other, over_givens (elimination.Rows other) h, refl)
  stop_ends (stops.Wide other) h = (elimination.Wide other, over_givens (elimination.Wide other) h, refl)

  module _ (next : System) (reduced : Reduced)
      (ends : EliminationEnds (2 ^ system.space.variables) most (ordered_rows system.rows.items) (rate ∷ []) (elimination.Region next.rows.items))
      (reduces : Reduces givens effort [] next.rows.items (kept_view reduced) (dropped_view reduced)) where
    pub region_ends : IsAfterRate givens effort most system.rows.items rate (region_view reduced)
    region_ends = (
      elimination.Region next.rows.items,
      over_givens (elimination.Region next.rows.items) ends,
      (kept_view reduced, dropped_view reduced, reduces, refl),
    )

    pub region_up : All (IsOver (size_of system.space)) system.rows.items → All (IsOver (size_of givens.space)) (kept_rows (kept_view reduced))
    region_up up = kept_up givens effort most system.rows.items rate next.rows.items (kept_view reduced) (dropped_view reduced)
        (subst (λ (s : Space). All (IsOver (size_of s)) system.rows.items) space up)
        (over_givens (elimination.Region next.rows.items) ends) reduces

-- the list after a rate has few rows, if few are allowed
pub few_after : (base most : ℕ) (rows : List Terms) (r : ℕ) (next : List Terms) → most ≤ 65535
    → EliminationEnds base most rows (r ∷ []) (elimination.Region next) → length next ≤ 65535
few_after base most rows r next few e = let below = (step_list base most rows r next e).1 in omega (arith, few, below)
