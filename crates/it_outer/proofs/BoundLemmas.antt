-- The end of a search is right, and bounds are the projection.
use Rattle.std.proofs.Common.{◌≡◌, inl, inr, ℕ, zero, suc, ◌-◌, ◌^◌, ◌≤◌, ℤ, pos, append-nil, ◌≤ℤ◌, List, [], ◌∷◌, ◌++◌, length, sym, subst, arith, append_assoc, All}
use Rattle.std.specs.Prelude.{Contains}
use Rattle.std.specs.List.{AllZip, AllByRecursion as Every}
use Rattle.std.proofs.lemmas.Int.{ints}
use Rattle.std.proofs.lemmas.List.Elements.{All-nil, All-cons, All-head, All-append}
use Rattle.it_space.specs.Answers.{CertificateView}
use Rattle.it_problems.specs.Problems.{ProblemView, IsProblem}
use Rattle.it_space.specs.Rows.{Terms, IsOver, point_of, value}
use Rattle.it_space.specs.Spaces.{size_of}
use Rattle.it_space.proofs.EveryLemmas.{all_of, every_of}
use Rattle.it_eliminate.specs.Elimination.{EliminatedView}
use Rattle.it_eliminate.specs.Elimination as elimination
use Rattle.it_eliminate.proofs.MemberLemmas.{all_back, all_member, member_of}
use Rattle.it_check.specs.Meaning.{CertifiesRow}
use Rattle.it_check.proofs.Truth.{yes_is_true}
use Rattle.it_prove.specs.ProofViews as proofs
use Rattle.it_prove.specs.ProofViews.{AreProofsOf}
use Rattle.it_prove.specs.declared.types.Effort.{Effort}
use Rattle.it_prove.proofs.RightLemmas.{ends_are_right}
use Rattle.it_redundant.specs.Reduction.{kept_rows}
use Rattle.it_redundant.proofs.ReductionLemmas.{all_kept, hold_alike}
use Rattle.it_hull.specs.Hulls.{IsAttained, IsHull, UsesOnly, first_rows}
use Rattle.it_hull.specs.Rays.{RayEnds}
use Rattle.it_hull.specs.Theorems.{MeetsProblem}
use Rattle.it_hull.proofs.ConeLemmas.{hull_is_projection}
use Rattle.it_hull.proofs.RateLemmas.{first_rows_over, rates_meet, reduced_is_hull}
use Rattle.it_hull.proofs.RayLemmas.{next_of_space, one_more_ray}
use Rattle.it_hull.proofs.StepLemmas.{first_is_hull}
use Rattle.it_outer.specs.Bounds.{IsRay, IsRightOuter}
use Rattle.it_hull.specs.Constants.{constants}
use Rattle.it_outer.specs.Outer.{Search, OuterView, Bounds, Undecided, CauseView, Run, Rows, Width, Rays}
use Rattle.it_outer.specs.Search.{Proved, Refuted, Left, IsFirstWith, Hull, TooMany, TooWide, AfterStep, NextHull, PassEnds, HullEnds, PassWithEnds, SecondEnds}
use Rattle.it_outer.specs.Theorems.{BoundsAreProjection, EndsAreRight, IsSearch}
use Rattle.it_hull.proofs.ConstantLemmas.{constants_are_problem, constants_speak_of_sets, few_constants}
use Rattle.it_outer.proofs.ExtremeLemmas.{all_extreme}

-- ---- certificates

certified_rows : (q : ProblemView) (effort : Effort) (rows : List Terms) (ws : List CertificateView) → IsProblem q
    → Every (IsOver (size_of q.space)) rows → AreProofsOf q effort rows ws → AllZip (CertifiesRow q) rows ws
certified_rows q effort [] [] h u z = tt
certified_rows q effort [] (w ∷ ws) h u z = absurd z
certified_rows q effort (row ∷ rows) [] h u z = absurd z
certified_rows q effort (row ∷ rows) (w ∷ ws) h u z = ((ends_are_right q row effort (proofs.Yes w) h u.0 z.0).0, certified_rows q effort rows ws h u.1 z.1)

valid_rows : (q : ProblemView) (rows : List Terms) (ws : List CertificateView) → IsProblem q → Every (IsOver (size_of q.space)) rows
    → AllZip (CertifiesRow q) rows ws
    → Every (λ row. (p : ℕ → ℤ) → MeetsProblem q p → pos 0 ≤ℤ value row p) rows
valid_rows q [] ws h u z = tt
valid_rows q (row ∷ rows) [] h u z = absurd z
valid_rows q (row ∷ rows) (w ∷ ws) h u z = ((λ p m. yes_is_true q row w h u.0 z.0 p m.0 m.1), valid_rows q rows ws h u.1 z.1)

-- the point of a refuted row
pub refuting_point : (q : ProblemView) (effort : Effort) (rows : List Terms) (row : Terms) (values : List ℤ) → IsProblem q → All (IsOver (size_of q.space)) rows
    → IsFirstWith q effort rows row (proofs.No values) → IsRay q values
refuting_point q effort rows row values h u first =
    let own : IsOver (size_of q.space) row = All-head (IsOver (size_of q.space)) row first.after
    (all_back (IsOver (size_of q.space)) first.before (row ∷ first.after)
    (subst (λ (rs : List Terms). All (IsOver (size_of q.space)) rs) first.rows_are u)) in
    let r = (ends_are_right q row effort (proofs.No values) h own first.ends).0 in
    record { complete = r.complete; met = (r.polymatroid, r.met) }

-- ---- a hull of rays that meet the problem

module _ (s : Search) (h : IsSearch s) where
  record IsGoing (rows : List Terms) (rays : List (List ℤ)) : Type 0 where
    hull : IsHull s.kept rows rays
    over : All (IsOver (size_of s.problem.space)) rows
    attained : All (IsRay s.problem) rays

  next_going : (rows next : List Terms) (rays : List (List ℤ)) (ray : List ℤ) → IsGoing rows rays → IsRay s.problem ray
      → NextHull s rows ray (Hull next) → IsGoing next (rays ++ ray ∷ [])
  next_going rows next rays ray g r (step, e, a) = by_step step e a
    where
      by_step : (step : EliminatedView) → RayEnds (2 ^ s.problem.space.variables) s.limits.rows ray s.spare rows step
          → AfterStep s step (Hull next) → IsGoing next (rays ++ ray ∷ [])
      by_step (elimination.Rows rate) e a = absurd (cc)
      by_step (elimination.Wide rate) e a = absurd (cc)
      by_step (elimination.Region list) e (kept, dropped, red, is) =
          let q : ProblemView = constants s.problem.space in
          let left = next_of_space s.problem.space s.limits.rows s.spare ray rows list h.spare g.over e in
          let few : length list ≤ 65535 = let k = left.1 in omega (arith, k, h.few_rows) in
          let whole : IsHull s.kept list (rays ++ ray ∷ []) = one_more_ray (2 ^ s.problem.space.variables) s.limits.rows ray s.spare s.kept
          rows list rays h.away g.hull e in
          let alike = hold_alike q s.limits.effort (constants_are_problem s.problem.space h.problem.space)
          (let k = few_constants s.problem.space h.problem.space in omega (arith, k)) list kept dropped few left.0 red in
          let same : next ≡ kept_rows kept = rows_of_hull next (kept_rows kept) is in
          subst (λ (rs : List Terms). IsGoing rs (rays ++ ray ∷ [])) (sym same) (record {
            hull = reduced_is_hull s.problem.space.variables s.kept list (kept_rows kept) (rays ++ ray ∷ []) no_sets
                (all_kept q s.limits.effort (UsesOnly s.kept) [] list kept dropped red whole.over)
                (λ x z. alike x (rates_meet q x (constants_speak_of_sets s.problem.space) z)) whole;
            over = all_kept q s.limits.effort (IsOver (size_of s.problem.space)) [] list kept dropped red left.0;
            attained = All-append (IsRay s.problem) rays (ray ∷ []) g.attained (All-cons (IsRay s.problem) ray [] r (All-nil (IsRay s.problem)));
          })
        where
          rows_of_hull : (xs ys : List Terms) → Hull xs ≡ Hull ys → xs ≡ ys
          rows_of_hull xs ys k = cc

          no_sets : (c : ℕ) → Contains s.kept c → 2 ^ s.problem.space.variables ≤ c
          no_sets c m = (all_member (λ (c : ℕ). (2 ^ s.problem.space.variables ≤ c) × (c ≤ size_of s.problem.space)) s.kept c h.rates (member_of s.kept c m)).0

  hull_going : (rows next : List Terms) (rays more : List (List ℤ)) → IsGoing rows rays → Every (IsRay s.problem) more
      → HullEnds s rows more (Hull next) → IsGoing next (rays ++ more)
  hull_going rows next rays [] g r e = subst (λ (rs : List Terms). IsGoing rs (rays ++ [])) (sym (rows_of_hull next rows e))
      (subst (λ (ps : List (List ℤ)). IsGoing rows ps) (sym (append-nil rays)) g)
    where
      rows_of_hull : (xs ys : List Terms) → Hull xs ≡ Hull ys → xs ≡ ys
      rows_of_hull xs ys k = cc
  hull_going rows next rays (ray ∷ more) g r (Hull mid, n, later) =
      subst (λ (ps : List (List ℤ)). IsGoing next ps) (append_assoc rays (ray ∷ []) more)
      (hull_going mid next (rays ++ ray ∷ []) more (next_going rows mid rays ray g r.0 n) r.1 later)
  hull_going rows next rays (ray ∷ more) g r (TooMany, n, later) = absurd (cc)
  hull_going rows next rays (ray ∷ more) g r (TooWide, n, later) = absurd (cc)

  -- ---- the ends of passes

  -- bounds are of a hull that goes on, with proofs of its rows
  abbrev IsWell : OuterView → Type 0
  IsWell (Bounds rows ws rays) = IsGoing rows rays × AreProofsOf s.problem s.limits.effort rows ws
  IsWell (Undecided cause) = Unit {0}

  undecided_well : (end : OuterView) (cause : CauseView) → end ≡ Undecided cause → IsWell end
  undecided_well end cause e = subst (λ (o : OuterView). IsWell o) (sym e) tt

  proved_well : (rows : List Terms) (rays : List (List ℤ)) (ws : List CertificateView) (end : OuterView) → IsGoing rows rays
      → AreProofsOf s.problem s.limits.effort rows ws → end ≡ Bounds rows ws rays → IsWell end
  proved_well rows rays ws end g z e = subst (λ (o : OuterView). IsWell o) (sym e) (g, z)

  well_right : (end : OuterView) → IsWell end → IsRightOuter s.problem s.kept end
  well_right (Bounds rows ws rays) w = record {
    certified = certified_rows s.problem s.limits.effort rows ws h.problem
        (every_of (IsOver (size_of s.problem.space)) rows w.0.over) w.1;
    attained = w.0.attained;
    hull = w.0.hull;
  }
  well_right (Undecided cause) w = tt

  pass_well : (more : ℕ) (rows : List Terms) (rays : List (List ℤ)) (end : OuterView) → IsGoing rows rays → PassEnds s more rows rays end → IsWell end
  pass_well zero rows rays end g (Proved ws, v, a) = proved_well rows rays ws end g v a
  pass_well zero rows rays end g (Refuted values, v, a) = undecided_well end Rays a
  pass_well zero rows rays end g (Left row cause, v, a) = undecided_well end (Run row cause) a
  pass_well (suc more) rows rays end g (Proved ws, v, a) = proved_well rows rays ws end g v a
  pass_well (suc more) rows rays end g (Left row cause, v, a) = undecided_well end (Run row cause) a
  pass_well (suc more) rows rays end g (Refuted values, v, (Hull next, n, later)) =
      pass_well more next (rays ++ values ∷ []) end (next_going rows next rays values g
      (refuting_point s.problem s.limits.effort rows v.0 values h.problem g.over v.1) n) later
  pass_well (suc more) rows rays end g (Refuted values, v, (TooMany, n, later)) = undecided_well end Rows later
  pass_well (suc more) rows rays end g (Refuted values, v, (TooWide, n, later)) = undecided_well end Width later

  -- the first hull
  begun : IsGoing (first_rows s.kept) []
  begun = record { hull = first_is_hull s.kept; over = first_rows_over s.problem.space s.kept h.rates; attained = All-nil (IsRay s.problem) }

  pass_with_well : (rays : List (List ℤ)) (end : OuterView) → All (IsRay s.problem) rays → PassWithEnds s rays end → IsWell end
  pass_with_well rays end r (Hull rows, e, later) =
      pass_well (s.limits.rays - length rays) rows rays end (hull_going (first_rows s.kept) rows [] rays begun (every_of (IsRay s.problem) rays r) e) later
  pass_with_well rays end r (TooMany, e, later) = undecided_well end Rows later
  pass_with_well rays end r (TooWide, e, later) = undecided_well end Width later

  second_well : (first end : OuterView) → IsWell first → SecondEnds s first end → IsWell end
  second_well (Bounds rows ws rays) end r (inl e) = undecided_well end Width e.1
  second_well (Bounds rows ws rays) end r (inr e) = pass_with_well _ end (all_extreme (IsRay s.problem) s.kept rows rays r.0.attained) e.1
  second_well (Undecided cause) end r e = undecided_well end cause e

  pub bounds_over : (rows : List Terms) (ws : List CertificateView) (rays : List (List ℤ)) → PassWithEnds s [] (Bounds rows ws rays)
      → All (IsOver (size_of s.problem.space)) rows
  bounds_over rows ws rays e = (pass_with_well [] (Bounds rows ws rays) (All-nil (IsRay s.problem)) e).0.over

  pub bounds_rays : (rows : List Terms) (ws : List CertificateView) (rays : List (List ℤ)) → PassWithEnds s [] (Bounds rows ws rays)
      → All (λ values. length values ≡ size_of s.problem.space) rays
  bounds_rays rows ws rays e k d l = ((pass_with_well [] (Bounds rows ws rays) (All-nil (IsRay s.problem)) e).0.attained k d l).complete

pub search_is_right : EndsAreRight
search_is_right s end h (first, p, e) = well_right s h end (second_well s h first end (pass_with_well s h [] first (All-nil (IsRay s.problem)) p) e)

-- ---- the law

pub bounds_are_projection : BoundsAreProjection
bounds_are_projection q kept rows ws rays h over b x = hull_is_projection q kept rows rays b.hull
    (all_of (λ (row : Terms). (p : ℕ → ℤ) → MeetsProblem q p → pos 0 ≤ℤ value row p) rows
    (valid_rows q rows ws h (every_of (IsOver (size_of q.space)) rows over) b.certified))
    (all_of (λ (ray : List ℤ). IsAttained kept (MeetsProblem q) (point_of ray)) rays (attained rays (every_of (IsRay q) rays b.attained))) x
  where
    attained : (rays : List (List ℤ)) → Every (IsRay q) rays → Every (λ (ray : List ℤ). IsAttained kept (MeetsProblem q) (point_of ray)) rays
    attained [] a = tt
    attained (ray ∷ rays) a = (
      record {
        factor = 1;
        some = omega arith;
        point = point_of ray;
        same = λ c m. omega (arith, ints);
        holds
            = a.0.met;
      },
      attained rays a.1,
    )
