-- What holds of each hull of a search holds where it ends.
use Rattle.std.proofs.Common.{◌≡◌, inl, inr, ℕ, zero, suc, ◌+◌, ◌-◌, ◌*◌, ◌^◌, ◌≤◌, ◌<◌, ℤ, List, [], ◌∷◌, ◌++◌, length, Bool, true, false, if◌then◌else◌, nat_eq, refl, sym, subst, arith, All}
use Rattle.std.specs.List.{list_any}
use Rattle.std.proofs.lemmas.List.{length-map}
use Rattle.std.proofs.lemmas.List.Elements.{All-head}
use Rattle.it_space.specs.Answers.{CertificateView}
use Rattle.it_space.specs.declared.answers.Cause.{Cause}
use Rattle.it_space.specs.declared.answers.Cause.TheVariants.{Pivots, Width as WideStep, Scale}
use Rattle.it_space.specs.declared.spaces.Space.{Space}
use Rattle.it_problems.specs.Problems.{IsProblem, ProblemView}
use Rattle.it_space.specs.Rows.{Terms, IsOver}
use Rattle.it_space.specs.Spaces.{size_of}
use Rattle.it_run.specs.Runs.{RunEndView}
use Rattle.it_run.specs.Runs as runs
use Rattle.it_eliminate.specs.Elimination as elimination
use Rattle.it_eliminate.proofs.MemberLemmas.{all_back}
use Rattle.it_prove.specs.declared.types.Effort.{Effort}
use Rattle.it_prove.specs.ProofViews as proofs
use Rattle.it_prove.specs.ProofViews.{ProofView, EndsWith, Follows, IsUnbound}
use Rattle.it_prove.proofs.ProofLemmas.{never_out_of_steps, quick_cause}
use Rattle.it_redundant.specs.Reduction.{NeedView, Reduces, kept_by, kept_rows}
use Rattle.it_redundant.proofs.ReductionLemmas.{all_kept}
use Rattle.it_hull.specs.Hulls.{first_rows}
use Rattle.it_hull.specs.KeptRates.{kept_coordinates, rates_left}
use Rattle.it_hull.proofs.RateLemmas.{first_rows_over}
use Rattle.it_hull.proofs.RayLemmas.{next_of_space}
use Rattle.it_hull.specs.Constants.{constants}
use Rattle.it_outer.specs.Outer.{Search, OuterView, Bounds, Undecided, Run, Rows, Width, Rays, search_without}
use Rattle.it_outer.specs.declared.types.Limits.{Limits}
use Rattle.it_outer.specs.Search.{Proved, Refuted, Left, IsFirstWith, Hull, TooMany, TooWide, NextHull, PassEnds, HullEnds, PassWithEnds, SecondEnds, SearchEnds}
use Rattle.it_outer.specs.Theorems.{IsSearch}
use Rattle.it_outer.proofs.FrameLemmas.{without_is_search}
use Rattle.it_bounds.specs.Lines.{IsOfRun}

-- ---- hull by hull

module _ (s : Search) (P : List Terms → Type 0) (first : P (first_rows s.kept))
    (more_ray : (rows next : List Terms) (ray : List ℤ) → P rows → NextHull s rows ray (Hull next) → P next) where
  -- it holds of the rows of bounds, and of those among which a run has no end
  abbrev HoldsOf : OuterView → Type 0
  HoldsOf (Bounds rows ws rays) = P rows
  HoldsOf (Undecided (Run row cause)) = (rows : List Terms) × P rows × IsFirstWith s.problem s.limits.effort rows row (proofs.Undecided cause)
  HoldsOf (Undecided Rows) = Unit {0}
  HoldsOf (Undecided Width) = Unit {0}
  HoldsOf (Undecided Rays) = Unit {0}

  by_same : (end other : OuterView) → end ≡ other → HoldsOf other → HoldsOf end
  by_same end other e h = subst (λ (o : OuterView). HoldsOf o) (sym e) h

  of_pass : (more : ℕ) (rows : List Terms) (rays : List (List ℤ)) (end : OuterView) → P rows → PassEnds s more rows rays end → HoldsOf end
  of_pass zero rows rays end p (Proved ws, v, a) = by_same end (Bounds rows ws rays) a p
  of_pass zero rows rays end p (Refuted values, v, a) = by_same end (Undecided Rays) a tt
  of_pass zero rows rays end p (Left row cause, v, a) = by_same end (Undecided (Run row cause)) a (rows, p, v)
  of_pass (suc more) rows rays end p (Proved ws, v, a) = by_same end (Bounds rows ws rays) a p
  of_pass (suc more) rows rays end p (Left row cause, v, a) = by_same end (Undecided (Run row cause)) a (rows, p, v)
  of_pass (suc more) rows rays end p (Refuted values, v, (Hull next, n, later)) = of_pass more next (rays ++ values ∷ []) end
      (more_ray rows next values p n) later
  of_pass (suc more) rows rays end p (Refuted values, v, (TooMany, n, later)) = by_same end (Undecided Rows) later tt
  of_pass (suc more) rows rays end p (Refuted values, v, (TooWide, n, later)) = by_same end (Undecided Width) later tt

  of_rays : (rays : List (List ℤ)) (rows next : List Terms) → P rows → HullEnds s rows rays (Hull next) → P next
  of_rays [] rows next p e = subst P (sym (same_rows next rows e)) p
    where
      same_rows : (xs ys : List Terms) → Hull xs ≡ Hull ys → xs ≡ ys
      same_rows xs ys k = cc
  of_rays (ray ∷ rays) rows next p (Hull mid, n, later) = of_rays rays mid next (more_ray rows mid ray p n) later
  of_rays (ray ∷ rays) rows next p (TooMany, n, later) = absurd (cc)
  of_rays (ray ∷ rays) rows next p (TooWide, n, later) = absurd (cc)

  of_pass_with : (rays : List (List ℤ)) (end : OuterView) → PassWithEnds s rays end → HoldsOf end
  of_pass_with rays end (Hull rows, e, later) = of_pass (s.limits.rays - length rays) rows rays end (of_rays rays (first_rows s.kept) rows first e) later
  of_pass_with rays end (TooMany, e, later) = by_same end (Undecided Rows) later tt
  of_pass_with rays end (TooWide, e, later) = by_same end (Undecided Width) later tt

  of_second : (one end : OuterView) → HoldsOf one → SecondEnds s one end → HoldsOf end
  of_second (Bounds rows ws rays) end h (inl e) = by_same end (Undecided Width) e.1 tt
  of_second (Bounds rows ws rays) end h (inr e) = of_pass_with _ end e.1
  of_second (Undecided cause) end h e = by_same end (Undecided cause) e h

  of_search : (end : OuterView) → SearchEnds s end → HoldsOf end
  of_search end (one, p, e) = of_second one end (of_pass_with [] one p) e

-- ---- why a run has no end

-- a run's cause is none of a rate
cause_of_run : (q : ProblemView) (row : Terms) (effort : Effort) (cause : Cause) → EndsWith q row effort (proofs.Undecided cause) → IsOfRun cause
cause_of_run q row effort cause (inl e) = by_end e.end e.follows
  where
    by_cause : (other : Cause) → IsOfRun other → proofs.Undecided cause ≡ proofs.Undecided other → IsOfRun cause
    by_cause other i e = subst (λ (c : Cause). IsOfRun c) (sym (same_cause cause other e)) i
      where
        same_cause : (x y : Cause) → proofs.Undecided x ≡ proofs.Undecided y → x ≡ y
        same_cause x y k = cc

    by_end : (end : RunEndView _ _) → Follows q row end (proofs.Undecided cause) → IsOfRun cause
    by_end (runs.Weights ws) (inl f) = absurd (not_yes f.0 f.3)
      where
        not_yes : (w : CertificateView) → proofs.Undecided cause ≡ proofs.Yes w → ⊥
        not_yes w k = cc
    by_end (runs.Weights ws) (inr f) = by_cause Scale tt f.1
    by_end (runs.Point qs) (inl f) = absurd (not_no _ f.1)
      where
        not_no : (values : List ℤ) → proofs.Undecided cause ≡ proofs.No values → ⊥
        not_no values k = cc
    by_end (runs.Point qs) (inr f) = by_cause Scale tt f.1
    by_end (runs.Pivots k) f = by_cause (Pivots k) tt f
    by_end (runs.Width k) f = by_cause (WideStep k) tt f
cause_of_run q row effort cause (inr e) = subst (λ (c : Cause). IsOfRun c) (sym (quick_cause effort.runs q row cause e)) tt

-- where the defined run is made without a budget no row is left for lack of steps
pub search_never_out_of_steps : (s : Search) (row : Terms) (k : ℕ) → IsUnbound s.limits.effort → SearchEnds s (Undecided (Run row (Pivots k))) → ⊥
search_never_out_of_steps s row k unbound e =
    let h = of_search s (λ rows. Unit {0}) tt (λ rows next ray p n. tt) (Undecided (Run row (Pivots k))) e in
    never_out_of_steps s.problem row s.limits.effort k unbound h.2.ends

-- ---- the rows are of the space, and few

-- no more rows stay than there were
kept_few : (givens : ProblemView) (effort : Effort) (before rows : List Terms) (kept : List (Terms × NeedView)) (dropped : List (Terms × CertificateView))
    → Reduces givens effort before rows kept dropped → length (kept_rows kept) ≤ length rows
kept_few givens effort before [] kept dropped (none, gone) = subst (λ (ks : List (Terms × NeedView)). length (kept_rows ks) ≤ 0) (sym none) (omega arith)
kept_few givens effort before (row ∷ rows) kept dropped (o, k, d, ends, is, gone, rest) =
    subst (λ (ks : List (Terms × NeedView)). length (kept_rows ks) ≤ suc (length rows)) (sym is)
    (by_outcome o (kept_few givens effort (before ++ kept_rows (kept_by row o)) rows k d rest))
  where
    by_outcome : (o : ProofView) → length (kept_rows k) ≤ length rows → length (kept_rows (kept_by row o ++ k)) ≤ suc (length rows)
    by_outcome (proofs.Yes w) l = omega (arith, l)
    by_outcome (proofs.No values) l = omega (arith, l)
    by_outcome (proofs.Undecided cause) l = omega (arith, l)

few_left : (gone : List ℕ) (rate count : ℕ) → length (rates_left gone rate count) ≤ count
few_left gone rate zero = omega arith
few_left gone rate (suc count) = by_test (list_any (λ r. nat_eq r rate) gone) (few_left gone (rate + 1) count)
  where
    by_test : (b : Bool) → length (rates_left gone (rate + 1) count) ≤ count
        → length (if b then rates_left gone (rate + 1) count else rate ∷ rates_left gone (rate + 1) count) ≤ suc count
    by_test true l = omega (arith, l)
    by_test false l = omega (arith, l)

first_count : (cs : List ℕ) → length (first_rows cs) ≡ 2 * length cs
first_count [] = refl
first_count (c ∷ cs) = let e = first_count cs in omega (arith, e)

module _ (s : Search) (h : IsSearch s) (few_kept : length s.kept ≤ 16) where
  -- rows of the space, few enough for a reduction
  record AreFew (rows : List Terms) : Type 0 where
    over : All (IsOver (size_of s.problem.space)) rows
    few : length rows ≤ 65535

  first_few : AreFew (first_rows s.kept)
  first_few = record { over = first_rows_over s.problem.space s.kept h.rates; few = let e = first_count s.kept in omega (arith, e, few_kept) }

  next_few : (rows next : List Terms) (ray : List ℤ) → AreFew rows → NextHull s rows ray (Hull next) → AreFew next
  next_few rows next ray f (elimination.Rows rate, e, a) = absurd (cc)
  next_few rows next ray f (elimination.Wide rate, e, a) = absurd (cc)
  next_few rows next ray f (elimination.Region list, e, (kept, dropped, red, is)) =
      let left = next_of_space s.problem.space s.limits.rows s.spare ray rows list h.spare f.over e in
      subst (λ (rs : List Terms). AreFew rs) (sym (rows_of_hull next (kept_rows kept) is)) (record {
        over = all_kept (constants s.problem.space) s.limits.effort (IsOver (size_of s.problem.space)) [] list kept dropped red left.0;
        few = let k = kept_few (constants s.problem.space) s.limits.effort [] list kept dropped red in let l = left.1 in omega (arith, k, l, h.few_rows);
      })
    where
      rows_of_hull : (xs ys : List Terms) → Hull xs ≡ Hull ys → xs ≡ ys
      rows_of_hull xs ys k = cc

  bounds_few : (rows : List Terms) (ws : List CertificateView) (rays : List (List ℤ)) → SearchEnds s (Bounds rows ws rays) → AreFew rows
  bounds_few rows ws rays e = of_search s AreFew first_few next_few (Bounds rows ws rays) e

  -- the row of a run without an end is of the space, and the cause is of a run
  run_over : (row : Terms) (cause : Cause) → SearchEnds s (Undecided (Run row cause)) → IsOver (size_of s.problem.space) row × IsOfRun cause
  run_over row cause e =
      let f = of_search s AreFew first_few next_few (Undecided (Run row cause)) e in
      let first = f.2 in (
        All-head (IsOver (size_of s.problem.space)) row first.after (all_back (IsOver (size_of s.problem.space)) first.before
            (row ∷ first.after) (subst (λ (rs : List Terms). All (IsOver (size_of s.problem.space)) rs) first.rows_are f.1.over)),
        cause_of_run s.problem row s.limits.effort cause first.ends,
      )

-- at most 16 rates stay
few_rates_kept : (s : Space) (gone : List ℕ) → s.rates ≤ 16 → length (kept_coordinates s gone) ≤ 16
few_rates_kept s gone l = let k = few_left gone 0 s.rates in let e = length-map (rates_left gone 0 s.rates) (λ r. 2 ^ s.variables + r) in omega (arith, k, e, l)

module _ (p : ProblemView) (gone : List ℕ) (limits : Limits) (h : IsProblem p) (within : All (λ r. r < p.space.rates) gone)
    (some : 1 ≤ length gone) (few_rows : limits.rows ≤ 65535) where
  pub bounds_over : (rows : List Terms) (ws : List CertificateView) (rays : List (List ℤ))
      → SearchEnds (search_without p gone limits) (Bounds rows ws rays) → All (IsOver (size_of p.space)) rows × (length rows ≤ 65535)
  bounds_over rows ws rays e =
      let f = bounds_few (search_without p gone limits) (without_is_search p gone limits h within some few_rows)
      (few_rates_kept p.space gone h.space.few_rates) rows ws rays e in (f.over, f.few)

  pub cause_over : (row : Terms) (cause : Cause) → SearchEnds (search_without p gone limits) (Undecided (Run row cause))
      → IsOver (size_of p.space) row × IsOfRun cause
  cause_over row cause e = run_over (search_without p gone limits) (without_is_search p gone limits h within some few_rows)
      (few_rates_kept p.space gone h.space.few_rates) row cause e
