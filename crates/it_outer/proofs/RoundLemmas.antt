-- Visits and rounds as calls make them.
use Rattle.std.proofs.Common.{◌≡◌, ◌⊎◌, inr, ℕ, suc, zero, ◌+◌, ◌-◌, ◌<◌, ◌≤◌, ℤ, List, [], ◌∷◌, ◌++◌, length, take, drop, get_or, refl, sym, ap, subst, ◌∙◌, arith, All}
use Rattle.std.specs.List.{AllZip}
use Rattle.std.proofs.lemmas.Grind.{take_at_read}
use Rattle.std.proofs.lemmas.List.{take-append-drop, take_all}
use Rattle.it_space.specs.Answers.{CertificateView}
use Rattle.it_problems.specs.Problems.{ProblemView, IsProblem}
use Rattle.it_space.specs.Rows.{Terms, IsOver}
use Rattle.it_space.specs.Spaces.{size_of}
use Rattle.it_space.proofs.ListLemmas.{drop_item}
use Rattle.it_prove.specs.ProofViews as proofs
use Rattle.it_prove.specs.ProofViews.{ProofView, EndsWith, AreProofsOf}
use Rattle.it_prove.specs.declared.types.Effort.{Effort}
use Rattle.std.specs.Global.{Vec}
use Rattle.std.specs.Prelude.{IfOk, Result, Ok, Err}
use Rattle.it_space.specs.declared.points.Point.{Point}
use Rattle.it_outer.specs.declared.types.Next.TheVariants as nexts
use Rattle.it_problems.specs.declared.problems.System.{System}
use Rattle.it_hull.specs.Hulls.{first_rows}
use Rattle.it_outer.specs.declared.types.Next.{Next}
use Rattle.it_outer.specs.declared.types.Outer.{Outer}
use Rattle.it_outer.specs.declared.types.Round.{Round}
use Rattle.it_outer.specs.declared.types.Round.TheVariants as rounds
use Rattle.it_outer.specs.Outer.{Search, OuterView, Rays, Undecided, Width, outer_view}
use Rattle.it_outer.specs.Extremes.{extreme_rays}
use Rattle.it_outer.specs.Rounds.{AreOfSpace, IsAfterRound, IsHullSystem, IsRound, IsVisit, IsWithPoint, RoundEnds, next_view, visit_view}
use Rattle.it_outer.specs.Search.{AfterHull, AfterVisit, AllFit, HullEnds, HullView, IsFirstWith, NextHull, PassEnds, PassWithEnds, VisitEnds}
use Rattle.it_outer.specs.declared.types.Visit.{Visit}
use Rattle.it_outer.specs.declared.types.Visit.TheVariants as visits
use Rattle.it_outer.proofs.BoundLemmas.{refuting_point}

-- ---- visits

zip_end : {A B : Type 0} (R : A → B → Type 0) (xs : List A) (ys : List B) (x : A) (y : B) → AllZip R xs ys → R x y → AllZip R (xs ++ x ∷ []) (ys ++ y ∷ [])
zip_end R [] [] x y z r = (r, tt)
zip_end R [] (b ∷ ys) x y z r = absurd z
zip_end R (a ∷ xs) [] x y z r = absurd z
zip_end R (a ∷ xs) (b ∷ ys) x y z r = (z.0, zip_end R xs ys x y z.1 r)

pub proved_more : (q : ProblemView) (effort : Effort) (rows : List Terms) (ws new : List CertificateView) (i : ℕ) (row : Terms)
    (w : CertificateView) → i < length rows → row ≡ get_or rows i row → EndsWith q row effort (proofs.Yes w)
    → new ≡ ws ++ w ∷ [] → AreProofsOf q effort (take i rows) ws → AreProofsOf q effort (take (i + 1) rows) new
proved_more q effort rows ws new i row w l at ends is z =
    let longer : take (i + 1) rows ≡ take i rows ++ row ∷ [] = (take_at_read rows i row l).1 ∙ ap (λ (r : Terms). take i rows ++ r ∷ []) (sym at) in
    subst (λ (rs : List Terms). AreProofsOf q effort rs new) (sym longer)
    (subst (λ (xs : List CertificateView). AreProofsOf q effort (take i rows ++ row ∷ []) xs) (sym is)
    (zip_end (λ t w. EndsWith q t effort (proofs.Yes w)) (take i rows) ws row w z ends))

pub all_proved : (q : ProblemView) (effort : Effort) (rows : List Terms) (ws : List CertificateView) (i : ℕ) → length rows ≤ i
    → AreProofsOf q effort (take i rows) ws → AreProofsOf q effort rows ws
all_proved q effort rows ws i l z = subst (λ (rs : List Terms). AreProofsOf q effort rs ws) (take_all i rows l) z

pub first_with : (q : ProblemView) (effort : Effort) (rows : List Terms) (ws : List CertificateView) (i : ℕ) (row : Terms) (o : ProofView)
    → i < length rows → row ≡ get_or rows i row → EndsWith q row effort o
    → AreProofsOf q effort (take i rows) ws → IsFirstWith q effort rows row o
first_with q effort rows ws i row o l at ends z = record {
  before = take i rows;
  after = drop (i + 1) rows;
  ws = ws;
  rows_are = sym (take-append-drop i rows) ∙ ap (λ (rs : List Terms). take i rows ++ rs) (drop_item rows i row l at);
  proved = z;
  ends = ends;
}

-- a visit's point is of the space
pub visit_is : (s : Search) (rows : List Terms) (v : Visit) → IsProblem s.problem → All (IsOver (size_of s.problem.space)) rows
    → VisitEnds s.problem s.limits.effort rows (visit_view v) → IsVisit s v
visit_is s rows (visits.Proved ws) h o e = tt
visit_is s rows (visits.Refuted point) h o e = (refuting_point s.problem s.limits.effort rows e.0 point h o e.1).complete
visit_is s rows (visits.Left row cause) h o e = tt

-- ---- rounds

pub record PassLeads (s : Search) (most : ℕ) (first : List Terms) (begun : List (List ℤ)) (rows : List Terms) (rays : List (List ℤ)) (i : ℕ) : Type 0 where
  pub leads : (end : OuterView) → PassEnds s (most - i) rows rays end → PassEnds s (most - length begun) first begun end

one_fewer : (s : Search) (most i : ℕ) (rows : List Terms) (rays : List (List ℤ)) (end : OuterView) → i < most
    → PassEnds s (suc (most - (i + 1))) rows rays end → PassEnds s (most - i) rows rays end
one_fewer s most i rows rays end l e = subst (λ k. PassEnds s k rows rays end) (let k : suc (most - (i + 1)) ≡ most - i = omega arith in k) e

pub round_goes : (s : Search) (most : ℕ) (first : List Terms) (begun : List (List ℤ)) (rows : List Terms) (rays : List (List ℤ)) (i : ℕ)
    (round : Round) (hull : System) (found : Vec (List ℤ)) → i < most → IsAfterRound s rows rays round → round ≡ rounds.Goes hull found
    → PassLeads s most first begun rows rays i → PassLeads s most first begun hull.rows.items found.items (i + 1)
round_goes s most first begun rows rays i round hull found l a is p = record {
  leads = λ end e. p.leads end (one_fewer s most i rows rays end l (a (most - (i + 1)) end
      (subst (λ (r : Round). RoundEnds s (most - (i + 1)) r end) (sym is) e)));
}

pub round_ends : (s : Search) (most : ℕ) (first : List Terms) (begun : List (List ℤ)) (rows : List Terms) (rays : List (List ℤ)) (i : ℕ)
    (round : Round) (end : Outer) → i < most → IsAfterRound s rows rays round → round ≡ rounds.Ends end
    → PassLeads s most first begun rows rays i → PassEnds s (most - length begun) first begun (outer_view end)
round_ends s most first begun rows rays i round end l a is p =
    p.leads (outer_view end) (one_fewer s most i rows rays (outer_view end) l
    (a (most - (i + 1)) (outer_view end) (subst (λ (r : Round). RoundEnds s (most - (i + 1)) r (outer_view end)) (sym is) refl)))

pub last_ends : (s : Search) (most : ℕ) (first : List Terms) (begun : List (List ℤ)) (rows : List Terms) (rays : List (List ℤ)) (i : ℕ)
    (end : OuterView) → most ≤ i → PassEnds s zero rows rays end → PassLeads s most first begun rows rays i
    → PassEnds s (most - length begun) first begun end
last_ends s most first begun rows rays i end l e p = p.leads end (subst (λ k. PassEnds s k rows rays end) (let k : 0 ≡ most - i = omega arith in k) e)

-- a round by the result of its visit
pub visited : (s : Search) (rows : List Terms) (rays : List (List ℤ)) (v u : Visit) (round : Round) → v ≡ u
    → VisitEnds s.problem s.limits.effort rows (visit_view v)
    → ((more : ℕ) (end : OuterView) → RoundEnds s more round end
    → AfterVisit (λ values end. (h : HullView) × NextHull s rows values h
    × AfterHull (λ next end. PassEnds s more next (rays ++ values ∷ []) end) h end) rows rays (visit_view u) end)
    → IsAfterRound s rows rays round
visited s rows rays v u round is e f = λ more end r. (
  visit_view v,
  e,
  subst (λ (w : Visit). AfterVisit (λ values end. (h : HullView) × NextHull s rows values h
      × AfterHull (λ next end. PassEnds s more next (rays ++ values ∷ []) end) h end) rows rays (visit_view w) end) (sym is) (f more end r),
)

pub visited_last : (s : Search) (rows : List Terms) (rays : List (List ℤ)) (v u : Visit) (end : OuterView) → v ≡ u
    → VisitEnds s.problem s.limits.effort rows (visit_view v)
    → AfterVisit (λ values end. end ≡ Undecided Rays) rows rays (visit_view u) end → PassEnds s zero rows rays end
visited_last s rows rays v u end is e a = (
  visit_view v,
  e,
  subst (λ (w : Visit). AfterVisit (λ values end. end ≡ Undecided Rays) rows rays
      (visit_view w) end) (sym is) a,
)

-- adding a point, by its effect on the hull
pub with_hull : (s : Search) (rows : List Terms) (rays : List (List ℤ)) (point : List ℤ) (n m : Next) (round : Round) → n ≡ m
    → NextHull s rows point (next_view n)
    → ((more : ℕ) (end : OuterView) → RoundEnds s more round end
    → AfterHull (λ next end. PassEnds s more next (rays ++ point ∷ []) end) (next_view m) end) → IsWithPoint s rows rays point round
with_hull s rows rays point n m round is e f = λ more end r. (
  next_view n,
  e,
  subst
      (λ (w : Next). AfterHull (λ next end. PassEnds s more next (rays ++ point ∷ []) end) (next_view w) end) (sym is) (f more end r),
)

-- and a pass by the hull of the rays that it begins with
pub pass_by : (s : Search) (rays : List (List ℤ)) (n m : Next) (end : OuterView) → n ≡ m → HullEnds s (first_rows s.kept) rays (next_view n)
    → AfterHull (λ rows end. PassEnds s (s.limits.rays - length rays) rows rays end) (next_view m) end → PassWithEnds s rays end
pass_by s rays n m end is e a = (
  next_view n,
  e,
  subst (λ (w : Next). AfterHull
      (λ rows end. PassEnds s (s.limits.rays - length rays) rows rays end) (next_view w) end) (sym is) a,
)

pub refuted_round : {E : Type 0} (s : Search) (rows : List Terms) (rays : List (List ℤ)) (v : Visit) (point : Point) (r : Result Round E)
    → v ≡ visits.Refuted point → VisitEnds s.problem s.limits.effort rows (visit_view v)
    → IfOk r (IsWithPoint s rows rays point) → IfOk r (IsAfterRound s rows rays)
refuted_round s rows rays v point (Err x) is e p = tt
refuted_round s rows rays v point (Ok round) is e p = visited s rows rays v (visits.Refuted point) round is e p

pub hull_pass : {E : Type 0} (s : Search) (rays : List (List ℤ)) (n : Next) (hull : System) (r : Result Outer E) → n ≡ nexts.Hull hull
    → HullEnds s (first_rows s.kept) rays (next_view n)
    → IfOk r (λ o. PassEnds s (s.limits.rays - length rays) hull.rows.items rays (outer_view o)) → IfOk r (λ o. PassWithEnds s rays (outer_view o))
hull_pass s rays n hull (Err x) is e p = tt
hull_pass s rays n hull (Ok o) is e p = pass_by s rays n (nexts.Hull hull) (outer_view o) is e p

pub last_result : {E : Type 0} (s : Search) (most : ℕ) (first : List Terms) (begun : List (List ℤ)) (rows : List Terms)
    (rays : List (List ℤ)) (i : ℕ) (r : Result Outer E) → most ≤ i → IfOk r (λ o. PassEnds s zero rows rays (outer_view o))
    → PassLeads s most first begun rows rays i → IfOk r (λ o. PassEnds s (most - length begun) first begun (outer_view o))
last_result s most first begun rows rays i (Err x) l e p = tt
last_result s most first begun rows rays i (Ok o) l e p = last_ends s most first begun rows rays i (outer_view o) l e p

pub round_first : (s : Search) (most : ℕ) (rows : List Terms) (rays : List (List ℤ)) (i : ℕ) → i ≡ length rays → PassLeads s most rows rays rows rays i
round_first s most rows rays i is = record { leads = λ end e. subst (λ k. PassEnds s (most - k) rows rays end) is e }

-- rounds keep the requirements of functions
pub round_kept : (s : Search) (round : Round) (hull : System) (found : Vec (List ℤ)) → round ≡ rounds.Goes hull found → IsRound s round
    → IsHullSystem s hull × AreOfSpace s found.items
round_kept s round hull found is r = subst (λ (x : Round). IsRound s x) is r

pub second_result : {E : Type 0} (s : Search) (rows : List Terms) (rays found : List (List ℤ)) (r : Result Outer E)
    → found ≡ extreme_rays s.kept rows rays → AllFit rows rays → IfOk r (λ o. PassWithEnds s found (outer_view o))
    → IfOk r (λ o. ((¬ (AllFit rows rays)) × (outer_view o ≡ Undecided Width))
    ⊎ (AllFit rows rays × PassWithEnds s (extreme_rays s.kept rows rays) (outer_view o)))
second_result s rows rays found (Err x) is fit e = tt
second_result s rows rays found (Ok o) is fit e = inr (fit, subst (λ (rs : List (List ℤ)). PassWithEnds s rs (outer_view o)) is e)

pub second_wide : (rows slice : List Terms) (rays points : List (List ℤ)) → slice ≡ rows → points ≡ rays → ¬ (AllFit slice points) → ¬ (AllFit rows rays)
second_wide rows slice rays points e f n a = n (subst (λ (rs : List Terms). AllFit rs points) (sym e)
    (subst (λ (ps : List (List ℤ)). AllFit rows ps) (sym f) a))
