-- Where the defined run alone is made a search has one end.
use Rattle.std.proofs.Common.{◌≡◌, inl, inr, ℕ, zero, suc, ◌-◌, ◌^◌, ℤ, List, [], ◌∷◌, ◌++◌, length, refl, sym, ap, subst, ◌∙◌}
use Rattle.it_space.specs.Answers.{CertificateView}
use Rattle.it_problems.specs.Problems.{ProblemView}
use Rattle.it_space.specs.Rows.{Terms}
use Rattle.it_eliminate.specs.Elimination.{EliminatedView}
use Rattle.it_eliminate.specs.Elimination as elimination
use Rattle.it_prove.specs.ProofViews as proofs
use Rattle.it_prove.specs.ProofViews.{ProofView, EndsWith, AreProofsOf}
use Rattle.it_prove.specs.declared.types.Effort.{Effort}
use Rattle.it_prove.specs.declared.types.Runs.TheVariants.{Defined}
use Rattle.it_prove.proofs.ProofLemmas.{one_outcome}
use Rattle.it_redundant.specs.Reduction.{kept_rows}
use Rattle.it_redundant.proofs.ReductionLemmas.{one_reduction}
use Rattle.it_hull.specs.Hulls.{first_rows}
use Rattle.it_hull.proofs.RayLemmas.{one_ray_end}
use Rattle.it_outer.specs.Extremes.{extreme_rays}
use Rattle.it_hull.specs.Constants.{constants}
use Rattle.it_outer.specs.Outer.{Search, OuterView, Bounds, Undecided, Rays}
use Rattle.it_outer.specs.Search.{VisitView, Proved, Refuted, Left, IsFirstWith, VisitEnds, HullView, Hull, TooMany, TooWide, AfterStep, NextHull, AfterHull, AfterVisit, PassEnds, AfterRay, HullEnds, PassWithEnds, SecondEnds}
use Rattle.it_outer.specs.Theorems.{OneSearchEnd}

-- ---- a visit row by row

-- the result of a visit with the certificate of a further row in front
abbrev with_certificate : CertificateView → VisitView → VisitView
with_certificate w (Proved ws) = Proved (w ∷ ws)
with_certificate w (Refuted values) = Refuted values
with_certificate w (Left row cause) = Left row cause

abbrev AfterRow : (VisitView → Type 0) → Terms → ProofView → VisitView → Type 0
AfterRow later row (proofs.Yes w) v = (u : VisitView) × later u × (v ≡ with_certificate w u)
AfterRow later row (proofs.No values) v = v ≡ Refuted values
AfterRow later row (proofs.Undecided cause) v = v ≡ Left row cause

abbrev Walks : ProblemView → Effort → List Terms → VisitView → Type 0
Walks q effort [] v = v ≡ Proved []
Walks q effort (row ∷ rows) v = (o : ProofView) × EndsWith q row effort o × AfterRow (λ u. Walks q effort rows u) row o v

-- the outcome of a row ends a visit so
abbrev Stops : Terms → ProofView → VisitView → Type 0
Stops row (proofs.Yes w) v = ⊥
Stops row (proofs.No values) v = v ≡ Refuted values
Stops row (proofs.Undecided cause) v = v ≡ Left row cause

stays : (row : Terms) (o : ProofView) (v : VisitView) (w : CertificateView) → Stops row o v → v ≡ with_certificate w v
stays row (proofs.Yes x) v w e = absurd e
stays row (proofs.No values) v w e = e ∙ ap (with_certificate w) (sym e)
stays row (proofs.Undecided cause) v w e = e ∙ ap (with_certificate w) (sym e)

module _ (q : ProblemView) (effort : Effort) where
  proved_walks : (rows : List Terms) (ws : List CertificateView) → AreProofsOf q effort rows ws → Walks q effort rows (Proved ws)
  proved_walks [] [] z = refl
  proved_walks [] (w ∷ ws) z = absurd z
  proved_walks (row ∷ rows) [] z = absurd z
  proved_walks (row ∷ rows) (w ∷ ws) z = (proofs.Yes w, z.0, (Proved ws, proved_walks rows ws z.1, refl))

  stopped_walks : (before after : List Terms) (row : Terms) (o : ProofView) (v : VisitView) (ws : List CertificateView)
      → AreProofsOf q effort before ws → EndsWith q row effort o → Stops row o v → Walks q effort (before ++ row ∷ after) v
  stopped_walks [] after row (proofs.Yes w) v ws z ends e = absurd e
  stopped_walks [] after row (proofs.No values) v ws z ends e = (proofs.No values, ends, e)
  stopped_walks [] after row (proofs.Undecided cause) v ws z ends e = (proofs.Undecided cause, ends, e)
  stopped_walks (b ∷ before) after row o v [] z ends e = absurd z
  stopped_walks (b ∷ before) after row o v (w ∷ ws) z ends e = (proofs.Yes w, z.0, (v, stopped_walks before after row o v ws z.1 ends e, stays row o v w e))

  first_walks : (rows : List Terms) (row : Terms) (o : ProofView) (v : VisitView) → IsFirstWith q effort rows row o → Stops row o v → Walks q effort rows v
  first_walks rows row o v f e = subst (λ (rs : List Terms). Walks q effort rs v) (sym f.rows_are)
      (stopped_walks f.before f.after row o v f.ws f.proved f.ends e)

  walks : (rows : List Terms) (v : VisitView) → VisitEnds q effort rows v → Walks q effort rows v
  walks rows (Proved ws) e = proved_walks rows ws e
  walks rows (Refuted values) e = first_walks rows e.0 (proofs.No values) (Refuted values) e.1 refl
  walks rows (Left row cause) e = first_walks rows row (proofs.Undecided cause) (Left row cause) e refl

  module _ (defined : effort.runs ≡ Defined) where
    one_walk : (rows : List Terms) (v u : VisitView) → Walks q effort rows v → Walks q effort rows u → v ≡ u
    one_walk [] v u e f = e ∙ sym f
    one_walk (row ∷ rows) v u (o, ends, a) (p, other, b) =
        by_outcome o a (subst (λ (x : ProofView). AfterRow (λ u. Walks q effort rows u) row x u)
        (sym (one_outcome q row effort o p defined ends other)) b) (one_walk rows)
      where
        by_outcome : (o : ProofView) → AfterRow (λ u. Walks q effort rows u) row o v → AfterRow (λ u. Walks q effort rows u) row o u
            → ((v u : VisitView) → Walks q effort rows v → Walks q effort rows u → v ≡ u) → v ≡ u
        by_outcome (proofs.Yes w) (x, l, e) (y, m, f) ih = e ∙ ap (with_certificate w) (ih x y l m) ∙ sym f
        by_outcome (proofs.No values) e f ih = e ∙ sym f
        by_outcome (proofs.Undecided cause) e f ih = e ∙ sym f

    one_visit : (rows : List Terms) (v u : VisitView) → VisitEnds q effort rows v → VisitEnds q effort rows u → v ≡ u
    one_visit rows v u e f = one_walk rows v u (walks rows v e) (walks rows u f)

-- ---- a further ray, and passes

module _ (s : Search) (defined : s.limits.effort.runs ≡ Defined) where
  one_next : (rows : List Terms) (ray : List ℤ) (h k : HullView) → NextHull s rows ray h → NextHull s rows ray k → h ≡ k
  one_next rows ray h k (step, e, a) (other, f, b) =
      by_step step a (subst (λ (x : EliminatedView). AfterStep s x k) (sym
      (one_ray_end (2 ^ s.problem.space.variables) s.limits.rows ray s.spare rows step other e f)) b)
    where
      by_step : (step : EliminatedView) → AfterStep s step h → AfterStep s step k → h ≡ k
      by_step (elimination.Region next) (kept, dropped, red, is) (others, gone, more, so) =
          is ∙ ap (λ ks. Hull (kept_rows ks)) (one_reduction (constants s.problem.space) s.limits.effort [] next kept others dropped gone
          defined red more).0 ∙ sym so
      by_step (elimination.Rows rate) e f = e ∙ sym f
      by_step (elimination.Wide rate) e f = e ∙ sym f

  by_hull : (h k : HullView) (later : List Terms → OuterView → Type 0) (end other : OuterView) → h ≡ k
      → ((rows : List Terms) → later rows end → later rows other → end ≡ other)
      → AfterHull later h end → AfterHull later k other → end ≡ other
  by_hull h k later end other same ih a b = by_cases h a (subst (λ (x : HullView). AfterHull later x other) (sym same) b)
    where
      by_cases : (h : HullView) → AfterHull later h end → AfterHull later h other → end ≡ other
      by_cases (Hull rows) a b = ih rows a b
      by_cases TooMany a b = a ∙ sym b
      by_cases TooWide a b = a ∙ sym b

  by_visit : (rows : List Terms) (rays : List (List ℤ)) (later : List ℤ → OuterView → Type 0) (v u : VisitView) (end other : OuterView)
      → VisitEnds s.problem s.limits.effort rows v → VisitEnds s.problem s.limits.effort rows u
      → ((values : List ℤ) → later values end → later values other → end ≡ other) → AfterVisit later rows rays v end
      → AfterVisit later rows rays u other → end ≡ other
  by_visit rows rays later v u end other e f ih a b =
      by_cases v a (subst (λ (x : VisitView). AfterVisit later rows rays x other) (sym (one_visit s.problem s.limits.effort defined rows v u e f)) b)
    where
      by_cases : (v : VisitView) → AfterVisit later rows rays v end → AfterVisit later rows rays v other → end ≡ other
      by_cases (Proved ws) a b = a ∙ sym b
      by_cases (Refuted values) a b = ih values a b
      by_cases (Left row cause) a b = a ∙ sym b

  one_pass : (more : ℕ) (rows : List Terms) (rays : List (List ℤ)) (end other : OuterView) → PassEnds s more rows rays end
      → PassEnds s more rows rays other → end ≡ other
  one_pass zero rows rays end other (v, e, a) (u, f, b) = by_visit rows rays (λ values end. end ≡ Undecided Rays) v u end other e f
      (λ values x y. x ∙ sym y) a b
  one_pass (suc more) rows rays end other (v, e, a) (u, f, b) =
      by_visit rows rays (λ values end. (h : HullView) × NextHull s rows values h
      × AfterHull (λ next end. PassEnds s more next (rays ++ values ∷ []) end) h end) v u end other e f
      (λ values x y. by_hull x.0 y.0 (λ next end. PassEnds s more next (rays ++ values ∷ []) end) end other
      (one_next rows values x.0 y.0 x.1 y.1) (λ next. one_pass more next (rays ++ values ∷ []) end other) x.2 y.2) a b

  one_hull : (rays : List (List ℤ)) (rows : List Terms) (h k : HullView) → HullEnds s rows rays h → HullEnds s rows rays k → h ≡ k
  one_hull [] rows h k e f = e ∙ sym f
  one_hull (ray ∷ rays) rows h k (m, e, a) (n, f, b) = by_cases m a (subst
      (λ (x : HullView). AfterRay (λ next end. HullEnds s next rays end) x k) (sym (one_next rows ray m n e f)) b) (one_hull rays)
    where
      by_cases : (m : HullView) → AfterRay (λ next end. HullEnds s next rays end) m h → AfterRay (λ next end. HullEnds s next rays end) m k
          → ((rows : List Terms) (h k : HullView) → HullEnds s rows rays h → HullEnds s rows rays k → h ≡ k) → h ≡ k
      by_cases (Hull next) a b ih = ih next h k a b
      by_cases TooMany a b ih = a ∙ sym b
      by_cases TooWide a b ih = a ∙ sym b

  one_pass_with : (rays : List (List ℤ)) (end other : OuterView) → PassWithEnds s rays end → PassWithEnds s rays other → end ≡ other
  one_pass_with rays end other (h, e, a) (k, f, b) =
      by_hull h k (λ rows end. PassEnds s (s.limits.rays - length rays) rows rays end) end other (one_hull rays (first_rows s.kept) h k e f)
      (λ rows. one_pass (s.limits.rays - length rays) rows rays end other) a b

  one_second : (first end other : OuterView) → SecondEnds s first end → SecondEnds s first other → end ≡ other
  one_second (Bounds rows ws rays) end other (inl a) (inl b) = a.1 ∙ sym b.1
  one_second (Bounds rows ws rays) end other (inl a) (inr b) = absurd (a.0 b.0)
  one_second (Bounds rows ws rays) end other (inr a) (inl b) = absurd (b.0 a.0)
  one_second (Bounds rows ws rays) end other (inr a) (inr b) = one_pass_with (extreme_rays s.kept rows rays) end other a.1 b.1
  one_second (Undecided cause) end other a b = a ∙ sym b

pub one_search_end : OneSearchEnd
one_search_end s end other defined (first, p, e) (second, r, f) =
    one_second s defined first end other e (subst (λ (x : OuterView). SecondEnds s x other) (sym (one_pass_with s defined [] first second p r)) f)
