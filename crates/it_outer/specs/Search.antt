-- The definition of the search for outer bounds: while a row of the hull of the rays so far is refuted, its point is added as a ray. A
-- second pass begins with the extreme rays of the first, in order.
use Rattle.std.specs.Prelude.{◌≡◌, ◌⊎◌, ℕ, zero, suc, ◌-◌, ◌^◌, ℤ, List, [], ◌∷◌, ◌++◌, length, All}
use Rattle.it_space.specs.declared.answers.Cause.{Cause}
use Rattle.it_space.specs.Answers.{CertificateView}
use Rattle.it_problems.specs.Problems.{ProblemView}
use Rattle.it_space.specs.Rows.{Terms}
use Rattle.it_eliminate.specs.Elimination.{EliminatedView}
use Rattle.it_eliminate.specs.Elimination as elimination
use Rattle.it_prove.specs.declared.types.Effort.{Effort}
use Rattle.it_prove.specs.ProofViews as proofs
use Rattle.it_prove.specs.ProofViews.{ProofView, EndsWith, AreProofsOf}
use Rattle.it_redundant.specs.Reduction.{NeedView, Reduces, kept_rows}
use Rattle.it_hull.specs.Hulls.{first_rows}
use Rattle.it_hull.specs.Rays.{RayEnds, ValuesFit}
use Rattle.it_outer.specs.Extremes.{extreme_rays}
use Rattle.it_hull.specs.Constants.{constants}
use Rattle.it_outer.specs.Outer.{Search, OuterView, Bounds, Undecided, Run, Rows, Width, Rays}

-- ---- the rows of a hull, visited in order

-- a certificate of each row, or the first one without: a point refutes it, or the run about it has no end within its bounds
pub data VisitView : Type 0 where
  Proved : (ws : List CertificateView) → VisitView
  Refuted : (values : List ℤ) → VisitView
  Left : (row : Terms) (cause : Cause) → VisitView

-- the rows before row are proved, and the outcome about row is o
pub record IsFirstWith (q : ProblemView) (effort : Effort) (rows : List Terms) (row : Terms) (o : ProofView) : Type 0 where
  pub before : List Terms
  pub after : List Terms
  pub ws : List CertificateView
  pub rows_are : rows ≡ before ++ row ∷ after
  pub proved : AreProofsOf q effort before ws
  pub ends : EndsWith q row effort o

-- the visit of rows has this result
abbrev pub VisitEnds : ProblemView → Effort → List Terms → VisitView → Type 0
VisitEnds q effort rows (Proved ws) = AreProofsOf q effort rows ws
VisitEnds q effort rows (Refuted values) = (row : Terms) × IsFirstWith q effort rows row (proofs.No values)
VisitEnds q effort rows (Left row cause) = IsFirstWith q effort rows row (proofs.Undecided cause)

-- ---- a further ray

-- the rows of a hull, or that there are too many, or that a number of them passes the limit
pub data HullView : Type 0 where
  Hull : (rows : List Terms) → HullView
  TooMany : HullView
  TooWide : HullView

-- the rows that the step leaves are reduced under the problem in which all variables are constant
abbrev pub AfterStep : Search → EliminatedView → HullView → Type 0
AfterStep s (elimination.Region next) end = (kept : List (Terms × NeedView)) × (dropped : List (Terms × CertificateView))
    × Reduces (constants s.problem.space) s.limits.effort [] next kept dropped × (end ≡ Hull (kept_rows kept))
AfterStep s (elimination.Rows rate) end = end ≡ TooMany
AfterStep s (elimination.Wide rate) end = end ≡ TooWide

-- end is the result of adding ray to a hull's rows
abbrev pub NextHull : Search → List Terms → List ℤ → HullView → Type 0
NextHull s rows ray end = (step : EliminatedView) × RayEnds (2 ^ s.problem.space.variables) s.limits.rows ray s.spare rows step × AfterStep s step end

-- the search goes on with a hull; too many rows or a number past the limit are its end
abbrev pub AfterHull : (List Terms → OuterView → Type 0) → HullView → OuterView → Type 0
AfterHull later (Hull rows) end = later rows end
AfterHull later TooMany end = end ≡ Undecided Rows
AfterHull later TooWide end = end ≡ Undecided Width

-- ---- the passes

-- the result of a visit is the end, unless it refutes a row
abbrev pub AfterVisit : (List ℤ → OuterView → Type 0) → List Terms → List (List ℤ) → VisitView → OuterView → Type 0
AfterVisit later rows rays (Proved ws) end = end ≡ Bounds rows ws rays
AfterVisit later rows rays (Refuted values) end = later values end
AfterVisit later rows rays (Left row cause) end = end ≡ Undecided (Run row cause)

-- The pass from the rows of a hull and its rays ends with end, if it may add as many further rays as the first number says.
abbrev pub PassEnds : Search → ℕ → List Terms → List (List ℤ) → OuterView → Type 0
PassEnds s zero rows rays end = (v : VisitView) × VisitEnds s.problem s.limits.effort rows v × AfterVisit (λ values end. end ≡ Undecided Rays) rows rays v end
PassEnds s (suc more) rows rays end = (v : VisitView) × VisitEnds s.problem s.limits.effort rows v
    × AfterVisit (λ values end. (h : HullView) × NextHull s rows values h × AfterHull (λ next end. PassEnds s more next (rays ++ values ∷ []) end) h end) rows rays v end

-- if there is a hull, end is as later says for its rows
abbrev pub AfterRay : (List Terms → HullView → Type 0) → HullView → HullView → Type 0
AfterRay later (Hull rows) end = later rows end
AfterRay later TooMany end = end ≡ TooMany
AfterRay later TooWide end = end ≡ TooWide

-- end is the result of adding rays one after the other to the rows of a hull
abbrev pub HullEnds : Search → List Terms → List (List ℤ) → HullView → Type 0
HullEnds s rows [] end = end ≡ Hull rows
HullEnds s rows (ray ∷ rays) end = (h : HullView) × NextHull s rows ray h × AfterRay (λ next end. HullEnds s next rays end) h end

-- the value of each row at each ray is formed within the limit
abbrev pub AllFit : List Terms → List (List ℤ) → Type 0
AllFit rows rays = All (λ ray. ValuesFit ray rows) rays

-- the pass that begins with rays ends with end
abbrev pub PassWithEnds : Search → List (List ℤ) → OuterView → Type 0
PassWithEnds s rays end = (h : HullView) × HullEnds s (first_rows s.kept) rays h × AfterHull (λ rows end. PassEnds s (s.limits.rays - length rays) rows rays end) h end

-- the second pass ends with end, after an end of the first
abbrev pub SecondEnds : Search → OuterView → OuterView → Type 0
SecondEnds s (Bounds rows ws rays) end = ((¬ (AllFit rows rays)) × (end ≡ Undecided Width)) ⊎ (AllFit rows rays × PassWithEnds s (extreme_rays s.kept rows rays) end)
SecondEnds s (Undecided cause) end = end ≡ Undecided cause

-- the search ends with end: the first pass begins with no rays
abbrev pub SearchEnds : Search → OuterView → Type 0
SearchEnds s end = (first : OuterView) × PassWithEnds s [] first × SecondEnds s first end
