-- Reduction of a list of rows: each in turn is dropped if it follows from the givens and all other rows still in the list, else kept.
use Rattle.std.specs.Prelude.{◌≡◌, ◌≤◌, ℤ, List, [], ◌∷◌, ◌++◌, length, map}
use Rattle.it_space.specs.declared.answers.Cause.{Cause}
use Rattle.it_space.specs.Answers.{CertificateView, certificate_view}
use Rattle.it_problems.specs.declared.problems.System.{System}
use Rattle.it_problems.specs.Problems.{ProblemView, IsProblem, IsSystem}
use Rattle.it_space.specs.Rows.{Terms, most_system_rows}
use Rattle.it_eliminate.specs.RowLines.{with_rows}
use Rattle.it_prove.specs.ProofViews.{ProofView, Yes, No, Undecided, EndsWith}
use Rattle.it_prove.specs.declared.types.Effort.{Effort}
use Rattle.it_redundant.specs.declared.types.Need.{Need}
use Rattle.it_redundant.specs.declared.types.Need.TheVariants as needs
use Rattle.it_redundant.specs.declared.types.Reduced.{Reduced}

-- a system over the space of some givens, which are few enough that they and 65,535 rows after them are a problem
pub record IsSystemUnder (q : ProblemView) (s : System) : Type 0 where
  pub system : IsSystem s
  pub givens : IsProblem q
  pub space : s.space ≡ q.space
  pub few_givens : length q.constraints ≤ most_system_rows

-- why a row is kept: it is violated at a point at which the others hold, or the run about it has no end within its bounds
pub data NeedView : Type 0 where
  Needed : (values : List ℤ) → NeedView
  Unsettled : (cause : Cause) → NeedView

-- a need as contracts see it
abbrev pub need_view : Need → NeedView
need_view (needs.Needed point) = Needed point
need_view (needs.Unsettled cause) = Unsettled cause

-- the rows that are kept, each with its need, as contracts see them
abbrev pub kept_view : Reduced → List (Terms × NeedView)
kept_view r = map (λ k. (k.0, need_view k.1)) r.kept.items

-- the rows that were dropped, each with its certificate, as contracts see them
abbrev pub dropped_view : Reduced → List (Terms × CertificateView)
dropped_view r = map (λ d. (d.0, certificate_view d.1)) r.dropped.items

-- what a row adds to the kept rows: nothing if it is proved, else itself with its need
abbrev pub kept_by : Terms → ProofView → List (Terms × NeedView)
kept_by row (Yes w) = []
kept_by row (No values) = (row, Needed values) ∷ []
kept_by row (Undecided cause) = (row, Unsettled cause) ∷ []

-- what a row adds to the dropped rows: itself with its certificate if it is proved, else nothing
abbrev pub dropped_by : Terms → ProofView → List (Terms × CertificateView)
dropped_by row (Yes w) = (row, w) ∷ []
dropped_by row proof = []

-- the rows that are kept, without their needs
abbrev pub kept_rows : List (Terms × NeedView) → List Terms
kept_rows kept = map (λ k. k.0) kept

-- After the rows `before`, which are kept, the visits to the remaining rows keep and drop these: the run about each, under the givens,
-- the kept rows and the rows after it, has an outcome, by which the row is dropped or kept.
abbrev pub Reduces : ProblemView → Effort → List Terms → List Terms → List (Terms × NeedView) → List (Terms × CertificateView) → Type 0
Reduces givens effort before [] kept dropped = (kept ≡ []) × (dropped ≡ [])
Reduces givens effort before (row ∷ rows) kept dropped =
    (o : ProofView) × (k : List (Terms × NeedView)) × (d : List (Terms × CertificateView)) × EndsWith (with_rows givens (before ++ rows)) row effort o
    × (kept ≡ kept_by row o ++ k) × (dropped ≡ dropped_by row o ++ d) × Reduces givens effort (before ++ kept_rows (kept_by row o)) rows k d
