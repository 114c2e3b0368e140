-- Replies about a problem's rows; no public clause cites it.
use Rattle.std.specs.Prelude.{◌≡◌, ℕ, ◌≤◌, ℤ, List, map}
use Rattle.std.specs.Bool.{OnFalse}
use Rattle.it_space.specs.Answers.{CertificateView, certificate_view}
use Rattle.it_space.specs.declared.answers.Mark.{Mark}
use Rattle.it_space.specs.declared.spaces.Space.{Space}
use Rattle.it_problems.specs.Problems.{ProblemView}
use Rattle.it_space.specs.Rows.{Terms}
use Rattle.it_closure.specs.Sizes.{most_entries, table_size}
use Rattle.it_question.specs.declared.sizes.FileLimits.{FileLimits}
use Rattle.it_prove.specs.declared.types.Effort.{Effort}
use Rattle.it_outer.specs.declared.types.Bounds.{Bounds}
use Rattle.it_outer.specs.declared.types.Limits.{Limits}
use Rattle.it_outer.specs.Bounds.{AreBounds}
use Rattle.it_hull.specs.KeptRates.{kept_coordinates}
use Rattle.it_outer.specs.Outer.{search_without}
use Rattle.it_outer.specs.Outer as outers
use Rattle.it_outer.specs.Search.{SearchEnds}
use Rattle.it_answer.specs.Truth.{region_rows}
use Rattle.it_bounds.specs.Replies.{ReplyView, Bounded, Undecided, Size, Other}
use Rattle.it_bounds.specs.RightReplies.{MarksEnd}
use Rattle.it_bounds.specs.Truth.{MarkedRowsAreNeeded}

-- the rows, each with its mark, which is that of a reduction, and no row that is marked as needed follows from the others
pub record AreMarked (s : Space) (effort : Effort) (rows : List Terms) (marked : List (Mark × Terms)) : Type 0 where
  pub same : region_rows marked ≡ rows
  pub ends : MarksEnd s effort marked
  pub needed : MarkedRowsAreNeeded marked

-- the reply has bounds with marks
abbrev pub TellsBounds : Space → Effort → Bounds → ReplyView → Type 0
TellsBounds s effort b (Bounded rows proofs rays) = AreMarked s effort b.hull.rows.items rows × (proofs ≡ map certificate_view b.proofs.items) × (rays ≡ b.rays.items)
TellsBounds s effort b reply = ⊥

-- the problem's table isn't too large for a file with these limits
abbrev pub IsTableWithin : FileLimits → ProblemView → Type 0
IsTableWithin file p = OnFalse file.large_tables (table_size p ≤ most_entries)

-- bounds of a problem without some rates, with marks
pub record AreMarkedBounds (file : FileLimits) (limits : Limits) (p : ProblemView) (gone : List ℕ) (rows : List (Mark × Terms)) (proofs : List CertificateView) (rays : List (List ℤ)) : Type 0 where
  pub within : IsTableWithin file p
  pub ends : SearchEnds (search_without p gone limits) (outers.Bounds (region_rows rows) proofs rays)
  pub bounds : AreBounds p (kept_coordinates p.space gone) (region_rows rows) proofs rays
  pub marks : MarksEnd p.space limits.effort rows
  pub needed : MarkedRowsAreNeeded rows

-- the reply about a problem without some rates
abbrev pub IsReplyByRows : FileLimits → Limits → ProblemView → List ℕ → ReplyView → Type 0
IsReplyByRows file limits p gone (Bounded rows proofs rays) = AreMarkedBounds file limits p gone rows proofs rays
IsReplyByRows file limits p gone (Undecided cause) = IsTableWithin file p × SearchEnds (search_without p gone limits) (outers.Undecided cause)
IsReplyByRows file limits p gone Size = ¬ (IsTableWithin file p)
IsReplyByRows file limits p gone Other = ⊥
