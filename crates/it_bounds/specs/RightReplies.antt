-- Right replies to questions in mode `outer`: they show what they say, by the meaning of the question's text alone, and they are due: the
-- search, and a reduction for the marks, end with them. And what follows.
use Rattle.std.specs.Prelude.{◌≡◌, ℕ, ◌≤◌, ℤ, List, [], ◌∷◌, length, map, All, Option, Some, None}
use Rattle.it_space.specs.declared.answers.Cause.TheVariants.{Pivots}
use Rattle.it_space.specs.declared.answers.Mark.{Mark}
use Rattle.it_space.specs.declared.answers.Mark.TheVariants as marks
use Rattle.it_space.specs.declared.spaces.Space.{Space}
use Rattle.it_space.specs.Answers.{CertificateView}
use Rattle.it_space.specs.Rows.{Terms, value}
use Rattle.it_question.specs.declared.sizes.FileLimits.{FileLimits}
use Rattle.it_question.specs.Files.{IsFileWithin}
use Rattle.it_question.specs.Questions.{BodyView, QuestionView}
use Rattle.it_question.specs.QuestionLimits.{usual}
use Rattle.it_question.specs.TableSizes.{HasTableWithin}
use Rattle.it_demand.specs.QuestionSpaces.{space_of}
use Rattle.it_canon.specs.QuestionDemands.{problem_of}
use Rattle.it_closure.specs.Sizes.{most_variables_in_reach}
use Rattle.it_prove.specs.ProofViews.{IsUnbound}
use Rattle.it_prove.specs.declared.types.Effort.{Effort}
use Rattle.it_prove.specs.declared.types.Runs.TheVariants.{Defined}
use Rattle.it_redundant.specs.Reduction.{NeedView, Reduces}
use Rattle.it_hull.specs.Hulls.{IsHull}
use Rattle.it_outer.specs.declared.types.Limits.{Limits}
use Rattle.it_hull.specs.Constants.{constants}
use Rattle.it_outer.specs.Outer.{OuterView, CauseView, Run, limits_under, search_without}
use Rattle.it_outer.specs.Outer as outers
use Rattle.it_outer.specs.Search.{SearchEnds}
use Rattle.it_answer.specs.DueEliminations.{marked_rows}
use Rattle.it_answer.specs.Forms.{CertifyAll}
use Rattle.it_answer.specs.Truth.{region_rows}
use Rattle.it_bounds.specs.Replies.{ReplyView, Bounded, Undecided, Size, Other}
use Rattle.it_rates.specs.Asked.{eliminated_by, kept_rates, under_all_lines}
use Rattle.it_rates.specs.Bounds.{IsTrueRay}
use Rattle.it_bounds.specs.Truth.{IsTrueReply, MarkedRowsAreNeeded}

-- ---- by the text

-- The evidence for bounds: a certificate of each row over the elemental inequalities and what all lines demand; rays at which all lines
-- are true; the rows are the hull of the rays' rates; and no row that is marked as needed follows from the others.
pub record ShowsBounds (q : BodyView) (gone : List ℕ) (rows : List (Mark × Terms)) (proofs : List CertificateView) (rays : List (List ℤ)) : Type 0 where
  pub certified : CertifyAll (under_all_lines q) (map value (region_rows rows)) proofs
  pub attained : All (IsTrueRay q) rays
  pub hull : IsHull (kept_rates q gone) (region_rows rows) rays
  pub needed : MarkedRowsAreNeeded rows

-- a reply shows what it says: bounds their evidence, where the question asks to eliminate rates; or it asks for no elimination
abbrev pub ShowsReply : BodyView → ReplyView → Type 0
ShowsReply q (Bounded rows proofs rays) = (gone : List ℕ) × (eliminated_by q.verb ≡ Some gone) × ShowsBounds q gone rows proofs rays
ShowsReply q (Undecided cause) = Unit {0}
ShowsReply q Size = Unit {0}
ShowsReply q Other = eliminated_by q.verb ≡ None

-- ---- by the runs

-- the marks of rows after a reduction: by the needs of the rows that it keeps; where it drops one after all, all are unsettled
abbrev pub MarkedAfter : List (Mark × Terms) → List (Terms × NeedView) → List (Terms × CertificateView) → Type 0
MarkedAfter rows kept [] = rows ≡ marked_rows kept
MarkedAfter rows kept (d ∷ dropped) = All (λ row. row.0 ≡ marks.Unsettled) rows

-- the marks are those of a reduction of the rows where all variables are constant, so that rates alone count
abbrev pub MarksEnd : Space → Effort → List (Mark × Terms) → Type 0
MarksEnd s effort rows = (kept : List (Terms × NeedView)) × (dropped : List (Terms × CertificateView))
    × Reduces (constants s) effort [] (region_rows rows) kept dropped × MarkedAfter rows kept dropped

-- the search for the bounds of the problem that all lines pose ends with `end`
abbrev pub Ends : Limits → BodyView → List ℕ → OuterView → Type 0
Ends limits q gone end = SearchEnds (search_without (problem_of (under_all_lines q)) gone limits) end

-- Where a question asks to eliminate rates, the reply is that the table of the problem that all lines pose is too large for a file with
-- these limits, exactly where it is; else it is what the search ends with. To any other question it is `Other`.
abbrev pub IsDue : FileLimits → Limits → BodyView → Option (List ℕ) → ReplyView → Type 0
IsDue file limits q (Some gone) (Bounded rows proofs rays) = HasTableWithin file (under_all_lines q)
    × Ends limits q gone (outers.Bounds (region_rows rows) proofs rays) × MarksEnd (space_of q.names) limits.effort rows
IsDue file limits q (Some gone) (Undecided cause) = HasTableWithin file (under_all_lines q) × Ends limits q gone (outers.Undecided cause)
IsDue file limits q (Some gone) Size = ¬ (HasTableWithin file (under_all_lines q))
IsDue file limits q None Other = Unit {0}
IsDue file limits q asked reply = ⊥

-- ---- right replies

-- a reply to a question that shows what it says, and is due with these limits of its file and of the search
pub record IsDueReply (file : FileLimits) (limits : Limits) (q : BodyView) (reply : ReplyView) : Type 0 where
  pub shows : ShowsReply q reply
  pub due : IsDue file limits q (eliminated_by q.verb) reply

-- the limits for a question: quick runs alone decide rows where the defined run about the problem that all lines pose is out of reach
abbrev pub limits_for : BodyView → Limits → Limits
limits_for q limits = limits_under (problem_of (under_all_lines q)) limits

-- a right reply to a question within these limits
abbrev pub IsRightReply : FileLimits → Limits → BodyView → ReplyView → Type 0
IsRightReply file limits q reply = IsDueReply file (limits_for q limits) q reply

-- ---- what follows

-- where the defined run alone is asked for, a question of a file with the usual limits, of so few variables that the run is in reach, has
-- one right reply
abbrev pub OneRightReply : Type 0
OneRightReply = (limits : Limits) (q : BodyView) (a b : ReplyView) → limits.effort.runs ≡ Defined → length q.names.variables ≤ most_variables_in_reach
    → IsRightReply usual limits q a → IsRightReply usual limits q b → a ≡ b

-- where the defined run is made without a budget, no reply to such a question is undecided for lack of steps
abbrev pub NeverOutOfSteps : Type 0
NeverOutOfSteps = (limits : Limits) (q : BodyView) (row : Terms) (k : ℕ) → IsUnbound limits.effort → length q.names.variables ≤ most_variables_in_reach
    → IsRightReply usual limits q (Undecided (Run row (Pivots k))) → ⊥

-- what a reply to a question of a file shows is true
abbrev pub WhatIsShownIsTrue : Type 0
WhatIsShownIsTrue = (limits : FileLimits) (bytes : List ℕ) (qs : List QuestionView) → IsFileWithin limits bytes qs
    → All (λ q. (reply : ReplyView) → ShowsReply q.body reply → IsTrueReply q.body reply) qs
