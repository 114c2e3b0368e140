-- What it means that a reply in mode `outer` is true, by the meaning of the question's text. Nothing here speaks of certificates or of
-- runs.
use Rattle.std.specs.Prelude.{◌≡◌, ℕ, ℤ, neg_ℤ, pos, ◌≤ℤ◌, List, ◌∷◌, ◌++◌, Some, None}
use Rattle.it_space.specs.declared.answers.Mark.{Mark}
use Rattle.it_space.specs.declared.answers.Mark.TheVariants.{Needed}
use Rattle.it_space.specs.Rows.{Terms, value}
use Rattle.it_question.specs.Questions.{BodyView}
use Rattle.it_eliminate.specs.Projections.{IsPointOf}
use Rattle.it_rates.specs.Asked.{eliminated_by}
use Rattle.it_rates.specs.Bounds.{AreExactBounds}
use Rattle.it_answer.specs.Truth.{region_rows}
use Rattle.it_bounds.specs.Replies.{ReplyView, Bounded, Undecided, Size, Other}

-- ---- bounds

-- the row doesn't follow from the others: at some values of the rates these hold, and it is -1 or less
pub record IsNeededBeside (others : List Terms) (row : Terms) : Type 0 where
  pub rates : ℕ → ℤ
  pub others_hold : IsPointOf others rates
  pub violated : value row rates ≤ℤ neg_ℤ (pos 1)

-- no row that is marked as needed follows from the others
abbrev pub MarkedRowsAreNeeded : List (Mark × Terms) → Type 0
MarkedRowsAreNeeded rows = (before after : List (Mark × Terms)) (row : Terms) → rows ≡ before ++ (Needed, row) ∷ after
    → IsNeededBeside (region_rows before ++ region_rows after) row

-- ---- of a question

-- the reply to the question is true: bounds where they are exact and each row that is marked as needed is; `Other` where the question
-- asks to eliminate no rates; and an undecided one or one about the size always
abbrev pub IsTrueReply : BodyView → ReplyView → Type 0
IsTrueReply q (Bounded rows proofs rays) = (gone : List ℕ) × (eliminated_by q.verb ≡ Some gone) × AreExactBounds q gone (region_rows rows) rays × MarkedRowsAreNeeded rows
IsTrueReply q (Undecided cause) = Unit {0}
IsTrueReply q Size = Unit {0}
IsTrueReply q Other = eliminated_by q.verb ≡ None
