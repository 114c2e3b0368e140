-- What is found by the rows of a relation's sides; no public clause cites it.
use Rattle.std.specs.Prelude.{Option, Some, None}
use Rattle.it_problems.specs.Problems.{ProblemView}
use Rattle.it_space.specs.Rows.{Terms, value}
use Rattle.it_syntax.specs.Meaning.{RelationView}
use Rattle.it_demand.specs.Canonical.{IsRowOf}
use Rattle.it_canon.specs.Sides.{left_form, right_form}
use Rattle.it_prove.specs.declared.types.Effort.{Effort}
use Rattle.it_ratio.specs.BestViews.{BestView}
use Rattle.it_best.specs.Factors.{IsRightBest, ground_of}
use Rattle.it_factor.specs.Replies.{ReplyView, Found, Other}
use Rattle.it_factor.specs.RightReplies.{FindsFactor}
use Rattle.it_ratio.specs.Truth.{at_least}

-- what is found about rows of both sides under a problem, and is right of these rows
pub record IsFoundByRows (p : ProblemView) (effort : Effort) (r : RelationView) (best : BestView) : Type 0 where
  pub left : Terms
  pub left_is : IsRowOf p.space (left_form p.space.variables r) left
  pub right : Terms
  pub right_is : IsRowOf p.space (right_form p.space.variables r) right
  pub ends : FindsFactor p left right effort best
  pub right_of_rows : IsRightBest (ground_of p) (value left) (value right) best

-- the reply about this relation, or about none
abbrev pub IsReplyByRows : ProblemView → Effort → Option RelationView → ReplyView → Type 0
IsReplyByRows p effort (Some r) (Found best) = IsFoundByRows p effort r best
IsReplyByRows p effort None Other = Unit {0}
IsReplyByRows p effort asked reply = ⊥

-- the reply about a relation, by its sign
abbrev pub IsRelationReply : ProblemView → Effort → RelationView → ReplyView → Type 0
IsRelationReply p effort r reply = IsReplyByRows p effort (at_least r.sign r) reply
