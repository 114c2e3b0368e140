-- Replies to questions in mode `best`, as contracts see them.
use Rattle.it_ratio.specs.BestViews.{BestView, best_view}
use Rattle.it_factor.specs.declared.types.Reply.{Reply}
use Rattle.it_factor.specs.declared.types.Reply.TheVariants as replies

-- what was found of the factors of a question `prove E >= F`, or that the question is another one
pub data ReplyView : Type 0 where
  Found : (best : BestView) → ReplyView
  Other : ReplyView

-- a reply as contracts see it
abbrev pub reply_view : Reply → ReplyView
reply_view (replies.Found best) = Found (best_view best)
reply_view replies.Other = Other
