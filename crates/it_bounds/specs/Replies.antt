-- Replies to questions in mode `outer`, as contracts see them.
use Rattle.std.specs.Prelude.{ℤ, List, map}
use Rattle.it_space.specs.Answers.{CertificateView, certificate_view}
use Rattle.it_space.specs.declared.answers.Mark.{Mark}
use Rattle.it_space.specs.Rows.{Terms}
use Rattle.it_outer.specs.Outer.{CauseView, cause_view}
use Rattle.it_bounds.specs.declared.types.Reply.{Reply}
use Rattle.it_bounds.specs.declared.types.Reply.TheVariants as replies

-- to a question that asks to eliminate rates its outer bound: rows, each with its mark, a certificate of each, and rays; or that it is
-- undecided, and why; or that the table of its problem is too large; to each other question that it is another one
pub data ReplyView : Type 0 where
  Bounded : (rows : List (Mark × Terms)) (proofs : List CertificateView) (rays : List (List ℤ)) → ReplyView
  Undecided : (cause : CauseView) → ReplyView
  Size : ReplyView
  Other : ReplyView

-- a reply as contracts see it
abbrev pub reply_view : Reply → ReplyView
reply_view (replies.Bounded rows proofs rays) = Bounded rows.items (map certificate_view proofs.items) rays.items
reply_view (replies.Undecided cause) = Undecided (cause_view cause)
reply_view replies.Size = Size
reply_view replies.Other = Other
