-- What it means that a reply in mode `best` is true, by the meaning of the question's text. Nothing here speaks of certificates or of
-- runs.
use Rattle.std.specs.Prelude.{◌≡◌, Some, None}
use Rattle.it_syntax.specs.Meaning.{RelationView}
use Rattle.it_question.specs.Questions.{BodyView}
use Rattle.it_ratio.specs.Truth.{HoldsFor, IsTrueBest, asked_by}
use Rattle.it_factor.specs.Replies.{ReplyView, Found, Other}

-- the reply to the question is true: of the factors that hold for the relation that it asks about, or that it asks about none
abbrev pub IsTrueReply : BodyView → ReplyView → Type 0
IsTrueReply q (Found best) = (r : RelationView) × (asked_by q.verb ≡ Some r) × IsTrueBest (HoldsFor q r) best
IsTrueReply q Other = asked_by q.verb ≡ None
