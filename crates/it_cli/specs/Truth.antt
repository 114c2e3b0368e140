-- What it means that a reply in mode `copy`, `best` or `sharing` is true, by the meaning of the file. Nothing here speaks of certificates, of
-- runs or of which reply is due.
use Rattle.std.specs.Prelude.{ℕ, ◌+◌, ◌<◌, ℤ, pos, ◌≤ℤ◌, ◌≡◌, List, [], ◌∷◌, length, Some, None}
use Rattle.it_space.specs.Answers.{AnswerView}
use Rattle.it_space.specs.Answers.AnswerView.{Yes}
use Rattle.it_syntax.specs.Meaning.{RelationView, Holds}
use Rattle.it_question.specs.declared.sizes.FileLimits.{FileLimits}
use Rattle.it_question.specs.QuestionLimits.{most_lines}
use Rattle.it_question.specs.Questions.{BodyView, VerbView, Prove}
use Rattle.it_copy.specs.declared.types.CopyFault.TheVariants.{Memory}
use Rattle.it_copy.specs.CopyLines.{CopyView}
use Rattle.it_copy.specs.Extensions.{IsExtension, IsMisfit}
use Rattle.it_copy.specs.Points.{HasCopies}
use Rattle.it_sharing.specs.Sharings.{SharingView, maximal_count, minimal_count}
use Rattle.it_sharing.specs.Truth.{HoldsWherePerfect, IsTrueOfSharing}
use Rattle.it_answer.specs.Truth.{IsTrueAnswer}
use Rattle.it_factor.specs.Replies.{ReplyView, Found, Other}
use Rattle.it_factor.specs.Truth.{IsTrueReply}
use Rattle.it_ratio.specs.Truth.{IsTrueBest, asked_by, factor_form}
use Rattle.it_cli.specs.BestReplies.{BestReply, IsAskedWith, IsToldMisfit}
use Rattle.it_cli.specs.Copies.{CopyQuestion, CopyReply, Misfit, Extended}
use Rattle.it_cli.specs.SharingReplies.{SharingReply, Many, Answered, Factored}

-- ---- of a question with copies

-- A yes is true where the question's own relation holds at every polymatroid and rates that have such copies, as question e says;
-- any other answer where it is true of e.
abbrev pub IsTrueWithCopies : BodyView → BodyView → VerbView → AnswerView → Type 0
IsTrueWithCopies q e (Prove r) (Yes ws) = (p : ℕ → ℤ) → HasCopies q e p → Holds (length q.names.variables) p r
IsTrueWithCopies q e verb answer = IsTrueAnswer e answer

-- the reason is one why the question can't have the copies; or this is the question with them, and the answer is true
abbrev pub IsTrueCopy : FileLimits → CopyQuestion → CopyReply → Type 0
IsTrueCopy limits x (Misfit fault) = (fault ≡ Memory → ⊥) × IsMisfit limits x.question.body x.copies fault
IsTrueCopy limits x (Extended e answer) = IsExtension limits x.question.body x.copies e
    × IsTrueWithCopies x.question.body e x.question.body.verb answer

-- ---- of a question in mode `best`

-- The factor num / den holds: num times the left side of the question's own relation is at least den times the right one at every
-- polymatroid and rates that have such copies, as question e says.
abbrev pub HoldsWithCopies : BodyView → BodyView → RelationView → ℤ → ℤ → Type 0
HoldsWithCopies q e r num den = (p : ℕ → ℤ) → HasCopies q e p → pos 0 ≤ℤ factor_form q r num den p

-- The reply is true of the question without copies; with them it is true of the factors that hold for the question's own relation wherever
-- there are such copies, or it asks about none.
abbrev pub IsTrueReplyWith : BodyView → List CopyView → BodyView → ReplyView → Type 0
IsTrueReplyWith q [] e reply = IsTrueReply q reply
IsTrueReplyWith q (c ∷ cs) e (Found best) = (r : RelationView) × (asked_by q.verb ≡ Some r) × IsTrueBest (HoldsWithCopies q e r) best
IsTrueReplyWith q (c ∷ cs) e Other = asked_by q.verb ≡ None

-- the reason is one why the question can't have the copies; or this is the question that is asked, and what is told is true
abbrev pub IsTrueBestReply : FileLimits → CopyQuestion → BestReply → Type 0
IsTrueBestReply limits x (Misfit fault) = IsToldMisfit limits x fault
IsTrueBestReply limits x (Extended e reply) = IsAskedWith limits x.question.body x.copies e
    × IsTrueReplyWith x.question.body x.copies e reply

-- ---- of a sharing file

-- the sets are too many; or the answer is true; or what is found is true of the factors
abbrev pub IsTrueSharing : SharingView → SharingReply → Type 0
IsTrueSharing x Many = most_lines < minimal_count x + maximal_count x
IsTrueSharing x (Answered answer) = IsTrueOfSharing x answer
IsTrueSharing x (Factored (Found best)) = IsTrueBest (HoldsWherePerfect x) best
IsTrueSharing x (Factored Other) = ⊥
