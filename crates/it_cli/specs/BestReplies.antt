-- What mode `best` replies to a question: what is found of the factors that it asks for, with the copies that the file's head asks for, if
-- there are any, or why it can't have them.
use Rattle.std.specs.Prelude.{◌≡◌, ℕ, List, [], ◌∷◌, ◌++◌, Bool, true, false, codes}
use Rattle.serde_json.specs.Data.{Members}
use Rattle.it_prove.specs.declared.types.Effort.{Effort}
use Rattle.it_question.specs.declared.sizes.FileLimits.{FileLimits}
use Rattle.it_question.specs.Questions.{BodyView}
use Rattle.it_canon.specs.QuestionDemands.{question_origins}
use Rattle.it_copy.specs.declared.types.CopyFault.{CopyFault}
use Rattle.it_copy.specs.declared.types.CopyFault.TheVariants.{Memory}
use Rattle.it_copy.specs.CopyLines.{CopyView}
use Rattle.it_copy.specs.Extensions.{IsExtension, IsMisfit}
use Rattle.it_certificate.specs.FactorValues.{best_members}
use Rattle.it_certificate.specs.Values.{OfCopies, OfQuestion, SourceTexts, misfit_members, report_text}
use Rattle.it_factor.specs.Lines.{reply_line}
use Rattle.it_factor.specs.Replies.{ReplyView, Found, Other}
use Rattle.it_factor.specs.RightReplies.{IsRightReply}
use Rattle.it_cli.specs.Copies.{CopyQuestion, ReplyWith, Misfit, Extended, head_text}
use Rattle.it_cli.specs.Misfits.{misfit_line, misfit_words}

-- why the question can't have the copies, or the question that is asked and what is found of its factors
abbrev pub BestReply : Type 0
BestReply = ReplyWith ReplyView

-- the question that is asked: with these copies, if there are any
abbrev pub IsAskedWith : FileLimits → BodyView → List CopyView → BodyView → Type 0
IsAskedWith limits q [] e = e ≡ q
IsAskedWith limits q (c ∷ cs) e = IsExtension limits q (c ∷ cs) e

-- there are copies that the question can't have, for this reason, which isn't want of memory
abbrev pub IsToldMisfit : FileLimits → CopyQuestion → CopyFault → Type 0
IsToldMisfit limits x fault = (x.copies ≡ [] → ⊥) × (fault ≡ Memory → ⊥) × IsMisfit limits x.question.body x.copies fault

-- a right reply
abbrev pub IsRightBestReply : FileLimits → Effort → CopyQuestion → BestReply → Type 0
IsRightBestReply limits effort x (Misfit fault) = IsToldMisfit limits x fault
IsRightBestReply limits effort x (Extended e reply) = IsAskedWith limits x.question.body x.copies e × IsRightReply effort e reply

-- ---- its lines

-- the members of what is found, or that the question asks for no factor
abbrev pub reply_members : ReplyView → Members
reply_members (Found best) = best_members best
reply_members Other = misfit_members (codes "other")

-- the texts of what is asked: the question, with the head where there is one
abbrev pub texts_with : List CopyView → List ℕ → SourceTexts
texts_with [] text = OfQuestion text
texts_with (c ∷ cs) text = OfCopies (head_text (c ∷ cs)) text

-- the line of a reply to question k, or the line of a report where one is asked for
abbrev pub best_lines : Bool → ℕ → CopyQuestion → BestReply → List ℕ
best_lines true k x (Misfit fault) = report_text (texts_with x.copies x.question.text) (misfit_members (misfit_words fault)) ++ codes "\n"
best_lines true k x (Extended e reply) = report_text (texts_with x.copies x.question.text) (reply_members reply) ++ codes "\n"
best_lines false k x (Misfit fault) = misfit_line k fault
best_lines false k x (Extended e reply) = reply_line k e (question_origins e) reply
