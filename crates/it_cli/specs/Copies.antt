-- What mode `copy` replies to a question: a right answer to it with the copies that the file's head asks for, or why it can't have them.
use Rattle.std.specs.Prelude.{◌≡◌, ℕ, List, [], ◌++◌, map, flat_map, Bool, true, false, codes}
use Rattle.it_prove.specs.declared.types.Effort.{Effort}
use Rattle.it_space.specs.Answers.{AnswerView}
use Rattle.it_question.specs.declared.sizes.FileLimits.{FileLimits}
use Rattle.it_question.specs.Questions.{BodyView, QuestionView}
use Rattle.it_copy.specs.declared.types.CopyFault.{CopyFault}
use Rattle.it_copy.specs.declared.types.CopyFault.TheVariants.{Memory}
use Rattle.it_copy.specs.CopyLines.{CopyView}
use Rattle.it_copy.specs.Extensions.{IsExtension, IsMisfit}
use Rattle.it_copy.specs.Files.{IsCopyFile}
use Rattle.it_print.specs.Lines.{answer_line, joined_texts, or_zero}
use Rattle.it_answer.specs.RightAnswers.{IsRightAnswer}
use Rattle.it_certificate.specs.Values.{OfCopies, SourceTexts, answer_members, misfit_members, report_text}
use Rattle.it_cli.specs.Misfits.{misfit_line, misfit_words}
use Rattle.it_canon.specs.QuestionDemands.{question_origins}

-- a question and the copies that are asked for in it
pub record CopyQuestion : Type 0 where
  pub copies : List CopyView
  pub question : QuestionView

-- the question with these copies
abbrev pub with_copies : List CopyView → QuestionView → CopyQuestion
with_copies copies q = record { copies = copies; question = q }

-- the bytes are a file whose head asks for copies in each of these questions
pub record AsksWithCopies (limits : FileLimits) (bytes : List ℕ) (items : List CopyQuestion) : Type 0 where
  pub copies : List CopyView
  pub questions : List QuestionView
  pub read : IsCopyFile limits bytes copies questions
  pub are : items ≡ map (with_copies copies) questions

-- why the question can't have the copies, or the question that is asked, with them, and what is told of it
pub data ReplyWith (Told : Type 0) : Type 0 where
  Misfit : (fault : CopyFault) → ReplyWith Told
  Extended : (question : BodyView) (told : Told) → ReplyWith Told

-- what is told is an answer
abbrev pub CopyReply : Type 0
CopyReply = ReplyWith AnswerView

-- a right answer to a question about a relation, which tries no candidates and eliminates nothing
abbrev pub IsRightProof : Effort → BodyView → AnswerView → Type 0
IsRightProof effort q answer = IsRightAnswer (record { effort = effort; rows = 1; tries = 1 }) [] q (record { answer = answer; found = [] })

-- a right reply; `Memory` is no reason
abbrev pub IsRightCopy : FileLimits → Effort → CopyQuestion → CopyReply → Type 0
IsRightCopy limits effort x (Misfit fault) = (fault ≡ Memory → ⊥) × IsMisfit limits x.question.body x.copies fault
IsRightCopy limits effort x (Extended e answer) = IsExtension limits x.question.body x.copies e × IsRightProof effort e answer

-- ---- its lines

-- the line of a head that asks for a copy
unfoldable pub copy_line : CopyView → List ℕ
copy_line c = codes "copy " ++ c.fresh ++ codes " of " ++ c.old ++ codes " over " ++ joined_texts (codes ",") false (or_zero c.over) ++ codes "\n"

-- the head that asks for copies
abbrev pub head_text : List CopyView → List ℕ
head_text copies = flat_map copy_line copies

-- the texts of what is asked: the head and the question
abbrev pub copy_texts : CopyQuestion → SourceTexts
copy_texts x = OfCopies (head_text x.copies) x.question.text

-- the lines of a reply to question k, or the line of a report where one is asked for
abbrev pub copy_lines : Bool → ℕ → CopyQuestion → CopyReply → List ℕ
copy_lines true k x (Misfit fault) = report_text (copy_texts x) (misfit_members (misfit_words fault)) ++ codes "\n"
copy_lines true k x (Extended e answer) = report_text (copy_texts x) (answer_members e.names answer) ++ codes "\n"
copy_lines false k x (Misfit fault) = misfit_line k fault
copy_lines false k x (Extended e answer) = answer_line k e (question_origins e) answer
