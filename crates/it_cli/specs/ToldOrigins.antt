-- What mode `answer` tells of a question: its right answer, and in the format `derived` where the rows of a region come from.
use Rattle.std.specs.Prelude.{◌≡◌, ℕ, List, ◌++◌, map, Option, Some, None, codes}
use Rattle.std.specs.List.{AllZip}
use Rattle.it_settings.specs.declared.types.Format.{Format}
use Rattle.it_settings.specs.declared.types.Format.TheVariants.{Text, Json, Proof, Derived}
use Rattle.it_space.specs.Answers.{AnswerView, CertificateView}
use Rattle.it_space.specs.Answers.AnswerView.{Region}
use Rattle.it_problems.specs.Problems.{ProblemView}
use Rattle.it_space.specs.Rows.{Terms}
use Rattle.it_question.specs.Questions.{BodyView, QuestionView}
use Rattle.it_canon.specs.QuestionDemands.{problem_of, question_origins, terms_in}
use Rattle.it_region.specs.AnswerForms.{answer_forms}
use Rattle.it_contain.specs.Proposals.{Plan}
use Rattle.it_origins.specs.Origins.{IsOrigin}
use Rattle.it_rates.specs.Asked.{under_all_lines}
use Rattle.it_certificate.specs.AnswerShapes.{IsNumbered}
use Rattle.it_certificate.specs.Values.{answer_text, derived_text}
use Rattle.it_print.specs.Lines.{answer_line}
use Rattle.it_print.specs.ProofLines.{proof_text}
use Rattle.it_answer.specs.declared.types.Budgets.{Budgets}
use Rattle.it_answer.specs.Replies.{Reply}
use Rattle.it_answer.specs.RightAnswers.{IsRightAnswer}
use Rattle.it_answer.specs.Truth.{region_rows}
use Rattle.it_cli.specs.Right.{question_generators}

-- a reply, and a certificate of each row of its region, if these are told
pub record ToldReply : Type 0 where
  pub reply : Reply
  pub origins : Option (List CertificateView)

-- a certificate of the row by constraints alone, with numbers that a report can have
abbrev pub IsToldOrigin : ProblemView → Terms → CertificateView → Type 0
IsToldOrigin p row w = IsOrigin p row w × IsNumbered w

-- Certificates are told of a region alone, in the format `derived`: each is one of its row, where all lines of the question are constraints.
abbrev pub AreToldOrigins : Format → BodyView → AnswerView → Option (List CertificateView) → Type 0
AreToldOrigins Derived q (Region rows) (Some ws) = AllZip (IsToldOrigin (problem_of (under_all_lines q))) (region_rows rows) ws
AreToldOrigins format q answer origins = origins ≡ None

-- a right answer to a question, with what is told of its rows
pub record IsRightTold (format : Format) (budgets : Budgets) (plans : List Plan) (q : BodyView) (told : ToldReply) : Type 0 where
  pub reply : IsRightAnswer budgets plans q told.reply
  pub origins : AreToldOrigins format q told.reply.answer told.origins

-- ---- its lines

-- the report of an answer, with the certificates of its rows, if these are told; the line's end isn't part of it
abbrev pub told_report : QuestionView → AnswerView → Option (List CertificateView) → List ℕ
told_report q (Region rows) (Some ws) = derived_text q.text q.body.names rows ws
told_report q answer origins = answer_text q.text q.body.names answer

-- the lines of an answer to question k
abbrev pub answer_lines : Format → ℕ → QuestionView → AnswerView → Option (List CertificateView) → List ℕ
answer_lines Text k q a origins = answer_line k q.body (question_origins q.body) a
answer_lines Json k q a origins = answer_text q.text q.body.names a ++ codes "\n"
answer_lines Proof k q a origins = proof_text k q.body (question_origins q.body) (question_generators q.body) (map (terms_in q.body) (answer_forms q.body a)) a
answer_lines Derived k q a origins = told_report q a origins ++ codes "\n"

-- the lines of what is told of a question
abbrev pub told_lines : Format → ℕ → QuestionView → ToldReply → List ℕ
told_lines format k q told = answer_lines format k q told.reply.answer told.origins
