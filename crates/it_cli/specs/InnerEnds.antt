-- How the calls inside the top call end, by which its end is proved. No public clause cites this module.
use Rattle.std.specs.Prelude.{◌≡◌, ℕ, List, [], ◌++◌, ◌⊎◌, Bool, map, codes, Option, Some}
use Rattle.std.specs.Borrow.{Bor}
use Rattle.it_outside.specs.Causes.{next_count}
use Rattle.it_outside.specs.Traffic.{Gains, TookPrefix}
use Rattle.it_forms.specs.declared.types.Code.{Code}
use Rattle.it_prove.specs.declared.types.Effort.{Effort}
use Rattle.it_question.specs.declared.sizes.FileLimits.{FileLimits}
use Rattle.it_question.specs.Questions.{BodyView, QuestionView}
use Rattle.it_canon.specs.QuestionDemands.{terms_in, question_origins}
use Rattle.it_copy.specs.declared.types.CopyLine.{CopyLine}
use Rattle.it_copy.specs.CopyLines.{copy_view}
use Rattle.it_copy.specs.Files.{CopyFileFaultAt}
use Rattle.it_settings.specs.declared.types.Settings.{Settings}
use Rattle.it_settings.specs.Settings.{settings_of}
use Rattle.it_settings.specs.declared.types.Format.{Format}
use Rattle.it_settings.specs.declared.types.Format.TheVariants.{Derived}
use Rattle.it_contain.specs.Proposals.{Plan, plan_after_all}
use Rattle.it_space.specs.Answers.{AnswerView, CertificateView, answer_view}
use Rattle.it_region.specs.AnswerForms.{answer_forms}
use Rattle.it_certificate.specs.Values.{SourceTexts, answer_members, report_text}
use Rattle.it_print.specs.Lines.{answer_line, origins_of}
use Rattle.it_print.specs.ProofLines.{proof_text_by}
use Rattle.it_answer.specs.declared.types.AnsweredProblem.{AnsweredProblem}
use Rattle.it_answer.specs.declared.types.Budgets.{Budgets}
use Rattle.it_factor.specs.Replies.{ReplyView}
use Rattle.it_factor.specs.RightReplies.{IsRightReply}
use Rattle.it_factor.specs.Lines.{reply_line}
use Rattle.it_cli.specs.ToldOrigins.{AreToldOrigins, IsRightTold, ToldReply, answer_lines, told_report, told_lines}
use Rattle.it_cli.specs.BestReplies.{IsRightBestReply, best_lines, reply_members}
use Rattle.it_cli.specs.Copies.{AsksWithCopies, CopyQuestion, IsRightCopy, IsRightProof, ReplyWith, copy_lines, with_copies}
use Rattle.it_cli.specs.Ends.{Ends, call_of}
use Rattle.it_cli.specs.Modes.{FirstOutput, Mode, OutputInPart, WholeOutput}
use Rattle.it_cli.specs.Outputs.{done_mode}
use Rattle.it_cli.specs.Refusals.{fault_line}
use Rattle.it_cli.specs.declared.requests.Request.{Request}
use Rattle.it_cli.specs.declared.heads.Wanted.{Wanted}
use Rattle.it_cli.specs.declared.heads.Wanted.TheVariants.{Answers, Factors}
use Rattle.it_cli.specs.declared.status.Status.{Status}
use Rattle.it_cli.specs.declared.status.Status.TheVariants.{Done, Invalid, Refused, WriteFault, Memory}

-- a line was written and the status is this one, or a prefix of it was and a write failed
abbrev pub EndOfLine : Option (List ℕ) → Option (List ℕ) → ℕ → ℕ → List ℕ → Status → Status → Type 0
EndOfLine old new before now line status result =
    ((result ≡ status) × (now ≡ before) × Gains old new line) ⊎ ((result ≡ WriteFault) × (now ≡ next_count before) × TookPrefix old new line)

-- that, or allocation failed before the line was written
abbrev pub EndOfLineOrMemory : Option (List ℕ) → Option (List ℕ) → ℕ → ℕ → List ℕ → Status → Status → Type 0
EndOfLineOrMemory old new before now line status result = EndOfLine old new before now line status result ⊎ ((result ≡ Memory) × (now ≡ before) × Gains old new [])

-- the lines of an answer to question k, by the constraints of its problem
abbrev pub text_lines_of : ℕ → BodyView → AnsweredProblem → List ℕ
text_lines_of k q answered = answer_line k q (origins_of answered.problem.constraints) (answer_view answered.answer)

-- the lines of an answer to question `k` in the format `proof`, with the rows of its certificates
abbrev pub proof_lines_of : ℕ → BodyView → AnsweredProblem → List ℕ
proof_lines_of k q answered =
    proof_text_by k q answered.problem.constraints (map (terms_in q) (answer_forms q (answer_view answered.answer))) (answer_view answered.answer)

-- the lines of an answer to question k, with what the format tells of its rows
pub record IsToldText (format : Format) (k : ℕ) (q : QuestionView) (answer : AnswerView) (bytes : List ℕ) : Type 0 where
  pub origins : Option (List CertificateView)
  pub told : AreToldOrigins format q.body answer origins
  pub is : bytes ≡ answer_lines format k q answer origins

-- the line of an answer with certificates of its rows, or without
abbrev pub IsDerivedLine : QuestionView → AnswerView → List ℕ → Type 0
IsDerivedLine q answer bytes = (origins : Option (List CertificateView)) × AreToldOrigins Derived q.body answer origins × (bytes ≡ told_report q answer origins ++ codes "\n")

-- the lines of a right answer to question k, by boxes with these plans before it and after it
pub record IsAnswerText (budgets : Budgets) (plans : List Plan) (format : Format) (k : ℕ) (q : QuestionView) (plans_after : List Plan) (bytes : List ℕ) : Type 0 where
  pub told : ToldReply
  pub right : IsRightTold format budgets plans q.body told
  pub learned : plans_after ≡ map (plan_after_all told.reply.found) plans
  pub is : bytes ≡ told_lines format k q told

-- the lines of a right answer to question k, which is about a relation
pub record IsProofText (effort : Effort) (k : ℕ) (q : BodyView) (bytes : List ℕ) : Type 0 where
  pub answer : AnswerView
  pub right : IsRightProof effort q answer
  pub is : bytes ≡ answer_line k q (question_origins q) answer

-- the line of a report on a right answer to a question about a relation; `texts` are what is asked
pub record IsReportOf (effort : Effort) (texts : SourceTexts) (q : BodyView) (bytes : List ℕ) : Type 0 where
  pub answer : AnswerView
  pub right : IsRightProof effort q answer
  pub is : bytes ≡ report_text texts (answer_members q.names answer) ++ codes "\n"

-- the line of a right reply about factors to question k
pub record IsFactorText (effort : Effort) (k : ℕ) (q : BodyView) (bytes : List ℕ) : Type 0 where
  pub reply : ReplyView
  pub right : IsRightReply effort q reply
  pub is : bytes ≡ reply_line k q (question_origins q) reply

-- the line of a report of a right reply about factors, about what these texts ask
pub record IsFactorReportOf (effort : Effort) (texts : SourceTexts) (q : BodyView) (bytes : List ℕ) : Type 0 where
  pub reply : ReplyView
  pub right : IsRightReply effort q reply
  pub is : bytes ≡ report_text texts (reply_members reply) ++ codes "\n"

-- the lines of a right reply to item k of a mode, after earlier replies
pub record IsTextOf (m : Mode) (earlier : List m.Reply) (k : ℕ) (x : m.Item) (bytes : List ℕ) : Type 0 where
  pub reply : m.Reply
  pub right : m.IsRight earlier x reply
  pub is : bytes ≡ m.text k x reply

-- the line with which bytes are refused, that of their first fault
abbrev pub IsRefusal : Mode → List ℕ → List ℕ → Type 0
IsRefusal m bytes text = (line : ℕ) × (column : ℕ) × (code : Code) × m.FaultAt bytes line column code × (text ≡ fault_line line column code)

-- the whole output of a mode stands in the sink
pub record WroteWhole (m : Mode) (old new : Option (List ℕ)) (bytes : List ℕ) (status : Status) : Type 0 where
  pub out : List ℕ
  pub output : WholeOutput m bytes out status
  pub wrote : Gains old new out

-- the lines of the first items stand in the sink
pub record WroteFirst (m : Mode) (old new : Option (List ℕ)) (bytes : List ℕ) : Type 0 where
  pub out : List ℕ
  pub output : (later : List m.Item) × FirstOutput m later bytes out
  pub wrote : Gains old new out

-- a part of the output stands in the sink
pub record WroteInPart (m : Mode) (old new : Option (List ℕ)) (bytes : List ℕ) : Type 0 where
  pub out : List ℕ
  pub output : OutputInPart m bytes out
  pub wrote : Gains old new out

-- how a call ends that ran the mode on these bytes
abbrev pub EndOfBytes : Mode → Option (List ℕ) → Option (List ℕ) → ℕ → ℕ → List ℕ → Status → Type 0
EndOfBytes m old new before now bytes Refused = (now ≡ before) × (text : List ℕ) × IsRefusal m bytes text × Gains old new text
EndOfBytes m old new before now bytes WriteFault = (now ≡ next_count before) × (((text : List ℕ) × IsRefusal m bytes text × TookPrefix old new text) ⊎ WroteInPart m old new bytes)
EndOfBytes m old new before now bytes Done = (now ≡ before) × WroteWhole m old new bytes Done
EndOfBytes m old new before now bytes Invalid = (now ≡ before) × WroteWhole m old new bytes Invalid
EndOfBytes m old new before now bytes Memory = (now ≡ before) × (Gains old new [] ⊎ WroteFirst m old new bytes)
EndOfBytes m old new before now bytes _ = ⊥

-- how a call ends that ran the mode on these items, whichever bytes ask for them
abbrev pub EndOfItems : (m : Mode) → Option (List ℕ) → Option (List ℕ) → ℕ → ℕ → List m.Item → Status → Type 0
EndOfItems m old new before now items s = (bytes : List ℕ) → m.Asks bytes items → EndOfBytes m old new before now bytes s

-- questions with the copies that are asked for in them, as contracts see them
abbrev pub questions_with : List CopyLine → List QuestionView → List CopyQuestion
questions_with copies questions = map (with_copies (map copy_view copies)) questions

-- ---- what is wanted of the questions of a file with a head

-- what is told of a question
abbrev pub ToldFor : Wanted → Type 0
ToldFor Answers = AnswerView
ToldFor Factors = ReplyView

-- a right reply
abbrev pub IsRightFor : FileLimits → (wanted : Wanted) → Effort → CopyQuestion → ReplyWith (ToldFor wanted) → Type 0
IsRightFor limits Answers = IsRightCopy limits
IsRightFor limits Factors = IsRightBestReply limits

-- its lines, or the line of a report
abbrev pub lines_for : (wanted : Wanted) → Bool → ℕ → CopyQuestion → ReplyWith (ToldFor wanted) → List ℕ
lines_for Answers = copy_lines
lines_for Factors = best_lines

-- mode `copy` or `best`
abbrev pub head_mode : FileLimits → Wanted → Bool → Effort → Mode
head_mode limits wanted report effort = done_mode (AsksWithCopies limits) (CopyFileFaultAt limits)
    (λ (earlier : List (ReplyWith (ToldFor wanted))). IsRightFor limits wanted effort) (lines_for wanted report)

-- the mode of a request for answers or factors
abbrev pub request_mode : Wanted → Request → Mode
request_mode wanted request = head_mode request.limits wanted request.report request.effort

-- ---- the same of a sink, by its meaning and its states before and after

-- how a call ends that ran the mode on these bytes
abbrev pub EndsForBytes : {K : Type 0} → (K → Option (List ℕ)) → (K → ℕ) → Mode → K → K → List ℕ → Status → Type 0
EndsForBytes taken faults m sink after bytes s = EndOfBytes m (taken sink) (taken after) (faults sink) (faults after) bytes s

-- how a call ends that ran the mode on these items
abbrev pub EndsForItems : {K : Type 0} → (K → Option (List ℕ)) → (K → ℕ) → (m : Mode) → K → K → List m.Item → Status → Type 0
EndsForItems taken faults m sink after items s = EndOfItems m (taken sink) (taken after) (faults sink) (faults after) items s

-- how a call ends that wrote a line, unless allocation failed before
abbrev pub EndsWithLineOrMemory : {K : Type 0} → (K → Option (List ℕ)) → (K → ℕ) → K → K → List ℕ → Status → Status → Type 0
EndsWithLineOrMemory taken faults sink after line status s = EndOfLineOrMemory (taken sink) (taken after) (faults sink) (faults after) line status s

-- how a call ends whichever words ask for these settings, by the meanings of a source and a sink and their states before and after
abbrev pub EndsForSettings : {S K : Type 0} → (S → Option (List ℕ)) → (S → ℕ) → (K → Option (List ℕ)) → (K → ℕ) → Settings → List Plan
    → S → S → K → K → Status → Type 0
EndsForSettings left read_faults taken write_faults settings plans source source_after sink sink_after s =
    (words : List (Bor (List ℕ))) → settings_of (map (λ w. w.now) words) ≡ Some settings
    → Ends (call_of left read_faults taken write_faults words plans source source_after sink sink_after) s
