-- What mode `sharing` replies to a file: a right answer to the question that it makes, or that its sets are too many.
use Rattle.std.specs.Prelude.{◌≡◌, ℕ, ◌+◌, ◌<◌, ◌≤◌, Bool, true, false, List, [], ◌∷◌, ◌++◌, if◌then◌else◌, codes, decimal}
use Rattle.serde_json.specs.Data.{Members}
use Rattle.it_prove.specs.declared.types.Effort.{Effort}
use Rattle.it_space.specs.Answers.{AnswerView}
use Rattle.it_print.specs.Lines.{answer_line}
use Rattle.it_factor.specs.Lines.{reply_line}
use Rattle.it_factor.specs.Replies.{ReplyView}
use Rattle.it_factor.specs.RightReplies.{IsRightReply}
use Rattle.it_question.specs.declared.sizes.FileLimits.{FileLimits}
use Rattle.it_question.specs.QuestionLimits.{most_lines}
use Rattle.it_sharing.specs.SharingFiles.{IsSharingFile}
use Rattle.it_sharing.specs.Sharings.{SharingView, made_question, maximal_count, minimal_count}
use Rattle.it_certificate.specs.Values.{OfSharing, answer_members, misfit_members, report_text}
use Rattle.it_cli.specs.Copies.{IsRightProof}
use Rattle.it_cli.specs.BestReplies.{reply_members}
use Rattle.it_canon.specs.QuestionDemands.{question_origins}

-- a sharing file: its bytes and what it says
pub record SharingFile : Type 0 where
  pub bytes : List ℕ
  pub says : SharingView

-- the sharing file of these bytes, which say `x`
abbrev pub said_by : List ℕ → SharingView → SharingFile
said_by bytes x = record { bytes = bytes; says = x }

-- the bytes are a sharing file, which asks for one thing
pub record AsksOfSharing (limits : FileLimits) (bytes : List ℕ) (items : List SharingFile) : Type 0 where
  pub file : SharingView
  pub read : IsSharingFile limits bytes file
  pub is : items ≡ said_by bytes file ∷ []

-- that the minimal and the maximal sets are too many, or an answer to the question that is made, or what is found of its factors
pub data SharingReply : Type 0 where
  Many : SharingReply
  Answered : (answer : AnswerView) → SharingReply
  Factored : (reply : ReplyView) → SharingReply

-- a right reply: many where these are more than 64 together, else a right one to the made question, by what the file asks for
abbrev pub IsRightSharing : Effort → SharingView → SharingReply → Type 0
IsRightSharing effort x Many = most_lines < minimal_count x + maximal_count x
IsRightSharing effort x (Answered answer) = (minimal_count x + maximal_count x ≤ most_lines) × (x.best ≡ false) × IsRightProof effort (made_question x).body answer
IsRightSharing effort x (Factored reply) = (minimal_count x + maximal_count x ≤ most_lines) × (x.best ≡ true) × IsRightReply effort (made_question x).body reply

-- the line with the numbers of minimal and maximal sets
unfoldable pub sharing_heading : ℕ → ℕ → List ℕ
sharing_heading minimal maximal = codes "sharing " ++ decimal minimal ++ codes " " ++ decimal maximal ++ codes "\n"

-- lines about the made question, after the line with both numbers
abbrev pub sharing_text : SharingView → List ℕ → List ℕ
sharing_text x lines = sharing_heading (minimal_count x) (maximal_count x) ++ lines

-- the line of a report with these members
abbrev pub sharing_report : SharingFile → Members → List ℕ
sharing_report x members = report_text (OfSharing x.bytes) members ++ codes "\n"

-- the lines of a reply, or the line of a report where one is asked for
abbrev pub sharing_lines : Bool → SharingFile → SharingReply → List ℕ
sharing_lines report x Many = if report then sharing_report x (misfit_members (codes "many")) else codes "misfit many\n"
sharing_lines report x (Answered answer) =
    if report then sharing_report x (answer_members x.says.names answer) else
    sharing_text x.says (answer_line 1 (made_question x.says).body (question_origins (made_question x.says).body) answer)
sharing_lines report x (Factored reply) =
    if report then sharing_report x (reply_members reply) else
    sharing_text x.says (reply_line 1 (made_question x.says).body (question_origins (made_question x.says).body) reply)
