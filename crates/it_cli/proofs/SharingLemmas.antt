-- From the lines about the question that a sharing file makes to what is written for the file.
use Rattle.std.proofs.Common.{◌≡◌, ℕ, ◌+◌, ◌≤◌, ◌++◌, true, false, List, codes, sym, ap, ap₂, subst, ◌∙◌, []}
use Rattle.it_prove.specs.declared.types.Effort.{Effort}
use Rattle.it_question.specs.declared.sizes.FileLimits.{FileLimits}
use Rattle.it_question.specs.Questions.{QuestionView}
use Rattle.it_copy.specs.Extensions.{IsProof}
use Rattle.it_print.specs.Lines.{answer_line}
use Rattle.it_factor.specs.Lines.{reply_line}
use Rattle.it_factor.specs.RightReplies.{IsRightReply}
use Rattle.it_sharing.specs.Sharings.{SharingView, made_question, maximal_count, minimal_count}
use Rattle.it_cli.specs.Copies.{IsRightProof}
use Rattle.it_syntax.specs.NamesViews.{NamesView}
use Rattle.it_certificate.specs.Values.{OfSharing, answer_members, report_text}
use Rattle.it_cli.specs.InnerEnds.{IsFactorReportOf, IsFactorText, IsProofText, IsReportOf, IsTextOf}
use Rattle.it_cli.specs.Outputs.{sharing_mode}
use Rattle.it_canon.specs.QuestionDemands.{question_origins}
use Rattle.it_cli.specs.SharingReplies.{Answered, Factored, said_by, sharing_heading}

-- a made question is about a relation
pub made_is_proof : (x : SharingView) (q : QuestionView) → q ≡ made_question x → IsProof q.body.verb
unfolding made_question
made_is_proof x q made = subst (λ (y : QuestionView). IsProof y.body.verb) (sym made) tt

-- a made question has the file's names
names_of_made : (x : SharingView) (q : QuestionView) → q ≡ made_question x → q.body.names ≡ x.names
unfolding made_question
names_of_made x q made = ap (λ (y : QuestionView). y.body.names) made

module _ (limits : FileLimits) (effort : Effort) (bytes : List ℕ) (x : SharingView) (minimal maximal : ℕ) (q : QuestionView)
    (is_minimal : minimal ≡ minimal_count x) (is_maximal : maximal ≡ maximal_count x) (few : minimal + maximal ≤ 64)
    (made : q ≡ made_question x) where
  few_sets : minimal_count x + maximal_count x ≤ 64
  few_sets = subst (λ (n : ℕ). minimal_count x + n ≤ 64) is_maximal (subst (λ (m : ℕ). m + maximal ≤ 64) is_minimal few)

  headed : (line text : List ℕ) → text ≡ sharing_heading minimal maximal ++ line → text ≡ sharing_heading (minimal_count x) (maximal_count x) ++ line
  headed line text is = is ∙ ap₂ (λ m n. sharing_heading m n ++ line) is_minimal is_maximal

  pub factored_text : (line text : List ℕ) → x.best ≡ true → IsFactorText effort 1 q.body line
      → text ≡ sharing_heading minimal maximal ++ line → IsTextOf (sharing_mode limits false effort) [] 1 (said_by bytes x) text
  factored_text line text asked t is = record {
    reply = Factored t.reply;
    right = (few_sets, asked, subst (λ (y : QuestionView). IsRightReply effort y.body t.reply) made t.right);
    is = headed line text is ∙ ap (λ ys. sharing_heading (minimal_count x) (maximal_count x) ++ ys)
        (t.is ∙ ap (λ (y : QuestionView). reply_line 1 y.body (question_origins y.body) t.reply) made);
  }

  pub answered_text : (line text : List ℕ) → x.best ≡ false → IsProofText effort 1 q.body line
      → text ≡ sharing_heading minimal maximal ++ line → IsTextOf (sharing_mode limits false effort) [] 1 (said_by bytes x) text
  answered_text line text asked t is = record {
    reply = Answered t.answer;
    right = (few_sets, asked, subst (λ (y : QuestionView). IsRightProof effort y.body t.answer) made t.right);
    is = headed line text is ∙ ap (λ ys. sharing_heading (minimal_count x) (maximal_count x) ++ ys)
        (t.is ∙ ap (λ (y : QuestionView). answer_line 1 y.body (question_origins y.body) t.answer) made);
  }

  -- the lines of a report
  pub answered_report : (text : List ℕ) → x.best ≡ false → IsReportOf effort (OfSharing bytes) q.body text
      → IsTextOf (sharing_mode limits true effort) [] 1 (said_by bytes x) text
  answered_report text asked t = record {
    reply = Answered t.answer;
    right = (few_sets, asked, subst (λ (y : QuestionView). IsRightProof effort y.body t.answer) made t.right);
    is = t.is ∙ ap (λ (v : NamesView). report_text (OfSharing bytes) (answer_members v t.answer) ++ codes "\n") (names_of_made x q made);
  }

  pub factored_report : (text : List ℕ) → x.best ≡ true → IsFactorReportOf effort (OfSharing bytes) q.body text
      → IsTextOf (sharing_mode limits true effort) [] 1 (said_by bytes x) text
  factored_report text asked t = record {
    reply = Factored t.reply;
    right
        = (few_sets, asked, subst (λ (y : QuestionView). IsRightReply effort y.body t.reply) made t.right);
    is = t.is;
  }
