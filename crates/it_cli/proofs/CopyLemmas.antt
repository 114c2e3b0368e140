-- What mode `copy` writes.
use Rattle.std.proofs.Common.{◌≡◌, ℕ, ◌<◌, List, [], ◌++◌, length, map, get_or, Result, Ok, Err, IfOk, codes, true, refl, sym, ap, ap₂, ◌∙◌, arith}
use Rattle.std.specs.Global.{Vec}
use Rattle.std.proofs.lemmas.List.{length-map, get_or-map}
use Rattle.it_canon.specs.QuestionDemands.{problem_of}
use Rattle.it_prove.specs.declared.types.Effort.{Effort}
use Rattle.it_space.specs.Answers.{AnswerView}
use Rattle.it_question.specs.declared.sizes.FileLimits.{FileLimits}
use Rattle.it_question.specs.Questions.{BodyView, QuestionView, VerbView, Prove, Eliminate, Contain}
use Rattle.it_copy.specs.CopyLines.{CopyView}
use Rattle.it_copy.specs.declared.types.CopyFault.{CopyFault}
use Rattle.it_copy.specs.declared.types.CopyFault.TheVariants.{Memory}
use Rattle.it_copy.specs.Extensions.{IsExtension, IsProof}
use Rattle.it_syntax.specs.NamesViews.{NamesView}
use Rattle.it_certificate.specs.Values.{IsWritable, OfCopies, SourceTexts, answer_members, misfit_members, report_text}
use Rattle.it_region.specs.declared.types.Candidate.{Candidate}
use Rattle.it_contain.specs.Proposals.{Plan}
use Rattle.it_answer.specs.declared.types.Budgets.{Budgets}
use Rattle.it_answer.specs.RightAnswers.{IsDueBy, IsRightAnswer, budgets_under}
use Rattle.it_cli.specs.Copies.{CopyQuestion, Extended, IsRightProof, copy_texts, head_text, with_copies}
use Rattle.it_cli.specs.InnerEnds.{IsReportOf, IsTextOf}
use Rattle.it_cli.specs.Misfits.{misfit_words}
use Rattle.it_cli.specs.Modes.{Mode}
use Rattle.it_cli.proofs.JsonLemmas.{due_is_writable}
use Rattle.it_cli.specs.Outputs.{copy_mode}
use Rattle.it_cli.proofs.RightLemmas.{question_at}

-- ---- the answer to one question

due_alone : (b : Budgets) (plans : List Plan) (q : BodyView) (verb : VerbView) (a : AnswerView) (found : List Candidate) → IsProof verb
    → IsDueBy b plans q verb (record { answer = a; found = found })
    → IsDueBy (record { effort = b.effort; rows = 1; tries = 1 }) [] q verb (record { answer = a; found = [] })
due_alone b plans q (Prove r) a found proof (due, none) = (due, refl)
due_alone b plans q (Eliminate rates) a found proof h = absurd proof
due_alone b plans q (Contain first second tries) a found proof h = absurd proof

-- a right answer to a question about a relation finds no candidate, and rests on its steps alone
pub right_alone : (b : Budgets) (plans : List Plan) (q : BodyView) (a : AnswerView) (found : List Candidate) → IsProof q.verb
    → IsRightAnswer b plans q (record { answer = a; found = found }) → IsRightProof b.effort q a
right_alone b plans q a found proof right = record {
  shows = right.shows;
  due = due_alone (budgets_under (problem_of q) b) plans q q.verb a found proof right.due;
}

-- a right answer to a question about a relation can be written with any names
writable_by : (b : Budgets) (plans : List Plan) (q : BodyView) (verb : VerbView) (v : NamesView) (a : AnswerView) (found : List Candidate)
    → IsProof verb → IsDueBy b plans q verb (record { answer = a; found = found }) → IsWritable v a
writable_by b plans q (Prove r) v a found proof (due, none) = due_is_writable b.effort q r v a due
writable_by b plans q (Eliminate rates) v a found proof h = absurd proof
writable_by b plans q (Contain first second tries) v a found proof h = absurd proof

pub right_is_writable : (b : Budgets) (plans : List Plan) (q : BodyView) (v : NamesView) (a : AnswerView) (found : List Candidate)
    → IsProof q.verb → IsRightAnswer b plans q (record { answer = a; found = found }) → IsWritable v a
right_is_writable b plans q v a found proof right = writable_by (budgets_under (problem_of q) b) plans q q.verb v a found proof right.due

-- in any mode, where what tells a misfit is a right reply, the line that says why there is no such question is that of the reply
module _ (m : Mode) (x : m.Item) (k : ℕ) (fault : CopyFault) (reply : m.Reply) (right : (fault ≡ Memory → ⊥) → m.IsRight [] x reply) where
  pub misfit_told : {E : Type 0} (line : List ℕ) (r : Result (Vec ℕ) E) → m.text k x reply ≡ line → IfOk r (λ t. t.items ≡ line)
      → IfOk r (λ t. fault ≡ Memory → ⊥) → IfOk r (λ t. IsTextOf m [] k x t.items)
  misfit_told line (Ok t) same told some = record { reply = reply; right = right some; is = told ∙ sym same }
  misfit_told line (Err e) same told some = tt

  -- and so is that of a report
  pub misfit_reported : {E : Type 0} (texts own : SourceTexts) (r : Result (Vec ℕ) E) → texts ≡ own → m.text k x reply ≡ report_text own (misfit_members (misfit_words fault)) ++ codes "\n"
      → IfOk r (λ t. t.items ≡ report_text texts (misfit_members (misfit_words fault)) ++ codes "\n") → IfOk r (λ t. fault ≡ Memory → ⊥) → IfOk r (λ t. IsTextOf m [] k x t.items)
  misfit_reported texts own r same is told some = misfit_told (report_text texts (misfit_members (misfit_words fault)) ++ codes "\n") r
      (is ∙ ap (λ (s : SourceTexts). report_text s (misfit_members (misfit_words fault)) ++ codes "\n") (sym same)) told some

pub proof_reported : {E : Type 0} (limits : FileLimits) (effort : Effort) (x : CopyQuestion) (k : ℕ) (e : BodyView) (texts : SourceTexts) (r : Result (Vec ℕ) E)
    → texts ≡ copy_texts x → IsExtension limits x.question.body x.copies e
    → IfOk r (λ t. IsReportOf effort texts e t.items) → IfOk r (λ t. IsTextOf (copy_mode limits true effort) [] k x t.items)
proof_reported limits effort x k e texts (Ok t) same extension told = record {
  reply = Extended e told.answer;
  right = (extension, told.right);
  is = told.is ∙ ap (λ (s : SourceTexts). report_text s (answer_members e.names told.answer) ++ codes "\n") same;
}
proof_reported limits effort x k e texts (Err f) same extension told = tt

-- the head and the text as they are written
pub texts_are : (head text : List ℕ) (copies : List CopyView) (q : QuestionView) → head ≡ head_text copies → text ≡ q.text
    → OfCopies head text ≡ copy_texts (with_copies copies q)
texts_are head text copies q e f = ap₂ OfCopies e f

-- ---- the questions, one after the other

abbrev items_of : List CopyView → List QuestionView → List CopyQuestion
items_of cs qs = map (with_copies cs) qs

pub items_long : (cs : List CopyView) (qs : List QuestionView) → length (items_of cs qs) ≡ length qs
items_long cs qs = length-map qs (with_copies cs)

pub item_at : (cs : List CopyView) (qs : List QuestionView) (i : ℕ) (r : QuestionView) → i < length qs → r ≡ get_or qs i r
    → get_or (items_of cs qs) i (with_copies cs r) ≡ with_copies cs r
item_at cs qs i r h e =
    get_or-map (with_copies cs) qs i r (with_copies cs r)
    (omega (arith, h)) ∙ ap (with_copies cs) (question_at qs i r h e)
