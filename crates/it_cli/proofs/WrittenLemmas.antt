-- The lines that a call wrote are those of replies that are such, where right ones are.
use Rattle.std.proofs.Common.{◌≡◌, ℕ, ◌+◌, inl, List, [], ◌∷◌, ◌++◌, All, Some, refl, sym, ap, subst, ◌∙◌}
use Rattle.std.proofs.lemmas.List.Elements.{All-nil, All-cons, All-head, All-tail, All-map}
use Rattle.it_settings.specs.declared.types.Settings.{Settings}
use Rattle.it_settings.specs.declared.types.Settings.TheVariants.{Answer, Copy, Best, Outer, Sharing}
use Rattle.it_question.specs.declared.sizes.FileLimits.{FileLimits}
use Rattle.it_question.specs.Limits.{IsQuestion}
use Rattle.it_question.specs.Questions.{QuestionView}
use Rattle.it_contain.specs.Proposals.{Plan}
use Rattle.it_copy.specs.Files.{CopiedQuestionsAreWithin}
use Rattle.it_copy.specs.Points.{YesByCopies}
use Rattle.it_sharing.specs.PerfectSharing.{MadeQuestionIsOfPerfectSharing}
use Rattle.it_sharing.specs.SharingFiles.{SharingIsWithin}
use Rattle.it_sharing.specs.Sharings.{IsSharing, IsBoundWhereBest}
use Rattle.it_answer.specs.Shows as answers
use Rattle.it_answer.specs.Shows.{Shows}
use Rattle.it_answer.specs.Truth.{IsTrueAnswer}
use Rattle.it_bounds.specs.Replies.{ReplyView as BoundsView}
use Rattle.it_bounds.specs.RightReplies as right_bounds
use Rattle.it_bounds.specs.Truth as true_bounds
use Rattle.it_bounds.specs.Reports as bounds
use Rattle.it_factor.specs.RightReplies as factors
use Rattle.it_cli.specs.BestReplies.{best_lines}
use Rattle.it_cli.specs.Copies.{AsksWithCopies, CopyQuestion, copy_lines, with_copies}
use Rattle.it_cli.specs.Modes.{Mode, WholeOutput}
use Rattle.it_cli.specs.Outputs.{IsOutput, answer_mode, best_mode, copy_mode, most_bytes, outer_mode, sharing_mode}
use Rattle.it_cli.specs.Right.{budgets_of, effort_of, limits_of, limits_of_names}
use Rattle.it_cli.specs.ToldOrigins.{AreToldOrigins, ToldReply, told_lines}
use Rattle.it_cli.specs.SharingReplies.{AsksOfSharing, SharingFile, SharingReply, said_by, sharing_lines}
use Rattle.it_cli.specs.Truth.{IsTrueBestReply, IsTrueCopy, IsTrueSharing}
use Rattle.it_cli.specs.Written.{AnswersAreTrue, AnswersShow, AreLinesFor, AreReplyLines, BoundsAreTrue, CopiesAreTrue, FactorsAreTrue, SharingIsTrue, ShownAnswers, TrueAnswers, TrueBounds, TrueCopies, TrueFactors, TrueSharing, WritesSuch}
use Rattle.it_cli.specs.declared.status.Status.{Status}
use Rattle.it_cli.specs.declared.status.Status.TheVariants.{Done}
use Rattle.it_cli.proofs.LawLemmas.{headline}
use Rattle.it_cli.proofs.ReplyLemmas.{RepliesFrom}
use Rattle.it_cli.proofs.TruthLemmas.{right_best_is_true, right_copy_is_true, right_sharing_is_true}

-- ---- in any mode

-- what is said of a right reply to an item that is within limits is such, and its lines tell it
module _ (m : Mode) {Said : Type 0} (said : m.Reply → Said) (text : ℕ → m.Item → Said → List ℕ)
    (told : (k : ℕ) (x : m.Item) (reply : m.Reply) → m.text k x reply ≡ text k x (said reply))
    (IsWithin : m.Item → Type 0) (IsSuch : m.Item → Said → Type 0) (such : (earlier : List m.Reply) (x : m.Item) (reply : m.Reply)
    → IsWithin x → m.IsRight earlier x reply → IsSuch x (said reply)) where
  lines_from : (k : ℕ) (xs : List m.Item) (s t : List m.Reply) (out : List ℕ) → All IsWithin xs → RepliesFrom m k s xs t out
      → AreReplyLines IsSuch text k xs out
  lines_from k [] s t out within a = a.1
  lines_from k (x ∷ xs) s t out within (reply, rest, right, more, is) = (
    said reply,
    rest,
    such s x reply (All-head IsWithin x xs within) right,
    lines_from (k + 1) xs (s ++ reply ∷ []) t rest
        (All-tail IsWithin x xs within) more,
    is ∙ ap (λ ys. ys ++ rest) (told k x reply),
  )

  lines_for : ((bytes : List ℕ) (items : List m.Item) → m.Asks bytes items → All IsWithin items) → (bytes out : List ℕ) (s : Status)
      → WholeOutput m bytes out s → AreLinesFor m.Asks IsSuch text bytes out
  lines_for within bytes out s o = (o.items, o.asked, lines_from 1 o.items [] o.replies out (within bytes o.items o.asked) o.written)

-- what is such of every whole output is such of what a call wrote that is done
writes_such : (settings : Settings) (most : ℕ) (IsSuch : List ℕ → List ℕ → Type 0) → most_bytes settings ≡ Some most
    → ((plans : List Plan) (bytes out : List ℕ) → IsOutput plans settings bytes out Done → IsSuch bytes out) → WritesSuch settings IsSuch
writes_such settings most IsSuch limit such r bytes old new ends reading e taken taken_after =
    let h = headline r Done settings most bytes old new ends (inl refl) reading limit e taken taken_after in
    (h.0, such r.plans bytes h.0 h.1, h.2)

-- ---- in each mode

-- no limit is asked of an item
abbrev Any : {X : Type 0} → X → Type 0
Any x = Unit {0}

pub answers_show : AnswersShow
answers_show format run pivots rows tries names = writes_such (Answer format run pivots rows tries names) 1048576
    (ShownAnswers (limits_of_names names) format) refl (λ plans bytes out o.
    lines_for (answer_mode (limits_of_names names) (budgets_of run pivots rows tries) plans format) (λ told. told) (told_lines format) (λ k q told. refl) Any
    (λ (q : QuestionView) (told : ToldReply). Shows q.body told.reply.answer
    × AreToldOrigins format q.body told.reply.answer told.origins)
    (λ earlier q told any right. (right.reply.shows, right.origins)) (λ bytes qs asked i d l. tt) bytes out Done o)

pub answers_are_true : answers.WhatIsShownIsTrue → AnswersAreTrue
answers_are_true shown_is_true format run pivots rows tries names = writes_such (Answer format run pivots rows tries names) 1048576
    (TrueAnswers (limits_of_names names) format) refl (λ plans bytes out o.
    lines_for (answer_mode (limits_of_names names) (budgets_of run pivots rows tries) plans format) (λ told. told) (told_lines format) (λ k q told. refl) Any
    (λ (q : QuestionView) (told : ToldReply). IsTrueAnswer q.body told.reply.answer)
    (λ earlier q told any right. shown_is_true q.body told.reply.answer right.reply.shows) (λ bytes qs asked i d l. tt) bytes out Done o)

-- the question keeps the limits
abbrev IsWithinLimits : CopyQuestion → Type 0
IsWithinLimits x = IsQuestion x.question.body

copied_within : CopiedQuestionsAreWithin → (limits : FileLimits) (bytes : List ℕ) (items : List CopyQuestion) → AsksWithCopies limits bytes items
    → All IsWithinLimits items
copied_within are_within limits bytes items asked =
    subst (All IsWithinLimits) (sym asked.are) (All-map IsWithinLimits (with_copies asked.copies) asked.questions
    (are_within limits bytes asked.copies asked.questions asked.read))

pub copies_are_true : answers.WhatIsShownIsTrue → YesByCopies → CopiedQuestionsAreWithin → CopiesAreTrue
copies_are_true shown_is_true by_copies are_within report run pivots names = writes_such (Copy report run pivots names) 1048576
    (TrueCopies (limits_of_names names) report) refl
    (λ plans bytes out o.
    lines_for (copy_mode (limits_of_names names) report (effort_of run pivots)) (λ reply. reply) (copy_lines report) (λ k x reply. refl) IsWithinLimits
    (IsTrueCopy (limits_of_names names))
    (λ earlier. right_copy_is_true shown_is_true by_copies (limits_of_names names) (effort_of run pivots))
    (copied_within are_within (limits_of_names names)) bytes out Done o)

pub factors_are_true : factors.WhatIsShownIsTrue → CopiedQuestionsAreWithin → FactorsAreTrue
factors_are_true shown_is_true are_within report run pivots names = writes_such (Best report run pivots names) 1048576
    (TrueFactors (limits_of_names names) report) refl (λ plans bytes out o.
    lines_for (best_mode (limits_of_names names) report (effort_of run pivots)) (λ reply. reply) (best_lines report)
    (λ k x reply. refl) IsWithinLimits (IsTrueBestReply (limits_of_names names))
    (λ earlier. right_best_is_true shown_is_true (limits_of_names names) (effort_of run pivots))
    (copied_within are_within (limits_of_names names)) bytes out Done o)

-- what a reply to the question shows is true
abbrev IsTrueWhereShown : QuestionView → Type 0
IsTrueWhereShown q = (reply : BoundsView) → right_bounds.ShowsReply q.body reply → true_bounds.IsTrueReply q.body reply

pub bounds_are_true : right_bounds.WhatIsShownIsTrue → BoundsAreTrue
bounds_are_true shown_is_true report run pivots rows tries names = writes_such (Outer report run pivots rows tries names) 1048576
    (TrueBounds (limits_of_names names) report (limits_of run pivots rows tries)) refl (λ plans bytes out o.
    lines_for (outer_mode (limits_of_names names) report (limits_of run pivots rows tries)) (λ told. told)
    (bounds.told_lines report (limits_of run pivots rows tries)) (λ k q told. refl)
    IsTrueWhereShown (λ (q : QuestionView) (told : bounds.ToldReply). true_bounds.IsTrueReply q.body told.reply)
    (λ earlier q told within right. within told.reply right.reply.shows) (shown_is_true (limits_of_names names)) bytes out Done o)

-- what the file says is within the limits
abbrev IsWithinSharing : SharingFile → Type 0
IsWithinSharing x = IsSharing x.says × IsBoundWhereBest x.says

sharing_within : SharingIsWithin → (limits : FileLimits) (bytes : List ℕ) (items : List SharingFile) → AsksOfSharing limits bytes items
    → All IsWithinSharing items
sharing_within is_within limits bytes items asked = subst (All IsWithinSharing) (sym asked.is)
    (All-cons IsWithinSharing (said_by bytes asked.file) [] (is_within limits bytes asked.file asked.read) (All-nil IsWithinSharing))

pub sharing_is_true : answers.WhatIsShownIsTrue → factors.WhatIsShownIsTrue → MadeQuestionIsOfPerfectSharing → SharingIsWithin → SharingIsTrue
sharing_is_true shown_is_true shown_factors is_perfect is_within report run pivots names = writes_such (Sharing report run pivots names) 1048576
    (TrueSharing (limits_of_names names) report) refl (λ plans bytes out o.
    lines_for (sharing_mode (limits_of_names names) report (effort_of run pivots)) (λ reply. reply) (λ k. sharing_lines report)
    (λ k x reply. refl) IsWithinSharing
    (λ (x : SharingFile) (reply : SharingReply). IsTrueSharing x.says reply)
    (λ earlier x. right_sharing_is_true shown_is_true shown_factors is_perfect (effort_of run pivots) x.says)
    (sharing_within is_within (limits_of_names names)) bytes out Done o)
