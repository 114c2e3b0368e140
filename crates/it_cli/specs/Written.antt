-- What a call that is done has written, whichever replies are due: lines of answers that show what they say, and in each mode that
-- answers lines of replies that are true.
use Rattle.std.specs.Prelude.{◌≡◌, ℕ, ◌+◌, List, [], ◌∷◌, ◌++◌, Bool, Option, Some}
use Rattle.it_outer.specs.declared.types.Limits.{Limits}
use Rattle.it_settings.specs.Settings.{settings_of}
use Rattle.it_settings.specs.declared.types.Format.{Format}
use Rattle.it_settings.specs.declared.types.Run.{Run}
use Rattle.it_settings.specs.declared.types.Settings.{Settings}
use Rattle.it_settings.specs.declared.types.Settings.TheVariants.{Answer, Copy, Best, Outer, Sharing}
use Rattle.it_question.specs.declared.sizes.FileLimits.{FileLimits}
use Rattle.it_question.specs.Files.{IsFileWithin}
use Rattle.it_question.specs.Questions.{QuestionView}
use Rattle.it_answer.specs.Shows.{Shows}
use Rattle.it_answer.specs.Truth.{IsTrueAnswer}
use Rattle.it_bounds.specs.Truth as true_bounds
use Rattle.it_bounds.specs.Reports as bounds
use Rattle.it_cli.specs.Right.{limits_of, limits_of_names}
use Rattle.it_cli.specs.ToldOrigins.{AreToldOrigins, ToldReply, told_lines}
use Rattle.it_cli.specs.Copies.{AsksWithCopies, copy_lines}
use Rattle.it_cli.specs.BestReplies.{best_lines}
use Rattle.it_cli.specs.SharingReplies.{AsksOfSharing, SharingFile, SharingReply, sharing_lines}
use Rattle.it_cli.specs.Truth.{IsTrueBestReply, IsTrueCopy, IsTrueSharing}
use Rattle.it_cli.specs.Ends.{Call, Ends}
use Rattle.it_cli.specs.declared.status.Status.TheVariants.{Done}

-- ---- lines of such replies

-- the lines of one reply to each of the items from number k on, each of which is such a reply to its item
abbrev pub AreReplyLines : {Item Reply : Type 0} → (Item → Reply → Type 0) → (ℕ → Item → Reply → List ℕ) → ℕ → List Item → List ℕ → Type 0
AreReplyLines IsSuch text k [] out = out ≡ []
AreReplyLines {Item} {Reply} IsSuch text k (x ∷ xs) out =
    (reply : Reply) × (rest : List ℕ) × IsSuch x reply × AreReplyLines IsSuch text (k + 1) xs rest × (out ≡ text k x reply ++ rest)

-- lines of one such reply to each of the items that the bytes ask for
abbrev pub AreLinesFor : {Item Reply : Type 0} → (List ℕ → List Item → Type 0) → (Item → Reply → Type 0) → (ℕ → Item → Reply → List ℕ) → List ℕ → List ℕ → Type 0
AreLinesFor {Item} Asks IsSuch text bytes out = (items : List Item) × Asks bytes items × AreReplyLines IsSuch text 1 items out

-- After `Done` under these settings, where source and sink tell their bytes, the sink gained such an output for all that the source gave.
abbrev pub WritesSuch : Settings → (List ℕ → List ℕ → Type 0) → Type 0
WritesSuch settings IsSuch = (r : Call) (bytes old new : List ℕ) → Ends r Done → settings_of r.words ≡ Some settings
    → r.left ≡ Some bytes → r.taken ≡ Some old → r.taken_after ≡ Some new → (out : List ℕ) × IsSuch bytes out × (new ≡ old ++ out)

-- ---- in each mode

-- the lines of an answer to each of a file's questions, which shows what it says; the certificates that are told of its rows prove these
abbrev pub ShownAnswers : FileLimits → Format → List ℕ → List ℕ → Type 0
ShownAnswers limits format = AreLinesFor (IsFileWithin limits)
    (λ (q : QuestionView) (told : ToldReply). Shows q.body told.reply.answer × AreToldOrigins format q.body told.reply.answer told.origins)
    (told_lines format)

-- the lines of a true answer to each of a file's questions
abbrev pub TrueAnswers : FileLimits → Format → List ℕ → List ℕ → Type 0
TrueAnswers limits format = AreLinesFor (IsFileWithin limits)
    (λ (q : QuestionView) (told : ToldReply). IsTrueAnswer q.body told.reply.answer) (told_lines format)

-- the lines of a true reply to each question of a file with a head, as lines of a report or not
abbrev pub TrueCopies : FileLimits → Bool → List ℕ → List ℕ → Type 0
TrueCopies limits report = AreLinesFor (AsksWithCopies limits) (IsTrueCopy limits) (copy_lines report)

-- those of a true reply about factors to each question of such a file, as lines of a report or not
abbrev pub TrueFactors : FileLimits → Bool → List ℕ → List ℕ → Type 0
TrueFactors limits report = AreLinesFor (AsksWithCopies limits) (IsTrueBestReply limits) (best_lines report)

-- the lines of a true reply to each question of a file that asks for outer bounds, made within these limits, as lines of a
-- report or not
abbrev pub TrueBounds : FileLimits → Bool → Limits → List ℕ → List ℕ → Type 0
TrueBounds file report limits = AreLinesFor (IsFileWithin file)
    (λ (q : QuestionView) (told : bounds.ToldReply). true_bounds.IsTrueReply q.body told.reply) (bounds.told_lines report limits)

-- the lines of a true reply to what a sharing file asks, as a line of a report or not
abbrev pub TrueSharing : FileLimits → Bool → List ℕ → List ℕ → Type 0
TrueSharing limits report = AreLinesFor (AsksOfSharing limits) (λ (x : SharingFile) (reply : SharingReply). IsTrueSharing x.says reply)
    (λ k. sharing_lines report)

-- ---- of the call

-- in mode `answer` each answer that was written shows what it says
abbrev pub AnswersShow : Type 0
AnswersShow = (format : Format) (run : Run) (pivots : Option ℕ) (rows tries : ℕ) (names : Option ℕ)
    → WritesSuch (Answer format run pivots rows tries names) (ShownAnswers (limits_of_names names) format)

-- in mode `answer` each answer that was written is true
abbrev pub AnswersAreTrue : Type 0
AnswersAreTrue = (format : Format) (run : Run) (pivots : Option ℕ) (rows tries : ℕ) (names : Option ℕ)
    → WritesSuch (Answer format run pivots rows tries names) (TrueAnswers (limits_of_names names) format)

-- in mode `copy` each reply that was written is true
abbrev pub CopiesAreTrue : Type 0
CopiesAreTrue = (report : Bool) (run : Run) (pivots names : Option ℕ) → WritesSuch (Copy report run pivots names)
    (TrueCopies (limits_of_names names) report)

-- in mode `best` each reply that was written is true
abbrev pub FactorsAreTrue : Type 0
FactorsAreTrue = (report : Bool) (run : Run) (pivots names : Option ℕ) → WritesSuch (Best report run pivots names)
    (TrueFactors (limits_of_names names) report)

-- in mode `outer` each reply that was written is true
abbrev pub BoundsAreTrue : Type 0
BoundsAreTrue = (report : Bool) (run : Run) (pivots : Option ℕ) (rows tries : ℕ) (names : Option ℕ)
    → WritesSuch (Outer report run pivots rows tries names) (TrueBounds (limits_of_names names) report (limits_of run pivots rows tries))

-- in mode `sharing` the reply that was written is true
abbrev pub SharingIsTrue : Type 0
SharingIsTrue = (report : Bool) (run : Run) (pivots names : Option ℕ) → WritesSuch (Sharing report run pivots names)
    (TrueSharing (limits_of_names names) report)
