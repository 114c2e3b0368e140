-- Each mode is determined, and so an input has one output.
use Rattle.std.proofs.Common.{Bool, ◌≡◌, ◌≢◌, ℕ, ◌+◌, ◌≤◌, List, [], ◌∷◌, ◌++◌, length, get_or, map, flat_map, Option, Some, None, true, All, refl, sym, ap, ap₂, subst, ◌∙◌, arith}
use Rattle.std.proofs.lemmas.List.Elements.{All-head, All-nil, All-cons, All-tail, All-weaker}
use Rattle.std.proofs.lemmas.Bool.{false≢true}
use Rattle.it_space.specs.Answers.{AnswerView, CertificateView}
use Rattle.it_question.specs.declared.sizes.FileLimits.{FileLimits}
use Rattle.it_question.specs.Questions.{BodyView, QuestionView}
use Rattle.it_question.specs.Files.{FileFaultIsOne, FileIsOne, FileOrFault, IsFile}
use Rattle.it_question.specs.QuestionLimits.{most_lines, most_names, usual}
use Rattle.it_question.proofs.FileReadings.{file_has_few_names}
use Rattle.it_canon.specs.QuestionDemands.{problem_of}
use Rattle.it_space.proofs.EveryLemmas.{all_of, every-map, every_of}
use Rattle.it_copy.specs.declared.types.CopyFault.{CopyFault}
use Rattle.it_copy.specs.CopyLines.{CopyView}
use Rattle.it_copy.specs.Extensions.{IsExtension, IsMisfit}
use Rattle.it_copy.specs.Files.{CopyFaultIsOne, CopyFileIsOne, CopyFileOrFault}
use Rattle.it_copy.specs.Points.{ExtensionOrMisfit, OneExtension, OneMisfit}
use Rattle.it_prove.specs.Reach.{is_in_reach}
use Rattle.it_prove.specs.declared.types.Effort.{Effort}
use Rattle.it_prove.specs.declared.types.Runs.TheVariants.{Defined}
use Rattle.it_contain.specs.Proposals.{Plan, plan_after_all}
use Rattle.it_answer.specs.Replies.{Reply}
use Rattle.it_answer.specs.RightAnswers.{FileIsInReach, OneRightAnswer}
use Rattle.it_bounds.specs.Reports.{OneRightTold}
use Rattle.it_factor.specs.RightReplies.{IsRightReply, OneRightReply}
use Rattle.it_outer.specs.declared.types.Limits.{Limits}
use Rattle.it_sharing.specs.SharingFiles.{SharingFaultIsOne, SharingIsOne, SharingOrFault}
use Rattle.it_sharing.specs.Sharings.{SharingView, made_question, maximal_count, minimal_count}
use Rattle.it_report.specs.Meaning as reports
use Rattle.it_settings.specs.declared.types.Format.{Format}
use Rattle.it_settings.specs.declared.types.Format.TheVariants.{Text, Json, Proof, Derived}
use Rattle.it_settings.specs.declared.types.Run.{Run}
use Rattle.it_settings.specs.declared.types.Run.TheVariants.{Bland, Quick}
use Rattle.it_settings.specs.declared.types.Settings.TheVariants.{Answer, Check, Bench, Copy, Best, Outer, Sharing}
use Rattle.it_answer.specs.declared.types.Budgets.{Budgets}
use Rattle.it_gen.specs.GeneratedFiles.{generated_file}
use Rattle.it_cli.specs.BestReplies.{BestReply, IsAskedWith, IsRightBestReply, IsToldMisfit}
use Rattle.it_cli.specs.Copies.{AsksWithCopies, CopyQuestion, CopyReply, Extended, IsRightCopy, IsRightProof, Misfit, with_copies}
use Rattle.it_cli.specs.Counts.{AreCounted, IsBenchLine, bench_line, no_counts}
use Rattle.it_cli.specs.Laws.{CopiesAreInReach, ModesAreDetermined, ModesHaveOneReading, OneOutput, SharingIsInReach}
use Rattle.it_cli.specs.Modes.{HasOneReading, HasOneReply, IsDetermined, Mode, Replies, WholeOutput}
use Rattle.it_cli.specs.Outputs.{answer_mode, bench_mode, best_mode, check_mode, copy_mode, mode_of, outer_mode, sharing_mode}
use Rattle.it_cli.specs.Right.{budgets_of, effort_of, limits_of, limits_of_names}
use Rattle.it_cli.specs.ToldOrigins.{AreToldOrigins, IsRightTold, ToldReply}
use Rattle.it_cli.specs.SharingReplies.{AsksOfSharing, SharingFile, Answered, Factored, IsRightSharing, Many, SharingReply, said_by}
use Rattle.it_cli.specs.declared.status.Status.{Status}
use Rattle.it_cli.proofs.CountLemmas.{one_count}
use Rattle.it_cli.proofs.ReplyLemmas.{RepliesFrom}

-- ---- a mode that is determined has one output

module _ (m : Mode) (d : IsDetermined m) where
  one_text : (k : ℕ) (xs : List m.Item) (s t u : List m.Reply) (out other : List ℕ) → All (HasOneReply m) xs → RepliesFrom m k s xs t out
      → RepliesFrom m k s xs u other → (out ≡ other) × (t ≡ u)
  one_text k [] s t u out other each a b = (a.1 ∙ sym b.1, a.0 ∙ sym b.0)
  one_text k (x ∷ xs) s t u out other each (reply, rest, right, groups, is) (another, others, is_right, more, so) =
      let same : another ≡ reply = All-head (HasOneReply m) x xs each s another reply is_right right in
      let moved = subst (λ (y : m.Reply). RepliesFrom m (k + 1) (s ++ y ∷ []) xs u others) same more in
      let later = one_text (k + 1) xs (s ++ reply ∷ []) t u rest others (All-tail (HasOneReply m) x xs each) groups moved in
      (is ∙ ap₂ (λ y ys. m.text k x y ++ ys) (sym same) later.0 ∙ sym so, later.1)

  one_whole : (bytes out other : List ℕ) (s t : Status) → WholeOutput m bytes out s → WholeOutput m bytes other t → (out ≡ other) × (s ≡ t)
  one_whole bytes out other s t a b =
      let same = d.reading.one_reading bytes b.items a.items b.asked a.asked in
      let both = one_text 1 a.items [] a.replies b.replies out other (d.one_reply bytes a.items a.asked) a.written
      (subst (λ (xs : List m.Item). Replies m xs b.replies other) same b.written) in
      (both.0, a.is ∙ ap m.status both.1 ∙ sym b.is)

-- ---- each mode has one reading of bytes

files_are_one : FileIsOne → FileFaultIsOne → FileOrFault → (limits : FileLimits) (budgets : Budgets) (plans : List Plan) (format : Format)
    → HasOneReading (answer_mode limits budgets plans format)
files_are_one one_file one_fault apart limits budgets plans format = record
    { one_reading = one_file limits; one_fault = one_fault limits; apart = apart limits }

lines_are_one : (limits : FileLimits) → HasOneReading (check_mode limits)
lines_are_one limits = record {
  one_reading = λ bytes xs ys a b. a ∙ sym b;
  one_fault = λ bytes line column row place c d f g. absurd f;
  apart = λ bytes xs line column c a f. f;
}

nothing_is_one : (budgets : Budgets) (plans : List Plan) (seed count : ℕ) → HasOneReading (bench_mode budgets plans seed count)
nothing_is_one budgets plans seed count = record {
  one_reading = λ bytes xs ys a b. a ∙ sym b;
  one_fault = λ bytes line column row place c d f g. absurd f;
  apart = λ bytes xs line column c a f. f;
}

-- a file with a head has one reading or one fault, and a question one extension or one reason against it
pub record CopiesAreOne : Type 0 where
  pub file : CopyFileIsOne
  pub fault : CopyFaultIsOne
  pub apart : CopyFileOrFault
  pub extension : OneExtension
  pub misfit : OneMisfit
  pub either : ExtensionOrMisfit

heads_are_one : CopiesAreOne → (limits : FileLimits) (report : Bool) (effort : Effort) → HasOneReading (copy_mode limits report effort)
heads_are_one one limits report effort = record {
  one_reading = λ bytes xs ys a b. let same = one.file limits bytes a.copies b.copies a.questions b.questions a.read b.read
      in a.are ∙ ap₂ (λ (cs : List CopyView) (qs : List QuestionView). map (with_copies cs) qs) same.0 same.1 ∙ sym b.are;
  one_fault = one.fault limits;
  apart = λ bytes xs line column c a f. one.apart limits bytes a.copies a.questions line column c a.read f;
}

factored_are_one : CopiesAreOne → (limits : FileLimits) (report : Bool) (effort : Effort) → HasOneReading (best_mode limits report effort)
factored_are_one one limits report effort = let mode = heads_are_one one limits report effort
    in record { one_reading = mode.one_reading; one_fault = mode.one_fault; apart = mode.apart }

bounded_are_one : FileIsOne → FileFaultIsOne → FileOrFault → (file : FileLimits) (report : Bool) (limits : Limits)
    → HasOneReading (outer_mode file report limits)
bounded_are_one one_file one_fault apart file report limits = record { one_reading = one_file file; one_fault = one_fault file; apart = apart file }

-- a sharing file has one reading or one fault
pub record SharingsAreOne : Type 0 where
  pub file : SharingIsOne
  pub fault : SharingFaultIsOne
  pub apart : SharingOrFault

sharing_files_are_one : SharingsAreOne → (limits : FileLimits) (report : Bool) (effort : Effort) → HasOneReading (sharing_mode limits report effort)
sharing_files_are_one one limits report effort = record {
  one_reading = λ bytes xs ys a b. a.is ∙ ap (λ x. said_by bytes x ∷ []) (one.file limits bytes a.file b.file a.read b.read) ∙ sym b.is;
  one_fault = one.fault limits;
  apart = λ bytes xs line column c a f. one.apart limits bytes a.file line column c a.read f;
}

module _ (one_file : FileIsOne) (one_fault : FileFaultIsOne) (apart : FileOrFault) (copies : CopiesAreOne) (sharings : SharingsAreOne) where
  pub modes_have_one_reading : ModesHaveOneReading
  modes_have_one_reading plans (Answer format run pivots rows tries names) = files_are_one one_file one_fault apart (limits_of_names names)
      (budgets_of run pivots rows tries) plans format
  modes_have_one_reading plans (Check names) = lines_are_one (limits_of_names names)
  modes_have_one_reading plans (Bench seed count run pivots rows tries) = nothing_is_one (budgets_of run pivots rows tries) plans seed count
  modes_have_one_reading plans (Copy report run pivots names) = heads_are_one copies (limits_of_names names) report (effort_of run pivots)
  modes_have_one_reading plans (Best report run pivots names) = factored_are_one copies (limits_of_names names) report (effort_of run pivots)
  modes_have_one_reading plans (Outer report run pivots rows tries names) = bounded_are_one one_file one_fault apart (limits_of_names names) report
      (limits_of run pivots rows tries)
  modes_have_one_reading plans (Sharing report run pivots names) = sharing_files_are_one sharings (limits_of_names names) report (effort_of run pivots)

-- ---- and one reply to an item, where the defined run alone is made

-- Bland's run is the defined one
is_defined : (run : Run) (pivots : Option ℕ) → run ≡ Bland → (effort_of run pivots).runs ≡ Defined
is_defined Bland pivots e = refl
is_defined Quick pivots e = absurd (cc)

-- no certificates are told in another format
none_told : (format : Format) → format ≢ Derived → (q : BodyView) (answer : AnswerView) (origins : Option (List CertificateView))
    → AreToldOrigins format q answer origins → origins ≡ None
none_told Text other q answer origins told = told
none_told Json other q answer origins told = told
none_told Proof other q answer origins told = told
none_told Derived other q answer origins told = absurd (other refl)

abbrev told_of : Reply → Option (List CertificateView) → ToldReply
told_of reply origins = record { reply = reply; origins = origins }

one_told : (format : Format) → format ≢ Derived → OneRightAnswer → (budgets : Budgets) → budgets.effort.runs ≡ Defined
    → (plans : List Plan) (q : BodyView) (a b : ToldReply) → is_in_reach (problem_of q) ≡ true
    → IsRightTold format budgets plans q a → IsRightTold format budgets plans q b → a ≡ b
one_told format other one_answer budgets defined plans q a b reach f g =
    ap₂ told_of (one_answer budgets plans q a.reply b.reply defined reach f.reply g.reply)
    (none_told format other q a.reply.answer a.origins f.origins ∙ sym (none_told format other q b.reply.answer b.origins g.origins))

one_line : OneRightAnswer → FileIsOne → FileIsInReach → (budgets : Budgets) → budgets.effort.runs ≡ Defined
    → (plans : List Plan) (seed count : ℕ) (line other : List ℕ) → IsBenchLine budgets plans seed count line → IsBenchLine budgets plans seed count other
    → line ≡ other
one_line one_answer one_file reach budgets defined plans seed count line other a b =
    let same = one_file usual (generated_file seed count) a.questions b.questions a.asked b.asked in
    let moved : AreCounted budgets plans [] no_counts b.questions a.counts = subst
    (λ (qs : List QuestionView). AreCounted budgets plans [] no_counts qs a.counts) same a.counted in
    a.is ∙ ap (bench_line seed count) (one_count one_answer budgets defined plans [] no_counts b.questions a.counts b.counts
    (reach (generated_file seed count) b.questions b.asked) moved b.counted) ∙ sym b.is

-- what is asked of a question with some copies is one question, or there is one reason against it
module _ (one : CopiesAreOne) (limits : FileLimits) where
  asked_is_one : (q d e : BodyView) (cs : List CopyView) → IsAskedWith limits q cs d → IsAskedWith limits q cs e → d ≡ e
  asked_is_one q d e [] a b = a ∙ sym b
  asked_is_one q d e (c ∷ cs) a b = one.extension limits q d e (c ∷ cs) a b

  asked_or_misfit : (x : CopyQuestion) (e : BodyView) (cs : List CopyView) (f : CopyFault) → x.copies ≡ cs
      → IsAskedWith limits x.question.body cs e → IsToldMisfit limits x f → ⊥
  asked_or_misfit x e [] f is a (some, told, misfit) = some is
  asked_or_misfit x e (c ∷ cs) f is a (some, told, misfit) = one.either limits x.question.body e (c ∷ cs) f told a
      (subst (λ (ds : List CopyView). IsMisfit limits x.question.body ds f) is misfit)

-- the defined run about a question of a usual file, and about the question with copies, is in reach
abbrev IsReached : CopyQuestion → Type 0
IsReached x = (is_in_reach (problem_of x.question.body) ≡ true)
    × ((e : BodyView) → IsExtension usual x.question.body x.copies e → is_in_reach (problem_of e) ≡ true)

asked_in_reach : (q e : BodyView) (cs : List CopyView) → is_in_reach (problem_of q) ≡ true
    → ((d : BodyView) → IsExtension usual q cs d → is_in_reach (problem_of d) ≡ true) → IsAskedWith usual q cs e → is_in_reach (problem_of e) ≡ true
asked_in_reach q e [] own extended is = subst (λ (d : BodyView). is_in_reach (problem_of d) ≡ true) (sym is) own
asked_in_reach q e (c ∷ cs) own extended is = extended e is

module _ (one_factor : OneRightReply) (effort : Effort) (defined : effort.runs ≡ Defined) where
  one_best : CopiesAreOne → (x : CopyQuestion) (a b : BestReply) → IsReached x → IsRightBestReply usual effort x a → IsRightBestReply usual effort x b → a ≡ b
  one_best one x (Misfit f) (Misfit g) reach (some, told, is) (some', other, so) = ap Misfit (one.misfit usual x.question.body x.copies f g told other is so)
  one_best one x (Misfit f) (Extended e a) reach misfit (asked, right) = absurd (asked_or_misfit one usual x e x.copies f refl asked misfit)
  one_best one x (Extended e a) (Misfit f) reach (asked, right) misfit = absurd (asked_or_misfit one usual x e x.copies f refl asked misfit)
  one_best one x (Extended d a) (Extended e b) reach (asked, right) (other, is_right) =
      let same : e ≡ d = asked_is_one one usual x.question.body e d x.copies other asked in
      ap₂ Extended (sym same) (one_factor effort d a b defined (asked_in_reach x.question.body d x.copies reach.0 reach.1 asked) right
      (subst (λ (q : BodyView). IsRightReply effort q b) same is_right))

module _ (one_answer : OneRightAnswer) (effort : Effort) (defined : effort.runs ≡ Defined) where
  -- a question about a relation has one right answer
  same_proof : (e : BodyView) (a b : AnswerView) → is_in_reach (problem_of e) ≡ true → IsRightProof effort e a → IsRightProof effort e b → a ≡ b
  same_proof e a b reach f g = ap (λ (r : Reply). r.answer) (one_answer (record { effort = effort; rows = 1; tries = 1 }) [] e
      (record { answer = a; found = [] }) (record { answer = b; found = [] }) defined reach f g)

  one_copy : CopiesAreOne → (x : CopyQuestion) (a b : CopyReply) → IsReached x → IsRightCopy usual effort x a → IsRightCopy usual effort x b → a ≡ b
  one_copy one x (Misfit f) (Misfit g) reach (told, is) (other, so) = ap Misfit (one.misfit usual x.question.body x.copies f g told other is so)
  one_copy one x (Misfit f) (Extended e a) reach (told, is) (extension, right) = absurd (one.either usual x.question.body e x.copies f told extension is)
  one_copy one x (Extended e a) (Misfit f) reach (extension, right) (told, is) = absurd (one.either usual x.question.body e x.copies f told extension is)
  one_copy one x (Extended d a) (Extended e b) reach (extension, right) (other, is_right) =
      let same : e ≡ d = one.extension usual x.question.body e d x.copies other extension in
      ap₂ Extended (sym same) (same_proof d a b (reach.1 d extension) right (subst (λ (q : BodyView). IsRightProof effort q b) same is_right))

  one_sharing : OneRightReply → (x : SharingView) (a b : SharingReply)
      → (minimal_count x + maximal_count x ≤ most_lines → is_in_reach (problem_of (made_question x).body) ≡ true)
      → IsRightSharing effort x a → IsRightSharing effort x b → a ≡ b
  one_sharing one_factor x Many Many reach f g = refl
  one_sharing one_factor x Many (Answered b) reach f (few, asked, right) = absurd (omega (arith, f, few))
  one_sharing one_factor x Many (Factored b) reach f (few, asked, right) = absurd (omega (arith, f, few))
  one_sharing one_factor x (Answered a) Many reach (few, asked, right) g = absurd (omega (arith, g, few))
  one_sharing one_factor x (Answered a) (Answered b) reach (few, asked, right) (few', asked', right') = ap Answered
      (same_proof (made_question x).body a b (reach few) right right')
  one_sharing one_factor x (Answered a) (Factored b) reach (few, asked, right) (few', asked', right') = absurd (false≢true (sym asked ∙ asked'))
  one_sharing one_factor x (Factored a) Many reach (few, asked, right) g = absurd (omega (arith, g, few))
  one_sharing one_factor x (Factored a) (Answered b) reach (few, asked, right) (few', asked', right') = absurd (false≢true (sym asked' ∙ asked))
  one_sharing one_factor x (Factored a) (Factored b) reach (few, asked, right) (few', asked', right') = ap Factored
      (one_factor effort (made_question x).body a b defined (reach few) right right')

-- the items of a usual file with a head are in reach, and so is what a sharing file asks
copies_reached : CopiesAreInReach → (bytes : List ℕ) (xs : List CopyQuestion) → AsksWithCopies usual bytes xs → All IsReached xs
copies_reached reach bytes xs asked = subst (All IsReached) (sym asked.are) (all_of IsReached (map (with_copies asked.copies) asked.questions)
    (every-map IsReached (with_copies asked.copies) asked.questions
    (every_of (λ (q : QuestionView). IsReached (with_copies asked.copies q)) asked.questions (reach bytes asked.copies asked.questions asked.read))))

-- what holds of a file's own questions holds of its items
module _ (reach : FileIsInReach) (one_answer : OneRightAnswer) (budgets : Budgets) (defined : budgets.effort.runs ≡ Defined) (plans : List Plan)
    (format : Format) (other : format ≢ Derived) where
  answers_are_one : (bytes : List ℕ) (xs : List QuestionView) → IsFile bytes xs → All (HasOneReply (answer_mode usual budgets plans format)) xs
  answers_are_one bytes xs asked = All-weaker (λ (q : QuestionView). is_in_reach (problem_of q.body) ≡ true)
      (HasOneReply (answer_mode usual budgets plans format))
      (λ x near s a b f g. one_told format other one_answer budgets defined
      (map (plan_after_all (flat_map (λ (t : ToldReply). t.reply.found) s)) plans) x.body a b near f g) xs (reach bytes xs asked)

module _ (sharing_reach : SharingIsInReach) (one_answer : OneRightAnswer) (one_factor : OneRightReply) (effort : Effort) (defined : effort.runs ≡ Defined)
    (report : Bool) where
  sharings_are_one : (bytes : List ℕ) (xs : List SharingFile) → AsksOfSharing usual bytes xs → All (HasOneReply (sharing_mode usual report effort)) xs
  sharings_are_one bytes xs asked = subst (All (HasOneReply (sharing_mode usual report effort))) (sym asked.is)
      (All-cons (HasOneReply (sharing_mode usual report effort)) (said_by bytes asked.file) []
      (λ s a b f g. one_sharing one_answer effort defined one_factor asked.file a b (sharing_reach bytes asked.file asked.read) f g)
      (All-nil (HasOneReply (sharing_mode usual report effort))))

-- files with limits of their own aren't usual
not_usual : (n : ℕ) → Some n ≡ None → ⊥
not_usual n e = cc

module _ (reading : ModesHaveOneReading) (one_answer : OneRightAnswer) (one_file : FileIsOne) (one_verdict : reports.OneVerdict)
    (copies : CopiesAreOne) (one_factor : OneRightReply) (one_bound : OneRightTold)
    (reach : FileIsInReach) (copies_reach : CopiesAreInReach) (sharing_reach : SharingIsInReach) where
  answers_determined : (plans : List Plan) (format : Format) (run : Run) (pivots : Option ℕ) (rows tries : ℕ) → run ≡ Bland → format ≢ Derived
      → IsDetermined (answer_mode usual (budgets_of run pivots rows tries) plans format)
  answers_determined plans format run pivots rows tries bland other = record {
    reading = reading plans (Answer format run pivots rows tries None);
    one_reply = answers_are_one reach one_answer (budgets_of run pivots rows tries) (is_defined run pivots bland) plans format other;
  }

  verdicts_determined : (names : Option ℕ) → IsDetermined (check_mode (limits_of_names names))
  verdicts_determined names = record {
    reading = reading [] (Check names);
    one_reply = λ bytes xs asked i d l s a b f g. one_verdict (limits_of_names names) (get_or xs i d) a b f g;
  }

  counts_determined : (plans : List Plan) (seed count : ℕ) (run : Run) (pivots : Option ℕ) (rows tries : ℕ) → run ≡ Bland
      → IsDetermined (bench_mode (budgets_of run pivots rows tries) plans seed count)
  counts_determined plans seed count run pivots rows tries bland = record {
    reading = reading plans (Bench seed count run pivots rows tries);
    one_reply = λ bytes xs asked i d l s a b f g.
        one_line one_answer one_file reach (budgets_of run pivots rows tries) (is_defined run pivots bland) plans seed count a b f g;
  }

  copies_determined : (report : Bool) (run : Run) (pivots : Option ℕ) → run ≡ Bland → IsDetermined (copy_mode usual report (effort_of run pivots))
  copies_determined report run pivots bland = record {
    reading = reading [] (Copy report run pivots None);
    one_reply = λ bytes xs asked. All-weaker IsReached (HasOneReply (copy_mode usual report (effort_of run pivots)))
        (λ x near s a b f g. one_copy one_answer (effort_of run pivots) (is_defined run pivots bland) copies x a b near f g)
        xs (copies_reached copies_reach bytes xs asked);
  }

  factors_determined : (report : Bool) (run : Run) (pivots : Option ℕ) → run ≡ Bland → IsDetermined (best_mode usual report (effort_of run pivots))
  factors_determined report run pivots bland = record {
    reading = reading [] (Best report run pivots None);
    one_reply = λ bytes xs asked. All-weaker IsReached (HasOneReply (best_mode usual report (effort_of run pivots)))
        (λ x near s a b f g. one_best one_factor (effort_of run pivots) (is_defined run pivots bland) copies x a b near f g)
        xs (copies_reached copies_reach bytes xs asked);
  }

  bounds_determined : (report : Bool) (run : Run) (pivots : Option ℕ) (rows tries : ℕ) → run ≡ Bland
      → IsDetermined (outer_mode usual report (limits_of run pivots rows tries))
  bounds_determined report run pivots rows tries bland = record {
    reading = reading [] (Outer report run pivots rows tries None);
    one_reply = λ bytes xs asked. All-weaker (λ (q : QuestionView). length q.body.names.variables ≤ most_names)
        (HasOneReply (outer_mode usual report (limits_of run pivots rows tries)))
        (λ x few s a b f g. one_bound report (limits_of run pivots rows tries) x.body a b (is_defined run pivots bland) few f g)
        xs (file_has_few_names bytes xs asked);
  }

  sharings_determined : (report : Bool) (run : Run) (pivots : Option ℕ) → run ≡ Bland → IsDetermined (sharing_mode usual report (effort_of run pivots))
  sharings_determined report run pivots bland = record {
    reading = reading [] (Sharing report run pivots None);
    one_reply = sharings_are_one sharing_reach one_answer one_factor (effort_of run pivots) (is_defined run pivots bland) report;
  }

  pub modes_are_determined : ModesAreDetermined
  modes_are_determined plans (Answer format run pivots rows tries None) (bland, other, usual_file) =
      answers_determined plans format run pivots rows tries bland other
  modes_are_determined plans (Answer format run pivots rows tries (Some n)) (bland, other, usual_file) = absurd (not_usual n usual_file)
  modes_are_determined plans (Check names) bland = verdicts_determined names
  modes_are_determined plans (Bench seed count run pivots rows tries) bland = counts_determined plans seed count run pivots rows tries bland
  modes_are_determined plans (Copy report run pivots None) (bland, usual_file) = copies_determined report run pivots bland
  modes_are_determined plans (Copy report run pivots (Some n)) (bland, usual_file) = absurd (not_usual n usual_file)
  modes_are_determined plans (Best report run pivots None) (bland, usual_file) = factors_determined report run pivots bland
  modes_are_determined plans (Best report run pivots (Some n)) (bland, usual_file) = absurd (not_usual n usual_file)
  modes_are_determined plans (Outer report run pivots rows tries None) (bland, usual_file) = bounds_determined report run pivots rows tries bland
  modes_are_determined plans (Outer report run pivots rows tries (Some n)) (bland, usual_file) = absurd (not_usual n usual_file)
  modes_are_determined plans (Sharing report run pivots None) (bland, usual_file) = sharings_determined report run pivots bland
  modes_are_determined plans (Sharing report run pivots (Some n)) (bland, usual_file) = absurd (not_usual n usual_file)

pub one_output : ModesAreDetermined → OneOutput
one_output determined plans settings bytes out other s t bland a b = one_whole (mode_of plans settings)
    (determined plans settings bland) bytes out other s t a b
