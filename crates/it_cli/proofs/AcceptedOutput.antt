-- The lines of a report that mode `answer` writes are those of the answers, and no verdict on one is invalid.
use Rattle.std.proofs.Common.{◌≡◌, ℕ, ◌+◌, ◌<◌, ◌≤◌, ◌^◌, false, ◌||◌, List, [], ◌∷◌, ◌++◌, map, length, All, IfSome, Option, refl, sym, ap, ap₂, subst, ◌∙◌, arith, append_assoc}
use Rattle.std.proofs.lemmas.List.Elements.{All-head, All-tail}
use Rattle.std.specs.List.{list_any}
use Rattle.it_settings.specs.declared.types.Format.{Format}
use Rattle.it_settings.specs.declared.types.Run.{Run}
use Rattle.it_settings.specs.declared.types.Run.TheVariants.{Bland, Quick}
use Rattle.it_question.specs.declared.sizes.FileLimits.{FileLimits}
use Rattle.it_question.specs.Files.{IsFileWithin}
use Rattle.it_question.specs.Lines.{split_lines}
use Rattle.it_question.specs.Questions.{QuestionView}
use Rattle.it_question.proofs.TextLaws.{text_reads_back}
use Rattle.it_certificate.specs.Laws.{OriginsReadBack, ReadsBack}
use Rattle.it_contain.specs.Proposals.{Plan, plan_after_all}
use Rattle.it_answer.specs.declared.types.Budgets.{Budgets}
use Rattle.it_report.specs.LineVerdicts.{LineVerdict, is_invalid}
use Rattle.it_cli.specs.Accepted.{IsOfReports, OutputIsAccepted}
use Rattle.it_cli.specs.Modes.{Replies}
use Rattle.it_cli.specs.Outputs.{answer_mode, check_mode, verdict_status}
use Rattle.it_cli.specs.Right.{budgets_of, effort_of, limits_of_names}
use Rattle.it_cli.specs.ToldOrigins.{ToldReply, told_report}
use Rattle.it_cli.proofs.AcceptedOrigins.{lines_are_report, told_accepted}
use Rattle.it_cli.proofs.FeedLemmas.{split_one}
use Rattle.it_cli.proofs.ShortTexts.{texts_are_short}
use Rattle.it_cli.proofs.ReplyLemmas.{RepliesFrom, any_more}
use Rattle.it_cli.proofs.RightLemmas.{found_in}

module _ (allowed : FileLimits) (back : ReadsBack) (origins_back : OriginsReadBack) (format : Format) (reports : IsOfReports format) (budgets : Budgets)
    (plans : List Plan) (few : IfSome budgets.effort.pivots (λ n. n < 2 ^ 32)) (few_tries : budgets.tries < 2 ^ 32) (bytes : List ℕ)
    (short : length bytes ≤ 1048576) (whole : List QuestionView) (file : IsFileWithin allowed bytes whole) where
  none_invalid : (k j : ℕ) (prefix qs : List QuestionView) (s t : List ToldReply) (before verdicts : List LineVerdict) (out told : List ℕ)
      → whole ≡ prefix ++ qs → All (λ q. length q.text ≤ length bytes + 1) qs
      → RepliesFrom (answer_mode allowed budgets plans format) k s qs t out → list_any is_invalid before ≡ false
      → RepliesFrom (check_mode allowed) j before (split_lines out) verdicts told
      → list_any is_invalid verdicts ≡ false
  none_invalid k j prefix [] s t before verdicts out told e lengths g clean v =
      ap (list_any is_invalid) (subst (λ (o : List ℕ). RepliesFrom (check_mode allowed) j before (split_lines o) verdicts told) g.1 v).0 ∙ clean
  none_invalid k j prefix (q ∷ qs) s t before verdicts out told e lengths g clean v =
      let long = All-head (λ (q : QuestionView). length q.text ≤ length bytes + 1) q qs lengths in
      let fine = told_accepted allowed back origins_back format budgets (map (plan_after_all (found_in s)) plans) q g.0 few few_tries
      (omega (arith, long, short)) (text_reads_back allowed bytes whole qs q prefix file e) g.2 in
      let line = told_report q g.0.reply.answer g.0.origins in
      let cut : split_lines out ≡ line ∷ split_lines g.1 = ap split_lines
      (g.4 ∙ ap (λ (ls : List ℕ). ls ++ g.1) (lines_are_report format reports k q g.0 g.2.origins)) ∙ split_one line g.1 fine.clear in
      let w = subst (λ (ls : List (List ℕ)). RepliesFrom (check_mode allowed) j before ls verdicts told) cut v in
      let ok = fine.verdicts w.0 w.2 in
      none_invalid (k + 1) (j + 1) (prefix ++ q ∷ []) qs (s ++ g.0 ∷ []) t (before ++ w.0 ∷ []) verdicts g.1 w.1 (e ∙ sym (append_assoc prefix (q ∷ []) qs))
      (All-tail (λ (q : QuestionView). length q.text ≤ length bytes + 1) q qs lengths) g.3
      (any_more is_invalid before w.0 ∙ ap₂ (λ x y. x || y) clean ok) w.3

-- the steps of an effort are those that are given, whichever run comes first
steps_of_effort : (run : Run) (pivots : Option ℕ) → pivots ≡ (effort_of run pivots).pivots
steps_of_effort Bland pivots = refl
steps_of_effort Quick pivots = refl

pub output_is_accepted : ReadsBack → OriginsReadBack → OutputIsAccepted
output_is_accepted back origins_back plans format run pivots rows tries names bytes out told answered checked few few_tries short reports a c =
    let verdicts = subst (λ (lines : List (List ℕ)). Replies (check_mode (limits_of_names names)) lines c.replies told) c.asked c.written in
    let none = none_invalid (limits_of_names names) back origins_back format reports (budgets_of run pivots rows tries) plans
    (subst (λ (o : Option ℕ). IfSome o (λ n. n < 2 ^ 32)) (steps_of_effort run pivots) few) few_tries bytes short a.items a.asked 1 1 []
    a.items [] a.replies [] c.replies out told refl (texts_are_short (limits_of_names names) bytes a.items a.asked) a.written refl verdicts in
    c.is ∙ ap verdict_status none
