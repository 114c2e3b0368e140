-- What is written in the formats `json` and `derived` is accepted where it is checked.
use Rattle.std.specs.Prelude.{◌≡◌, ℕ, ◌<◌, ◌≤◌, ◌^◌, List, [], ◌∷◌, length, false, Option, IfSome}
use Rattle.it_settings.specs.declared.types.Format.{Format}
use Rattle.it_settings.specs.declared.types.Format.TheVariants.{Json, Derived}
use Rattle.it_settings.specs.declared.types.Run.{Run}
use Rattle.it_settings.specs.declared.types.Settings.TheVariants.{Answer, Check}
use Rattle.it_question.specs.declared.sizes.FileLimits.{FileLimits}
use Rattle.it_question.specs.Questions.{QuestionView}
use Rattle.it_question.specs.Files.{IsFileWithin}
use Rattle.it_contain.specs.Proposals.{Plan}
use Rattle.it_answer.specs.declared.types.Budgets.{Budgets}
use Rattle.it_report.specs.LineVerdicts.{LineVerdict, is_invalid}
use Rattle.it_report.specs.Judging.{IsVerdict}
use Rattle.it_cli.specs.Outputs.{IsOutput}
use Rattle.it_cli.specs.ToldOrigins.{IsRightTold, ToldReply, told_report}
use Rattle.it_cli.specs.declared.status.Status.{Status}
use Rattle.it_cli.specs.declared.status.Status.TheVariants.{Done}
use Rattle.it_question.specs.QuestionLimits.{most_file_bytes}
use Rattle.it_syntax.specs.Lines.{most_text_bytes}

-- Each verdict on the report of a right answer, with what any format tells of its rows, is `valid` or `skipped`.
abbrev pub ReportsAreAccepted : Type 0
ReportsAreAccepted = (limits : FileLimits) (format : Format) (budgets : Budgets) (plans : List Plan) (q : QuestionView) (told : ToldReply)
    → IfSome budgets.effort.pivots (λ n. n < 2 ^ 32) → budgets.tries < 2 ^ 32 → length q.text ≤ most_text_bytes
    → IsFileWithin limits q.text (q ∷ []) → IsRightTold format budgets plans q.body told
    → (v : LineVerdict) → IsVerdict limits (told_report q told.reply.answer told.origins) v → is_invalid v ≡ false

-- the formats that write reports
abbrev pub IsOfReports : Format → Type 0
IsOfReports Json = Unit {0}
IsOfReports Derived = Unit {0}
IsOfReports format = ⊥

-- Where the whole output for a question file is checked as a report, with the same limits, the status is `Done`, whatever the plans of the
-- boxes.
abbrev pub OutputIsAccepted : Type 0
OutputIsAccepted = (plans : List Plan) (format : Format) (run : Run) (pivots : Option ℕ) (rows tries : ℕ) (names : Option ℕ)
    (bytes out told : List ℕ) (answered checked : Status) → IfSome pivots (λ n. n < 2 ^ 32) → tries < 2 ^ 32
    → length bytes ≤ most_file_bytes
    → IsOfReports format → IsOutput plans (Answer format run pivots rows tries names) bytes out answered
    → IsOutput plans (Check names) out told checked → checked ≡ Done
