-- The modes, and the output of the one that the words ask for.
use Rattle.std.specs.Prelude.{◌≡◌, ℕ, List, [], ◌∷◌, flat_map, map, Bool, true, false, Option, Some, None}
use Rattle.std.specs.List.{list_any}
use Rattle.it_outside.specs.Traffic.{IsPrefix}
use Rattle.it_settings.specs.declared.types.Format.{Format}
use Rattle.it_settings.specs.declared.types.Settings.{Settings}
use Rattle.it_settings.specs.declared.types.Settings.TheVariants.{Answer, Check, Bench, Copy, Best, Outer, Sharing}
use Rattle.it_question.specs.declared.sizes.FileLimits.{FileLimits}
use Rattle.it_question.specs.Files.{FileFaultWithin, IsFileWithin}
use Rattle.it_question.specs.Lines.{split_lines}
use Rattle.it_question.specs.Questions.{QuestionView}
use Rattle.it_copy.specs.Files.{CopyFileFaultAt}
use Rattle.it_forms.specs.declared.types.Code.{Code}
use Rattle.it_contain.specs.Proposals.{Plan, plan_after_all}
use Rattle.it_answer.specs.declared.types.Budgets.{Budgets}
use Rattle.it_report.specs.Judging.{IsVerdict}
use Rattle.it_report.specs.LineVerdicts.{LineVerdict, is_invalid, verdict_line}
use Rattle.it_outer.specs.declared.types.Limits.{Limits}
use Rattle.it_prove.specs.declared.types.Effort.{Effort}
use Rattle.it_bounds.specs.Reports as bounds
use Rattle.it_cli.specs.Right.{budgets_of, effort_of, limits_of, limits_of_names}
use Rattle.it_cli.specs.ToldOrigins.{IsRightTold, ToldReply, told_lines}
use Rattle.it_cli.specs.Counts.{IsBenchLine}
use Rattle.it_cli.specs.BestReplies.{IsRightBestReply, best_lines}
use Rattle.it_cli.specs.Copies.{AsksWithCopies, IsRightCopy, copy_lines}
use Rattle.it_sharing.specs.SharingFiles.{SharingFaultAt}
use Rattle.it_cli.specs.SharingReplies.{AsksOfSharing, IsRightSharing, sharing_lines}
use Rattle.it_cli.specs.Modes.{FirstOutput, Mode, OutputInPart, Replies, WholeOutput}
use Rattle.it_cli.specs.declared.status.Status.{Status}
use Rattle.it_cli.specs.declared.status.Status.TheVariants.{Done, Invalid}
use Rattle.it_question.specs.QuestionLimits.{most_file_bytes}

-- the most bytes of an input; None where the mode has no input
abbrev pub most_bytes : Settings → Option ℕ
most_bytes (Check names) = Some 67108864
most_bytes (Bench seed count run pivots rows tries) = None
most_bytes settings = Some most_file_bytes

-- ---- the modes

-- a mode whose status is always that all is done
abbrev pub done_mode : {Item Reply : Type 0} → (List ℕ → List Item → Type 0) → (List ℕ → ℕ → ℕ → Code → Type 0)
    → (List Reply → Item → Reply → Type 0) → (ℕ → Item → Reply → List ℕ) → Mode
done_mode {Item} {Reply} asks fault_at is_right text = record {
  Item = Item;
  Reply = Reply;
  Asks = asks;
  FaultAt = fault_at;
  IsRight = is_right;
  text = text;
  status = λ replies. Done;
}

-- one right answer to each question of a file with these limits, by boxes that had these plans before the first, with what the format tells
-- of its rows
abbrev pub answer_mode : FileLimits → Budgets → List Plan → Format → Mode
answer_mode limits budgets plans format = done_mode (IsFileWithin limits) (FileFaultWithin limits)
    (λ (earlier : List ToldReply) (q : QuestionView) told. IsRightTold format budgets (map (plan_after_all (flat_map (λ (t : ToldReply). t.reply.found) earlier)) plans) q.body told)
    (told_lines format)

-- the status after all verdicts are written
abbrev pub verdict_status : Bool → Status
verdict_status true = Invalid
verdict_status false = Done

-- a mode that goes line by line through a report, and whose status says whether a reply is an invalid one
abbrev pub lines_mode : {Reply : Type 0} → (List ℕ → Reply → Type 0) → (ℕ → Reply → List ℕ) → (Reply → Bool) → Mode
lines_mode {Reply} is_right text invalid = record {
  Item = List ℕ;
  Reply = Reply;
  Asks = λ bytes lines. lines ≡ split_lines bytes;
  FaultAt = λ bytes line column code. ⊥;
  IsRight = λ earlier line reply. is_right line reply;
  text = λ k line reply. text k reply;
  status = λ replies. verdict_status (list_any invalid replies);
}

-- the verdict on each line of a report, whose questions are within these limits
abbrev pub check_mode : FileLimits → Mode
check_mode limits = lines_mode (IsVerdict limits) verdict_line is_invalid

-- the line of the counts for a generated file, which is one item; the input is ignored
abbrev pub bench_mode : Budgets → List Plan → ℕ → ℕ → Mode
bench_mode budgets plans seed count = done_mode (λ bytes items. items ≡ tt {0} ∷ []) (λ bytes line column code. ⊥)
    (λ earlier item line. IsBenchLine budgets plans seed count line) (λ k item line. line)

-- one right reply to each question of a file with a head, as a line of a report or not
abbrev pub copy_mode : FileLimits → Bool → Effort → Mode
copy_mode limits report effort = done_mode (AsksWithCopies limits) (CopyFileFaultAt limits) (λ earlier. IsRightCopy limits effort)
    (copy_lines report)

-- one right reply about factors to each question of a file with a head, which may be empty, as a line of a report or not
abbrev pub best_mode : FileLimits → Bool → Effort → Mode
best_mode limits report effort = done_mode (AsksWithCopies limits) (CopyFileFaultAt limits) (λ earlier. IsRightBestReply limits effort)
    (best_lines report)

-- one right reply to each question of a file that asks for outer bounds, as a line of a report or not
abbrev pub outer_mode : FileLimits → Bool → Limits → Mode
outer_mode file report limits = done_mode (IsFileWithin file) (FileFaultWithin file)
    (λ earlier q told. bounds.IsRightTold report file limits q.body told) (bounds.told_lines report limits)

-- one right reply to what a sharing file asks, as a line of a report or not
abbrev pub sharing_mode : FileLimits → Bool → Effort → Mode
sharing_mode limits report effort = done_mode (AsksOfSharing limits) (SharingFaultAt limits) (λ earlier x. IsRightSharing effort x.says)
    (λ k. sharing_lines report)

-- the mode that the words ask for; the boxes had these plans
abbrev pub mode_of : List Plan → Settings → Mode
mode_of plans (Answer format run pivots rows tries names) = answer_mode (limits_of_names names)
    (budgets_of run pivots rows tries) plans format
mode_of plans (Check names) = check_mode (limits_of_names names)
mode_of plans (Bench seed count run pivots rows tries) = bench_mode (budgets_of run pivots rows tries) plans seed count
mode_of plans (Copy report run pivots names) = copy_mode (limits_of_names names) report (effort_of run pivots)
mode_of plans (Best report run pivots names) = best_mode (limits_of_names names) report (effort_of run pivots)
mode_of plans (Outer report run pivots rows tries names) = outer_mode (limits_of_names names) report (limits_of run pivots rows tries)
mode_of plans (Sharing report run pivots names) = sharing_mode (limits_of_names names) report (effort_of run pivots)

-- ---- its output

-- the output for the bytes of an input, with the status after it
abbrev pub IsOutput : List Plan → Settings → List ℕ → List ℕ → Status → Type 0
IsOutput plans settings bytes out status = WholeOutput (mode_of plans settings) bytes out status

-- the part of the output that is written where allocation failed: the lines of the first items
abbrev pub IsFirstOutput : List Plan → Settings → List ℕ → List ℕ → Type 0
IsFirstOutput plans settings bytes out = (later : List (mode_of plans settings).Item) × FirstOutput (mode_of plans settings) later bytes out

-- the part of the output that is written where a write failed: the lines of the first items, and then a prefix of those of the
-- next one
abbrev pub IsOutputInPart : List Plan → Settings → List ℕ → List ℕ → Type 0
IsOutputInPart plans settings bytes out = OutputInPart (mode_of plans settings) bytes out

-- a prefix of an output
abbrev pub IsPrefixOfOutput : List Plan → Settings → List ℕ → List ℕ → Type 0
IsPrefixOfOutput plans settings bytes out = (whole : List ℕ) × (status : Status) × IsOutput plans settings bytes whole status × IsPrefix out whole

-- the output for a report, whose questions are within these limits: the line of the verdict on each of its lines
abbrev pub Verdicts : FileLimits → List ℕ → List LineVerdict → List ℕ → Type 0
Verdicts limits bytes verdicts out = Replies (check_mode limits) (split_lines bytes) verdicts out
