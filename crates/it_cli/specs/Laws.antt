-- What follows from how a call ends and from what a right answer is.
use Rattle.std.specs.Prelude.{◌≡◌, ◌≢◌, ℕ, ◌+◌, ◌≤◌, ◌<◌, List, [], ◌++◌, length, All, ◌⊎◌, Option, Some, None, true}
use Rattle.std.specs.List.{list_any}
use Rattle.it_outside.specs.Causes.{next_count}
use Rattle.it_settings.specs.declared.types.Format.TheVariants.{Derived}
use Rattle.it_settings.specs.declared.types.Run.{Run}
use Rattle.it_settings.specs.declared.types.Run.TheVariants.{Bland}
use Rattle.it_settings.specs.declared.types.Settings.{Settings}
use Rattle.it_settings.specs.declared.types.Settings.TheVariants.{Answer, Check, Bench, Copy, Best, Outer, Sharing}
use Rattle.it_settings.specs.Settings.{settings_of}
use Rattle.it_space.specs.Answers.AnswerView.{Undecided}
use Rattle.it_space.specs.declared.answers.Cause.TheVariants.{Pivots}
use Rattle.it_forms.specs.declared.types.Code.{Code}
use Rattle.it_question.specs.Questions.{BodyView, QuestionView}
use Rattle.it_question.specs.Files.{IsFile}
use Rattle.it_question.specs.QuestionLimits.{most_lines, usual}
use Rattle.it_canon.specs.QuestionDemands.{problem_of}
use Rattle.it_copy.specs.CopyLines.{CopyView}
use Rattle.it_copy.specs.Extensions.{IsExtension}
use Rattle.it_copy.specs.Files.{IsCopyFile}
use Rattle.it_sharing.specs.SharingFiles.{IsSharingFile}
use Rattle.it_sharing.specs.Sharings.{SharingView, made_question, maximal_count, minimal_count}
use Rattle.it_prove.specs.ProofViews.{IsUnbound}
use Rattle.it_prove.specs.Reach.{is_in_reach}
use Rattle.it_region.specs.declared.types.Candidate.{Candidate}
use Rattle.it_contain.specs.Proposals.{Plan}
use Rattle.it_answer.specs.declared.types.Budgets.{Budgets}
use Rattle.it_answer.specs.RightAnswers.{IsRightAnswer}
use Rattle.it_report.specs.LineVerdicts.{LineVerdict, is_invalid}
use Rattle.it_cli.specs.Right.{budgets_of, limits_of_names}
use Rattle.it_gen.specs.GeneratedFiles.{generated_file}
use Rattle.it_cli.specs.Counts.{AreCounted, IsBenchLine, no_counts}
use Rattle.it_cli.specs.declared.counts.Counts.{Counts}
use Rattle.it_cli.specs.Modes.{HasOneReading, IsDetermined, WholeOutput}
use Rattle.it_cli.specs.Outputs.{IsFirstOutput, IsPrefixOfOutput, IsOutput, IsOutputInPart, Verdicts, mode_of, most_bytes, verdict_status}
use Rattle.it_cli.specs.Refusals.{long_line, fault_line}
use Rattle.it_cli.specs.Ends.{Call, Ends, IsUntouched, Wrote, FaultsAre, HasWritten}
use Rattle.it_cli.specs.declared.status.Status.{Status}
use Rattle.it_cli.specs.declared.status.Status.TheVariants.{Done, Invalid, Usage, Refused, ReadFault, WriteFault, Memory}

-- ---- what a call that is done has written

-- The headline: where source and sink tell their bytes, in each mode with an input the sink gained the whole output for all that the
-- source gave; in mode `answer` that is right answers to all its questions.
abbrev pub Headline : Type 0
Headline = (r : Call) (s : Status) (settings : Settings) (most : ℕ) (bytes old new : List ℕ) → Ends r s
    → (s ≡ Done) ⊎ (s ≡ Invalid) → settings_of r.words ≡ Some settings → most_bytes settings ≡ Some most
    → r.left ≡ Some bytes → r.taken ≡ Some old → r.taken_after ≡ Some new
    → (out : List ℕ) × IsOutput r.plans settings bytes out s × (new ≡ old ++ out)

-- In mode `check` it gained the verdict on each line, and the status says whether one is invalid.
abbrev pub VerdictsAreWritten : Type 0
VerdictsAreWritten = (r : Call) (s : Status) (names : Option ℕ) (bytes old new : List ℕ) → Ends r s → (s ≡ Done) ⊎ (s ≡ Invalid)
    → settings_of r.words ≡ Some (Check names)
    → r.left ≡ Some bytes → r.taken ≡ Some old → r.taken_after ≡ Some new
    → (verdicts : List LineVerdict) × (out : List ℕ) × Verdicts (limits_of_names names) bytes verdicts out × (new ≡ old ++ out)
    × (s ≡ verdict_status (list_any is_invalid verdicts))

-- In mode `bench` it gained the line of counts, and the source is as it was.
abbrev pub CountsAreWritten : Type 0
CountsAreWritten = (r : Call) (seed count : ℕ) (run : Run) (pivots : Option ℕ) (rows tries : ℕ) (old new : List ℕ) → Ends r Done
    → settings_of r.words ≡ Some (Bench seed count run pivots rows tries) → r.taken ≡ Some old → r.taken_after ≡ Some new
    → (line : List ℕ) × IsBenchLine (budgets_of run pivots rows tries) r.plans seed count line × (new ≡ old ++ line) × IsUntouched r

-- ---- completeness

-- the source has these bytes and no more, and they are few enough for the mode; one without an input takes none
abbrev pub IsThere : Call → Option ℕ → List ℕ → Type 0
IsThere r (Some most) bytes = (r.left ≡ Some bytes) × (length bytes ≤ most)
IsThere r None bytes = bytes ≡ []

-- With words that have a reading, an input in which the mode is asked something, and no fault, the whole output is written, or
-- allocation failed.
abbrev pub IsComplete : Type 0
IsComplete = (r : Call) (s : Status) (settings : Settings) (bytes : List ℕ) (items : List (mode_of r.plans settings).Item) → Ends r s
    → settings_of r.words ≡ Some settings → IsThere r (most_bytes settings) bytes → (mode_of r.plans settings).Asks bytes items
    → (FaultsAre r (next_count r.read_faults) r.write_faults → ⊥) → (FaultsAre r r.read_faults (next_count r.write_faults) → ⊥)
    → HasWritten r (λ mode bytes out. WholeOutput mode bytes out s) ⊎ (s ≡ Memory)

-- A source and a sink whose counts of faults are 0, as those that never fail, give neither status of a fault.
abbrev pub SureEnds : Type 0
SureEnds = (r : Call) (s : Status) → Ends r s → r.read_faults_after ≡ 0 → r.write_faults_after ≡ 0 → (s ≡ ReadFault → ⊥) × (s ≡ WriteFault → ⊥)

-- ---- the usage line and the refusals come where they are due, unless a read, a write or an allocation fails

-- words without a reading have the usage line, and nothing is read for them
abbrev pub UsageIsDue : Type 0
UsageIsDue = (r : Call) (s : Status) → Ends r s → settings_of r.words ≡ None → IsUntouched r × ((s ≡ Usage) ⊎ ((s ≡ WriteFault) ⊎ (s ≡ Memory)))

-- an input of too many bytes has the line for it
abbrev pub LongIsDue : Type 0
LongIsDue = (r : Call) (s : Status) (settings : Settings) (most : ℕ) (bytes : List ℕ) → Ends r s
    → settings_of r.words ≡ Some settings → most_bytes settings ≡ Some most → r.left ≡ Some bytes → most < length bytes
    → ((s ≡ Refused) × Wrote r long_line) ⊎ ((s ≡ ReadFault) ⊎ ((s ≡ WriteFault) ⊎ (s ≡ Memory)))

-- an input that has a fault in the mode has the line of its first one
abbrev pub FaultIsDue : Type 0
FaultIsDue = (r : Call) (s : Status) (settings : Settings) (bytes : List ℕ) (line column : ℕ) (code : Code) → Ends r s → settings_of r.words ≡ Some settings
    → IsThere r (most_bytes settings) bytes → (mode_of r.plans settings).FaultAt bytes line column code
    → ((s ≡ Refused) × Wrote r (fault_line line column code)) ⊎ ((s ≡ ReadFault) ⊎ ((s ≡ WriteFault) ⊎ (s ≡ Memory)))

-- mode `bench` leaves the source as it was, whatever the status, and refuses nothing
abbrev pub BenchReadsNothing : Type 0
BenchReadsNothing = (r : Call) (s : Status) (seed count : ℕ) (run : Run) (pivots : Option ℕ) (rows tries : ℕ) → Ends r s
    → settings_of r.words ≡ Some (Bench seed count run pivots rows tries) → IsUntouched r × ((s ≡ Done) ⊎ ((s ≡ WriteFault) ⊎ (s ≡ Memory)))

-- ---- what is determined

-- A generated file asks about relations alone, so its answers are yes, no and undecided, and these are as many as its questions.
abbrev pub CountsAddUp : Type 0
CountsAddUp = (budgets : Budgets) (plans : List Plan) (seed count : ℕ) (questions : List QuestionView) (counts : Counts) → count ≤ 1000
    → IsFile (generated_file seed count) questions → AreCounted budgets plans [] no_counts questions counts
    → (counts.yes + counts.no + counts.undecided ≡ count) × (counts.regions ≡ 0) × (counts.contained ≡ 0) × (counts.left_open ≡ 0)

-- targets are decided by the defined run alone, nothing is told that a search proposes, and files have the usual limits, so that the run
-- is in reach
abbrev pub AreByBland : Settings → Type 0
AreByBland (Answer format run pivots rows tries names) = (run ≡ Bland) × (format ≢ Derived) × (names ≡ None)
AreByBland (Check names) = Unit {0}
AreByBland (Bench seed count run pivots rows tries) = run ≡ Bland
AreByBland (Copy report run pivots names) = (run ≡ Bland) × (names ≡ None)
AreByBland (Best report run pivots names) = (run ≡ Bland) × (names ≡ None)
AreByBland (Outer report run pivots rows tries names) = (run ≡ Bland) × (names ≡ None)
AreByBland (Sharing report run pivots names) = (run ≡ Bland) × (names ≡ None)

-- in each mode bytes ask for one list of items, or have one first fault, and not both
abbrev pub ModesHaveOneReading : Type 0
ModesHaveOneReading = (plans : List Plan) (settings : Settings) → HasOneReading (mode_of plans settings)

-- the defined run about each question of a usual file with a head is in reach, and so is that about the question with the copies
abbrev pub CopiesAreInReach : Type 0
CopiesAreInReach = (bytes : List ℕ) (copies : List CopyView) (qs : List QuestionView) → IsCopyFile usual bytes copies qs
    → All (λ q. (is_in_reach (problem_of q.body) ≡ true) × ((e : BodyView) → IsExtension usual q.body copies e → is_in_reach (problem_of e) ≡ true)) qs

-- the defined run about the question that is made of a usual sharing file is in reach
abbrev pub SharingIsInReach : Type 0
SharingIsInReach = (bytes : List ℕ) (x : SharingView) → IsSharingFile usual bytes x → minimal_count x + maximal_count x ≤ most_lines
    → is_in_reach (problem_of (made_question x).body) ≡ true

-- where targets of usual files are decided by the defined run alone, each mode is determined: an item has one right reply after others
abbrev pub ModesAreDetermined : Type 0
ModesAreDetermined = (plans : List Plan) (settings : Settings) → AreByBland settings → IsDetermined (mode_of plans settings)

-- an input then has one output, and one status after it
abbrev pub OneOutput : Type 0
OneOutput = (plans : List Plan) (settings : Settings) (bytes out other : List ℕ) (s t : Status) → AreByBland settings → IsOutput plans settings bytes out s → IsOutput plans settings bytes other t
    → (out ≡ other) × (s ≡ t)

-- where the defined run is made without a budget of steps, and is in reach, `undecided pivots` is never right
abbrev pub NoLineIsOutOfSteps : Type 0
NoLineIsOutOfSteps = (budgets : Budgets) (plans : List Plan) (q : BodyView) (steps : ℕ) (found : List Candidate) → IsUnbound budgets.effort
    → is_in_reach (problem_of q) ≡ true → IsRightAnswer budgets plans q (record { answer = Undecided (Pivots steps); found = found }) → ⊥

-- ---- what is written in part

-- what is written of the verdicts on a report, whichever way they are cut off, is a prefix of a whole output
abbrev pub VerdictsArePrefix : Type 0
VerdictsArePrefix = (plans : List Plan) (names : Option ℕ) (bytes out : List ℕ) → IsFirstOutput plans (Check names) bytes out
    ⊎ IsOutputInPart plans (Check names) bytes out
    → IsPrefixOfOutput plans (Check names) bytes out

-- what is written of the line of counts where a write fails is a prefix of a whole output; where allocation fails, nothing or a
-- whole output
abbrev pub CountsArePrefix : Type 0
CountsArePrefix = (plans : List Plan) (seed count : ℕ) (run : Run) (pivots : Option ℕ) (rows tries : ℕ) (bytes out : List ℕ)
    → (IsOutputInPart plans (Bench seed count run pivots rows tries) bytes out → IsPrefixOfOutput plans (Bench seed count run pivots rows tries) bytes out)
    × (IsFirstOutput plans (Bench seed count run pivots rows tries) bytes out → (out ≡ []) ⊎ IsPrefixOfOutput plans (Bench seed count run pivots rows tries) bytes out)
