-- No public clause of the programs cites this module: what each mode that goes line by line through a report writes of a line.
use Rattle.std.specs.Prelude.{◌≡◌, ℕ, List, Bool}
use Rattle.it_question.specs.declared.sizes.FileLimits.{FileLimits}
use Rattle.it_report.specs.Judging.{IsVerdict}
use Rattle.it_report.specs.LineVerdicts.{LineVerdict, is_invalid, verdict_line}
use Rattle.it_cli.specs.Modes.{Mode}
use Rattle.it_cli.specs.Outputs.{lines_mode}

-- the replies that are right for a line, their texts, and which of them say `invalid`
pub record LineMode : Type 1 where
  pub Reply : Type 0
  pub IsRight : List ℕ → Reply → Type 0
  pub text : ℕ → Reply → List ℕ
  pub is_invalid : Reply → Bool

-- the mode that writes a reply of these to each line
abbrev pub mode_of_lines : LineMode → Mode
mode_of_lines m = lines_mode m.IsRight m.text m.is_invalid

-- the text is that of a right reply to line `k`, and `invalid` says whether it is an invalid one
pub record IsReplied (m : LineMode) (k : ℕ) (line text : List ℕ) (invalid : Bool) : Type 0 where
  pub reply : m.Reply
  pub right : m.IsRight line reply
  pub text_is : text ≡ m.text k reply
  pub invalid_is : invalid ≡ m.is_invalid reply

-- the verdicts of mode `check`, within these limits
abbrev pub verdicts : FileLimits → LineMode
verdicts limits = record { Reply = LineVerdict; IsRight = IsVerdict limits; text = verdict_line; is_invalid = is_invalid }
