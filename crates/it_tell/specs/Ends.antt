-- How a call of `tell` ends: what each status says of the words, of what the source gave and of what the sink took. It has no boxes.
use Rattle.std.specs.Prelude.{◌≡◌, ℕ, List, [], codes, ◌⊎◌, Option, Some, None, option_and_then}
use Rattle.it_outside.specs.Traffic.{GaveMore, TookPrefix}
use Rattle.it_outside.specs.Causes.{next_count}
use Rattle.it_cli.specs.Ends.{Call, IsFaultless, IsTaken, IsUntouched, Wrote, FaultsAre}
use Rattle.it_cli.specs.Modes.{FirstOutput, Mode, OutputInPart, WholeOutput}
use Rattle.it_cli.specs.Outputs.{lines_mode}
use Rattle.it_cli.specs.Refusals.{long_line}
use Rattle.it_cli.specs.declared.status.Status.{Status}
use Rattle.it_cli.specs.declared.status.Status.TheVariants.{Done, Invalid, Usage, Refused, ReadFault, WriteFault, Memory}
use Rattle.it_tell.specs.declared.settings.Options.{Options}
use Rattle.it_tell.specs.declared.settings.Settings.{Settings}
use Rattle.it_tell.specs.declared.settings.Settings.TheVariants.{Tell, Help, Version}
use Rattle.it_tell.specs.Settings.{settings_of}
use Rattle.it_tell.specs.Tellings.{IsTelling, tells_invalid, telling_text}

-- what is told of each line of a report, as these options ask for it
abbrev pub tell_mode : Options → Mode
tell_mode options = lines_mode (IsTelling options) telling_text tells_invalid

-- the most bytes of a report
abbrev pub most_bytes : ℕ
most_bytes = 67108864

-- the text that is asked for in place of a telling
abbrev pub shown_by : Settings → Option (List ℕ)
shown_by (Tell options) = None
shown_by Help = Some (codes "usage: tell [--steps] [--short] [--named | --whole] <REPORT\nTells what the lines of a report say, as `itip answer --format json` writes one, in the field's own notation.\n--steps: below each proof its steps\n--short: proofs with the least sum of terms, which may take long\n--named: proofs where the question's functions hold, with constraints by their lines' names\n--whole: these with the lines' own terms, to be pasted\n")
shown_by Version = Some (codes "tell 1\n")

-- the words ask for this text
abbrev pub AsksForText : Call → List ℕ → Type 0
AsksForText r text = option_and_then shown_by (settings_of r.words) ≡ Some text

-- the words ask for a telling
abbrev pub AsksToTell : Call → Options → Type 0
AsksToTell r options = settings_of r.words ≡ Some (Tell options)

-- the words have no reading
abbrev pub HasNone : Call → Type 0
HasNone r = settings_of r.words ≡ None

-- the source gave these bytes and no more, and they are at most `most_bytes`
abbrev pub IsReport : Call → List ℕ → Type 0
IsReport r bytes = IsTaken r (Some most_bytes) bytes

-- the words ask for a telling, and the source gave more
abbrev pub IsTooLong : Call → Type 0
IsTooLong r = ((options : Options) × AsksToTell r options) × GaveMore r.left r.left_after most_bytes

-- the sink took what is told of each line
pub record HasTold (r : Call) (status : Status) : Type 0 where
  pub options : Options
  pub asked : AsksToTell r options
  pub bytes : List ℕ
  pub out : List ℕ
  pub report : IsReport r bytes
  pub output : WholeOutput (tell_mode options) bytes out status
  pub wrote : Wrote r out

-- the sink took what is told of the first lines, each whole
pub record HasToldFirst (r : Call) : Type 0 where
  pub options : Options
  pub asked : AsksToTell r options
  pub bytes : List ℕ
  pub out : List ℕ
  pub report : IsReport r bytes
  pub output : (later : List (tell_mode options).Item) × FirstOutput (tell_mode options) later bytes out
  pub wrote : Wrote r out

-- the sink took what is told of the first lines, and a prefix of what is told of the next one
pub record HasToldInPart (r : Call) : Type 0 where
  pub options : Options
  pub asked : AsksToTell r options
  pub bytes : List ℕ
  pub out : List ℕ
  pub report : IsReport r bytes
  pub output : OutputInPart (tell_mode options) bytes out
  pub wrote : Wrote r out

-- the words ask for a text, and the source wasn't read
pub record IsShowing (r : Call) (text : List ℕ) : Type 0 where
  pub asked : AsksForText r text
  pub unread : IsUntouched r

-- How a call ends, by its status. Each case says which calls of source and sink failed, its whole cause, and all that the sink
-- took.
abbrev pub Ends : Call → Status → Type 0
Ends r Done = IsFaultless r × (HasTold r Done ⊎ ((text : List ℕ) × (IsShowing r text × Wrote r text)))
Ends r Invalid = IsFaultless r × HasTold r Invalid
Ends r Usage = IsFaultless r × HasNone r × IsUntouched r × Wrote r []
Ends r Refused = IsFaultless r × IsTooLong r × Wrote r long_line
Ends r ReadFault = FaultsAre r (next_count r.read_faults) r.write_faults × ((options : Options) × AsksToTell r options) × Wrote r []
Ends r WriteFault = FaultsAre r r.read_faults (next_count r.write_faults)
    × ((IsTooLong r × TookPrefix r.taken r.taken_after long_line)
    ⊎ (HasToldInPart r ⊎ ((text : List ℕ) × (IsShowing r text × TookPrefix r.taken r.taken_after text))))
Ends r Memory = IsFaultless r × ((((options : Options) × AsksToTell r options) × Wrote r []) ⊎ HasToldFirst r)
