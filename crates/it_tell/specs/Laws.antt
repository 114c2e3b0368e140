-- What follows from how a call of `tell` ends and from what may be told.
use Rattle.std.specs.Prelude.{◌≡◌, ℕ, ℤ, List, Bool, true, ◌++◌, ◌⊎◌, Some}
use Rattle.it_space.specs.Answers.{AnswerView}
use Rattle.it_space.specs.Answers.AnswerView.{No}
use Rattle.it_space.specs.Rows.{point_of}
use Rattle.it_syntax.specs.NamesViews.{NamesView}
use Rattle.it_print.specs.Lines.{is_told}
use Rattle.it_codes.specs.Codes.{AreEntropies}
use Rattle.it_certificate.specs.CodeReading.{ReportedCodeView}
use Rattle.it_certificate.specs.Sources.{Source, asked}
use Rattle.it_report.specs.Meaning.{IsClaimTrue}
use Rattle.it_cli.specs.Ends.{Call}
use Rattle.it_cli.specs.Modes.{WholeOutput}
use Rattle.it_cli.specs.declared.status.Status.{Status}
use Rattle.it_cli.specs.declared.status.Status.TheVariants.{Done, Invalid}
use Rattle.it_tell.specs.Alike.{TellsAlike}
use Rattle.it_tell.specs.Tellings.{Answered, Coded, IsTelling, Telling}
use Rattle.it_tell.specs.declared.settings.Options.{Options}
use Rattle.it_tell.specs.Ends.{AsksToTell, Ends, tell_mode}

-- Where the words ask for a telling and source and sink tell their bytes, a call that is done gave the sink what is told of each line that
-- the source had.
abbrev pub Headline : Type 0
Headline = (r : Call) (options : Options) (s : Status) (bytes old new : List ℕ) → AsksToTell r options → Ends r s → (s ≡ Done) ⊎ (s ≡ Invalid) → r.left ≡ Some bytes → r.taken ≡ Some old → r.taken_after ≡ Some new
    → (out : List ℕ) × (WholeOutput (tell_mode options) bytes out s × (new ≡ old ++ out))

-- Something may be told of each line, whatever its bytes.
abbrev pub EachLineIsTold : Type 0
EachLineIsTold = (options : Options) (line : List ℕ) → (telling : Telling) × IsTelling options line telling

-- What a told answer claims is true.
abbrev pub ToldAnswersAreTrue : Type 0
ToldAnswersAreTrue = (options : Options) (line : List ℕ) (source : Source) (answer : AnswerView) (details : List ℕ) → IsTelling options line (Answered source answer details) → IsClaimTrue (asked source).body answer

-- Where a no with a code is told, its relation fails at the entropies of the code's variables, as many times as the line says.
abbrev pub ToldCodesAreTrue : Type 0
ToldCodesAreTrue = (options : Options) (line : List ℕ) (source : Source) (back : Bool) (values : List ℤ) (code : ReportedCodeView) (details : List ℕ) → IsTelling options line (Coded source (No back values) code details)
    → IsClaimTrue (asked source).body (No back values) × AreEntropies code.code code.times values

-- Each value that a line has of a point told by some of its values is told, or is that of a set whose value is told.
abbrev pub LeftOutAreTold : Type 0
LeftOutAreTold = (v : NamesView) (values : List ℤ) (text : List ℕ) (t : TellsAlike v values text) (c : ℕ) → is_told v values c ≡ true
    → (t.told c ≡ true) ⊎ ((s : ℕ) × ((t.told s ≡ true) × (point_of values c ≡ point_of values s)))
