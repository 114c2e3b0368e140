-- The settings that words give: the command matches the words, then each value is read.
use Rattle.std.specs.Prelude.{ℕ, ◌^◌, ◌≡◌, ◌≤◌, ◌<◌, ◌==◌, ◌&&◌, List, [], ◌∷◌, length, Bool, false, Option, Some, None, IfSome, is_none, Result, Ok, Err, if◌then◌else◌, codes, option_and_then, option_map, nat_le}
use Rattle.std.specs.Str.{bytes_eq}
use Rattle.std.specs.List.{list_all}
use Rattle.std.specs.Map.{lookup}
use Rattle.std.specs.Option.{option_map_or}
use Rattle.it_number.specs.Decimals.{value_from}
use Rattle.clap.specs.Words.{Text, fault_of, matches_of, first_of}
use Rattle.it_settings.specs.App.{itip_app}
use Rattle.it_settings.specs.declared.types.Format.{Format}
use Rattle.it_settings.specs.declared.types.Format.TheVariants as formats
use Rattle.it_settings.specs.declared.types.Run.{Run}
use Rattle.it_settings.specs.declared.types.Run.TheVariants as runs
use Rattle.it_settings.specs.declared.types.Settings.{Settings}
use Rattle.it_settings.specs.declared.types.Settings.TheVariants as settings
use Rattle.it_settings.specs.declared.types.WordsFault.{WordsFault}
use Rattle.it_settings.specs.declared.types.WordsFault.TheVariants.{Usage, Memory}

-- ---- the value of an option

-- the number that text spells in one to ten decimal digits, if it is from `least` to `most`
unfoldable pub number_of : ℕ → ℕ → Text → Option ℕ
number_of least most text =
    if nat_le 1 (length text) && nat_le (length text) 10 then option_and_then (λ n. if nat_le least n && nat_le n most then Some n else None) (value_from 0 text) else None

-- a budget of steps: a number from 1 to 1,000,000, or no budget by the word `none`
unfoldable pub pivots_of : Text → Option (Option ℕ)
pivots_of text = if bytes_eq text (codes "none") then Some None else option_map Some (number_of 1 1000000 text)

-- a number of names, from 10 to 16
abbrev pub names_of : Text → Option (Option ℕ)
names_of text = option_map Some (number_of 10 16 text)

-- a format by its name
unfoldable pub format_of : Text → Option Format
format_of text = lookup (bytes_eq text) ((codes "text", formats.Text) ∷ (codes "json", formats.Json) ∷ (codes "proof", formats.Proof) ∷ (codes "derived", formats.Derived) ∷ [])

-- a run by its name
unfoldable pub run_of : Text → Option Run
run_of text = lookup (bytes_eq text) ((codes "bland", runs.Bland) ∷ (codes "quick", runs.Quick) ∷ [])

-- ---- the modes: by the texts that were given for the mode and for each option, by name

-- the number of an option, or its default where nothing was given
abbrev pub number_in : (Text → Option Text) → Text → ℕ → ℕ → ℕ → Option ℕ
number_in given name least most default = option_map_or (number_of least most) (given name) (Some default)

-- the budget of steps, or 20,000 where nothing was given
abbrev pub pivots_in : (Text → Option Text) → Option (Option ℕ)
pivots_in given = option_map_or pivots_of (given (codes "pivots")) (Some (Some 20000))

-- the run that was given, or the one by Bland's rule where nothing was given
abbrev pub run_in : (Text → Option Text) → Option Run
run_in given = option_map_or run_of (given (codes "run")) (Some runs.Bland)

-- the most names of a question that were given, or nothing where nothing was given
abbrev pub names_in : (Text → Option Text) → Option (Option ℕ)
names_in given = option_map_or names_of (given (codes "names")) (Some None)

-- whether a report is asked for, by an option without a value
abbrev pub report_in : (Text → Option Text) → Bool
report_in given = option_map_or (λ text. bytes_eq text (codes "true")) (given (codes "report")) false

-- read, where no report is asked for
abbrev pub without_report : {A : Type 0} → (Text → Option Text) → Option A → Option A
without_report given read = if report_in given then None else read

-- read, where no option in names was given
abbrev pub without : {A : Type 0} → (Text → Option Text) → List Text → Option A → Option A
without given names read = if list_all (λ name. is_none (given name)) names then read else None

-- the reading f with the value of o, if there is one
infixl 10 ◌>>=◌
abbrev pub ◌>>=◌ : {A B : Type 0} → Option A → (A → Option B) → Option B
o >>= f = option_and_then f o

-- the settings of mode `answer`, each value in its range
unfoldable pub answer_of : (Text → Option Text) → Option Settings
answer_of given = do
  format ← option_map_or format_of (given (codes "format")) (Some formats.Text)
  run ← run_in given
  pivots ← pivots_in given
  rows ← number_in given (codes "rows") 1 4096 512
  tries ← number_in given (codes "tries") 1 4096 256
  names ← names_in given
  Some (settings.Answer format run pivots rows tries names)

-- the settings of mode `check`, which has no option but `--names`
abbrev pub check_of : (Text → Option Text) → Option Settings
check_of given = without given (codes "format" ∷ codes "pivots" ∷ codes "rows" ∷ codes "tries" ∷ codes "seed" ∷ codes "count" ∷ codes "run" ∷ [])
    (option_map settings.Check (names_in given))

-- the settings of mode `bench`
unfoldable pub bench_of : (Text → Option Text) → Option Settings
bench_of given = do
  seed ← number_in given (codes "seed") 0 2147483647 1
  count ← number_in given (codes "count") 1 1000 100
  run ← run_in given
  pivots ← pivots_in given
  rows ← number_in given (codes "rows") 1 4096 512
  tries ← number_in given (codes "tries") 1 4096 256
  Some (settings.Bench seed count run pivots rows tries)

-- the settings of a mode with the options `--run`, `--pivots` and `--names`
unfoldable pub runs_of : (Text → Option Text) → (Run → Option ℕ → Option ℕ → Settings) → Option Settings
runs_of given read = without given (codes "format" ∷ codes "rows" ∷ codes "tries" ∷ codes "seed" ∷ codes "count" ∷ []) do
  run ← run_in given
  pivots ← pivots_in given
  names ← names_in given
  Some (read run pivots names)

-- the settings of mode `outer`
unfoldable pub outer_of : (Text → Option Text) → Option Settings
outer_of given = without given (codes "format" ∷ codes "seed" ∷ codes "count" ∷ []) do
  run ← run_in given
  pivots ← pivots_in given
  rows ← number_in given (codes "rows") 1 4096 512
  tries ← number_in given (codes "tries") 1 4096 256
  names ← names_in given
  Some (settings.Outer (report_in given) run pivots rows tries names)

-- the settings of a mode, given without the options of other modes; other words for the mode have no reading
abbrev pub settings_in : (Text → Option Text) → Text → Option Settings
settings_in given mode =
    if bytes_eq mode (codes "answer") then without_report given (without given (codes "seed" ∷ codes "count" ∷ []) (answer_of given)) else
    if bytes_eq mode (codes "check") then without_report given (check_of given) else
    if bytes_eq mode (codes "bench") then without_report given (without given (codes "format" ∷ codes "names" ∷ []) (bench_of given)) else
    if bytes_eq mode (codes "copy") then runs_of given (settings.Copy (report_in given)) else
    if bytes_eq mode (codes "best") then runs_of given (settings.Best (report_in given)) else
    if bytes_eq mode (codes "outer") then outer_of given else
    if bytes_eq mode (codes "sharing") then runs_of given (settings.Sharing (report_in given)) else None

-- the settings of the mode that was given; without a mode there are none
unfoldable pub settings_by : (Text → Option Text) → Option Settings
settings_by given = option_and_then (settings_in given) (given (codes "mode"))

-- ---- the words

-- the settings of the words, if they have a reading; they have none if the command finds a fault in them
unfoldable pub settings_of : List Text → Option Settings
settings_of words = if length (fault_of itip_app words) == 0 then settings_by (λ id. first_of id (matches_of itip_app words)) else None

-- `Ok` has the settings of the reading, `Usage` says that there is no reading, and `Memory` says nothing
abbrev pub TellsReading : Option Settings → Result Settings WordsFault → Type 0
TellsReading reading (Ok s) = reading ≡ Some s
TellsReading reading (Err Usage) = reading ≡ None
TellsReading reading (Err Memory) = Unit {0}

-- 1 to 4096 rows, and as many candidates
abbrev pub AreFew : ℕ → ℕ → Type 0
AreFew rows tries = ((1 ≤ rows) × (rows ≤ 4096)) × ((1 ≤ tries) × (tries ≤ 4096))

-- 10 to 16 names, where their number is given
abbrev pub AreNamesInRange : Option ℕ → Type 0
AreNamesInRange names = IfSome names (λ n. (10 ≤ n) × (n ≤ 16))

-- rows and candidates are few, names are as many as may be given, and a generated file has a seed below 2^31 and 1 to 1000 questions
abbrev pub AreInRange : Settings → Type 0
AreInRange (settings.Answer format run pivots rows tries names) = AreFew rows tries × AreNamesInRange names
AreInRange (settings.Check names) = AreNamesInRange names
AreInRange (settings.Bench seed count run pivots rows tries) = (seed < 2 ^ 31) × ((1 ≤ count) × (count ≤ 1000)) × AreFew rows tries
AreInRange (settings.Copy report run pivots names) = AreNamesInRange names
AreInRange (settings.Best report run pivots names) = AreNamesInRange names
AreInRange (settings.Outer report run pivots rows tries names) = AreFew rows tries × AreNamesInRange names
AreInRange (settings.Sharing report run pivots names) = AreNamesInRange names
