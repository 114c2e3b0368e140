-- Command lines and their readings.
use Rattle.std.specs.Prelude.{true, false, Option, ℕ, ◌≡◌, List, [], ◌∷◌, Some, None, codes}
use Rattle.it_settings.specs.declared.types.Format.TheVariants as formats
use Rattle.it_settings.specs.declared.types.Run.{Run}
use Rattle.it_settings.specs.declared.types.Run.TheVariants as runs
use Rattle.it_settings.specs.declared.types.Settings.{Settings}
use Rattle.it_settings.specs.declared.types.Settings.TheVariants as settings
use Rattle.it_settings.specs.Settings.{settings_of}

-- the words of the command give these settings
abbrev pub AreReadAs : List (List ℕ) → Settings → Type 0
AreReadAs words s = settings_of words ≡ Some s

-- the words of the command give no settings
abbrev pub HaveNoReading : List (List ℕ) → Type 0
HaveNoReading words = settings_of words ≡ None

-- the word for the mode, alone and with others
pub record ModesAreRead : Type 0 where
  pub answer : AreReadAs (codes "answer" ∷ []) (settings.Answer formats.Text runs.Bland (Some 20000) 512 256 None)
  pub check : AreReadAs (codes "check" ∷ []) (settings.Check None)
  pub bench : AreReadAs (codes "bench" ∷ []) (settings.Bench 1 100 runs.Bland (Some 20000) 512 256)
  pub no_words : HaveNoReading []
  pub unknown : HaveNoReading (codes "prove" ∷ [])
  pub capital : HaveNoReading (codes "Answer" ∷ [])
  pub cut_short : HaveNoReading (codes "answe" ∷ [])
  pub empty : HaveNoReading (codes "" ∷ [])
  pub twice : HaveNoReading (codes "check" ∷ codes "check" ∷ [])
  pub two_modes : HaveNoReading (codes "answer" ∷ codes "check" ∷ [])
  pub help : HaveNoReading (codes "--help" ∷ [])
  pub help_of_mode : HaveNoReading (codes "answer" ∷ codes "--help" ∷ [])
  pub help_word : HaveNoReading (codes "help" ∷ [])
  pub short_help : HaveNoReading (codes "-h" ∷ [])
  pub version : HaveNoReading (codes "--version" ∷ [])
  pub after_hyphens : AreReadAs (codes "--" ∷ codes "check" ∷ []) (settings.Check None)
  pub hyphens_after : AreReadAs (codes "check" ∷ codes "--" ∷ []) (settings.Check None)
  pub options_after_hyphens : HaveNoReading (codes "answer" ∷ codes "--" ∷ codes "--pivots" ∷ codes "5" ∷ [])
  pub only_option : HaveNoReading (codes "--pivots" ∷ codes "5" ∷ [])

-- the spellings of an option
pub record FormsAreRead : Type 0 where
  pub spaced : AreReadAs (codes "answer" ∷ codes "--format" ∷ codes "json" ∷ []) (settings.Answer formats.Json runs.Bland (Some 20000) 512 256 None)
  pub joined : AreReadAs (codes "answer" ∷ codes "--format=json" ∷ []) (settings.Answer formats.Json runs.Bland (Some 20000) 512 256 None)
  pub text : AreReadAs (codes "answer" ∷ codes "--format" ∷ codes "text" ∷ []) (settings.Answer formats.Text runs.Bland (Some 20000) 512 256 None)
  pub proof : AreReadAs (codes "answer" ∷ codes "--format" ∷ codes "proof" ∷ []) (settings.Answer formats.Proof runs.Bland (Some 20000) 512 256 None)
  pub derived : AreReadAs (codes "answer" ∷ codes "--format" ∷ codes "derived" ∷ []) (settings.Answer formats.Derived runs.Bland (Some 20000) 512 256 None)
  pub capitals : HaveNoReading (codes "answer" ∷ codes "--format" ∷ codes "JSON" ∷ [])
  pub before_mode : AreReadAs (codes "--tries" ∷ codes "1" ∷ codes "answer" ∷ []) (settings.Answer formats.Text runs.Bland (Some 20000) 512 1 None)
  pub all_options : AreReadAs (codes "answer" ∷ codes "--tries=7" ∷ codes "--rows" ∷ codes "6" ∷ codes "--format" ∷ codes "json" ∷ codes "--pivots" ∷ codes
      "5" ∷ []) (settings.Answer formats.Json runs.Bland (Some 5) 6 7 None)
  pub twice : HaveNoReading (codes "answer" ∷ codes "--rows" ∷ codes "5" ∷ codes "--rows" ∷ codes "5" ∷ [])
  pub twice_joined : HaveNoReading (codes "answer" ∷ codes "--format" ∷ codes "json" ∷ codes "--format=json" ∷ [])
  pub cut_short : HaveNoReading (codes "answer" ∷ codes "--piv" ∷ codes "5" ∷ [])
  pub one_hyphen : HaveNoReading (codes "answer" ∷ codes "-pivots" ∷ codes "5" ∷ [])
  pub short : HaveNoReading (codes "answer" ∷ codes "-p" ∷ codes "5" ∷ [])
  pub unknown : HaveNoReading (codes "answer" ∷ codes "--verbose" ∷ [])
  pub no_value : HaveNoReading (codes "answer" ∷ codes "--pivots" ∷ [])
  pub option_as_value : HaveNoReading (codes "answer" ∷ codes "--pivots" ∷ codes "--rows" ∷ codes "5" ∷ [])
  pub empty_joined : HaveNoReading (codes "answer" ∷ codes "--rows=" ∷ [])
  pub empty_spaced : HaveNoReading (codes "answer" ∷ codes "--rows" ∷ codes "" ∷ [])
  pub empty_format : HaveNoReading (codes "answer" ∷ codes "--format=" ∷ [])

-- the numbers that an option takes
pub record NumbersAreRead : Type 0 where
  pub pivots_zero : HaveNoReading (codes "answer" ∷ codes "--pivots" ∷ codes "0" ∷ [])
  pub pivots_least : AreReadAs (codes "answer" ∷ codes "--pivots" ∷ codes "1" ∷ []) (settings.Answer formats.Text runs.Bland (Some 1) 512 256 None)
  pub pivots_most : AreReadAs (codes "answer" ∷ codes "--pivots" ∷ codes "1000000" ∷ []) (settings.Answer formats.Text runs.Bland (Some 1000000) 512 256 None)
  pub pivots_more : HaveNoReading (codes "answer" ∷ codes "--pivots" ∷ codes "1000001" ∷ [])
  pub pivots_without : AreReadAs (codes "answer" ∷ codes "--pivots" ∷ codes "none" ∷ []) (settings.Answer formats.Text runs.Bland None 512 256 None)
  pub pivots_joined : AreReadAs (codes "answer" ∷ codes "--pivots=none" ∷ []) (settings.Answer formats.Text runs.Bland None 512 256 None)
  pub pivots_capital : HaveNoReading (codes "answer" ∷ codes "--pivots" ∷ codes "None" ∷ [])
  pub pivots_longer : HaveNoReading (codes "answer" ∷ codes "--pivots" ∷ codes "none0" ∷ [])
  pub rows_without : HaveNoReading (codes "answer" ∷ codes "--rows" ∷ codes "none" ∷ [])
  pub tries_without : HaveNoReading (codes "answer" ∷ codes "--tries" ∷ codes "none" ∷ [])
  pub rows_zero : HaveNoReading (codes "answer" ∷ codes "--rows" ∷ codes "0" ∷ [])
  pub rows_least : AreReadAs (codes "answer" ∷ codes "--rows" ∷ codes "1" ∷ []) (settings.Answer formats.Text runs.Bland (Some 20000) 1 256 None)
  pub rows_most : AreReadAs (codes "answer" ∷ codes "--rows" ∷ codes "4096" ∷ []) (settings.Answer formats.Text runs.Bland (Some 20000) 4096 256 None)
  pub rows_more : HaveNoReading (codes "answer" ∷ codes "--rows" ∷ codes "4097" ∷ [])
  pub tries_zero : HaveNoReading (codes "answer" ∷ codes "--tries" ∷ codes "0" ∷ [])
  pub tries_least : AreReadAs (codes "answer" ∷ codes "--tries" ∷ codes "1" ∷ []) (settings.Answer formats.Text runs.Bland (Some 20000) 512 1 None)
  pub tries_most : AreReadAs (codes "answer" ∷ codes "--tries" ∷ codes "4096" ∷ []) (settings.Answer formats.Text runs.Bland (Some 20000) 512 4096 None)
  pub tries_more : HaveNoReading (codes "answer" ∷ codes "--tries" ∷ codes "4097" ∷ [])
  pub zeros_before : AreReadAs (codes "answer" ∷ codes "--pivots" ∷ codes "007" ∷ []) (settings.Answer formats.Text runs.Bland (Some 7) 512 256 None)
  pub ten_digits : AreReadAs (codes "answer" ∷ codes "--pivots=0000000005" ∷ []) (settings.Answer formats.Text runs.Bland (Some 5) 512 256 None)
  pub eleven_digits : HaveNoReading (codes "answer" ∷ codes "--pivots=00000000005" ∷ [])
  pub past_32_bits : HaveNoReading (codes "answer" ∷ codes "--pivots" ∷ codes "4294967297" ∷ [])
  pub hyphen : HaveNoReading (codes "answer" ∷ codes "--pivots" ∷ codes "-1" ∷ [])
  pub joined_hyphen : HaveNoReading (codes "answer" ∷ codes "--pivots=-1" ∷ [])
  pub plus : HaveNoReading (codes "answer" ∷ codes "--pivots" ∷ codes "+5" ∷ [])
  pub blank : HaveNoReading (codes "answer" ∷ codes "--pivots" ∷ codes " 5" ∷ [])
  pub letter : HaveNoReading (codes "answer" ∷ codes "--pivots" ∷ codes "5x" ∷ [])
  pub point : HaveNoReading (codes "answer" ∷ codes "--pivots" ∷ codes "5.0" ∷ [])

-- the options of mode `bench`
pub record BenchIsRead : Type 0 where
  pub all_options : AreReadAs (codes "bench" ∷ codes "--seed=2" ∷ codes "--count" ∷ codes "3" ∷ codes "--pivots=4" ∷ codes "--rows=5" ∷ codes "--tries=6" ∷ []) (settings.Bench 2 3 runs.Bland (Some 4) 5 6)
  pub seed_least : AreReadAs (codes "bench" ∷ codes "--seed" ∷ codes "0" ∷ []) (settings.Bench 0 100 runs.Bland (Some 20000) 512 256)
  pub seed_most : AreReadAs (codes "bench" ∷ codes "--seed" ∷ codes "2147483647" ∷ []) (settings.Bench 2147483647 100 runs.Bland (Some 20000) 512 256)
  pub seed_more : HaveNoReading (codes "bench" ∷ codes "--seed" ∷ codes "2147483648" ∷ [])
  pub count_zero : HaveNoReading (codes "bench" ∷ codes "--count" ∷ codes "0" ∷ [])
  pub count_least : AreReadAs (codes "bench" ∷ codes "--count" ∷ codes "1" ∷ []) (settings.Bench 1 1 runs.Bland (Some 20000) 512 256)
  pub count_most : AreReadAs (codes "bench" ∷ codes "--count" ∷ codes "1000" ∷ []) (settings.Bench 1 1000 runs.Bland (Some 20000) 512 256)
  pub count_more : HaveNoReading (codes "bench" ∷ codes "--count" ∷ codes "1001" ∷ [])
  pub pivots_without : AreReadAs (codes "bench" ∷ codes "--pivots" ∷ codes "none" ∷ []) (settings.Bench 1 100 runs.Bland None 512 256)
  pub seed_without : HaveNoReading (codes "bench" ∷ codes "--seed" ∷ codes "none" ∷ [])
  pub count_without : HaveNoReading (codes "bench" ∷ codes "--count" ∷ codes "none" ∷ [])
  pub hyphen : HaveNoReading (codes "bench" ∷ codes "--seed" ∷ codes "-1" ∷ [])

-- options of another mode
pub record OtherModesAreRead : Type 0 where
  pub check_format : HaveNoReading (codes "check" ∷ codes "--format" ∷ codes "text" ∷ [])
  pub check_pivots : HaveNoReading (codes "check" ∷ codes "--pivots" ∷ codes "20000" ∷ [])
  pub check_rows : HaveNoReading (codes "check" ∷ codes "--rows" ∷ codes "5" ∷ [])
  pub check_tries : HaveNoReading (codes "check" ∷ codes "--tries" ∷ codes "5" ∷ [])
  pub check_seed : HaveNoReading (codes "check" ∷ codes "--seed" ∷ codes "1" ∷ [])
  pub check_count : HaveNoReading (codes "check" ∷ codes "--count" ∷ codes "1" ∷ [])
  pub answer_seed : HaveNoReading (codes "answer" ∷ codes "--seed" ∷ codes "1" ∷ [])
  pub answer_count : HaveNoReading (codes "answer" ∷ codes "--count" ∷ codes "1" ∷ [])
  pub check_pivots_without : HaveNoReading (codes "check" ∷ codes "--pivots" ∷ codes "none" ∷ [])
  pub bench_format : HaveNoReading (codes "bench" ∷ codes "--format" ∷ codes "text" ∷ [])

-- the option `--run`, in the modes that answer files
pub record RunsAreRead : Type 0 where
  pub quick : AreReadAs (codes "answer" ∷ codes "--run" ∷ codes "quick" ∷ []) (settings.Answer formats.Text runs.Quick (Some 20000) 512 256 None)
  pub bland : AreReadAs (codes "answer" ∷ codes "--run=bland" ∷ []) (settings.Answer formats.Text runs.Bland (Some 20000) 512 256 None)
  pub with_all : AreReadAs (codes "--run=quick" ∷ codes "answer" ∷ codes "--tries=7" ∷ codes "--rows" ∷ codes "6" ∷ codes "--format" ∷ codes "json" ∷ codes
      "--pivots" ∷ codes "5" ∷ []) (settings.Answer formats.Json runs.Quick (Some 5) 6 7 None)
  pub bench : AreReadAs (codes "bench" ∷ codes "--run" ∷ codes "quick" ∷ []) (settings.Bench 1 100 runs.Quick (Some 20000) 512 256)
  pub capital : HaveNoReading (codes "answer" ∷ codes "--run" ∷ codes "Quick" ∷ [])
  pub unknown : HaveNoReading (codes "answer" ∷ codes "--run" ∷ codes "fast" ∷ [])
  pub longer : HaveNoReading (codes "answer" ∷ codes "--run" ∷ codes "quickly" ∷ [])
  pub no_value : HaveNoReading (codes "answer" ∷ codes "--run" ∷ [])
  pub empty : HaveNoReading (codes "answer" ∷ codes "--run=" ∷ [])
  pub twice : HaveNoReading (codes "answer" ∷ codes "--run" ∷ codes "quick" ∷ codes "--run=bland" ∷ [])
  pub check : HaveNoReading (codes "check" ∷ codes "--run" ∷ codes "quick" ∷ [])

-- a mode with the options `--run`, `--pivots` and no other but `--names` and `--report`
pub record IsReadWithRuns (mode : List ℕ) (read : Run → Option ℕ → Option ℕ → Settings) : Type 0 where
  pub alone : AreReadAs (mode ∷ []) (read runs.Bland (Some 20000) None)
  pub pivots : AreReadAs (mode ∷ codes "--pivots" ∷ codes "5" ∷ []) (read runs.Bland (Some 5) None)
  pub pivots_without : AreReadAs (codes "--pivots=none" ∷ mode ∷ []) (read runs.Bland None None)
  pub pivots_more : HaveNoReading (mode ∷ codes "--pivots" ∷ codes "1000001" ∷ [])
  pub quick : AreReadAs (mode ∷ codes "--run" ∷ codes "quick" ∷ []) (read runs.Quick (Some 20000) None)
  pub quick_without : AreReadAs (mode ∷ codes "--pivots=none" ∷ codes "--run=quick" ∷ []) (read runs.Quick None None)
  pub other_run : HaveNoReading (mode ∷ codes "--run" ∷ codes "none" ∷ [])
  pub format : HaveNoReading (mode ∷ codes "--format" ∷ codes "text" ∷ [])
  pub rows : HaveNoReading (mode ∷ codes "--rows" ∷ codes "512" ∷ [])
  pub tries : HaveNoReading (mode ∷ codes "--tries" ∷ codes "256" ∷ [])
  pub seed : HaveNoReading (mode ∷ codes "--seed" ∷ codes "1" ∷ [])
  pub count : HaveNoReading (mode ∷ codes "--count" ∷ codes "1" ∷ [])
  pub two_modes : HaveNoReading (mode ∷ codes "answer" ∷ [])

-- mode `copy`
abbrev pub CopyIsRead : Type 0
CopyIsRead = IsReadWithRuns (codes "copy") (settings.Copy false)

-- mode `best`
abbrev pub BestIsRead : Type 0
BestIsRead = IsReadWithRuns (codes "best") (settings.Best false)

-- mode `sharing`
abbrev pub SharingIsRead : Type 0
SharingIsRead = IsReadWithRuns (codes "sharing") (settings.Sharing false)

-- the options of mode `outer`
pub record OuterIsRead : Type 0 where
  pub alone : AreReadAs (codes "outer" ∷ []) (settings.Outer false runs.Bland (Some 20000) 512 256 None)
  pub all_options : AreReadAs (codes "outer" ∷ codes "--tries=7" ∷ codes "--rows" ∷ codes "6" ∷ codes "--run" ∷ codes "quick" ∷ codes "--pivots=none" ∷ [])
      (settings.Outer false runs.Quick None 6 7 None)
  pub rows_most : AreReadAs (codes "outer" ∷ codes "--rows" ∷ codes "4096" ∷ []) (settings.Outer false runs.Bland (Some 20000) 4096 256 None)
  pub rows_more : HaveNoReading (codes "outer" ∷ codes "--rows" ∷ codes "4097" ∷ [])
  pub tries_zero : HaveNoReading (codes "outer" ∷ codes "--tries" ∷ codes "0" ∷ [])
  pub format : HaveNoReading (codes "outer" ∷ codes "--format" ∷ codes "text" ∷ [])
  pub seed : HaveNoReading (codes "outer" ∷ codes "--seed" ∷ codes "1" ∷ [])
  pub count : HaveNoReading (codes "outer" ∷ codes "--count" ∷ codes "1" ∷ [])
  pub two_modes : HaveNoReading (codes "outer" ∷ codes "answer" ∷ [])

-- the modes that write reports, and how one is asked for
pub record ReportsAreRead : Type 0 where
  pub copy : AreReadAs (codes "copy" ∷ codes "--report" ∷ []) (settings.Copy true runs.Bland (Some 20000) None)
  pub best : AreReadAs (codes "best" ∷ codes "--report" ∷ []) (settings.Best true runs.Bland (Some 20000) None)
  pub sharing : AreReadAs (codes "--report" ∷ codes "sharing" ∷ []) (settings.Sharing true runs.Bland (Some 20000) None)
  pub with_all : AreReadAs (codes "copy" ∷ codes "--pivots=none" ∷ codes "--report" ∷ codes "--run=quick" ∷ []) (settings.Copy true runs.Quick None None)
  pub twice : HaveNoReading (codes "copy" ∷ codes "--report" ∷ codes "--report" ∷ [])
  pub value : HaveNoReading (codes "copy" ∷ codes "--report=true" ∷ [])
  pub word_after : HaveNoReading (codes "copy" ∷ codes "--report" ∷ codes "true" ∷ [])
  pub answer : HaveNoReading (codes "answer" ∷ codes "--report" ∷ [])
  pub check : HaveNoReading (codes "check" ∷ codes "--report" ∷ [])
  pub bench : HaveNoReading (codes "bench" ∷ codes "--report" ∷ [])
  pub outer : AreReadAs (codes "outer" ∷ codes "--rows=6" ∷ codes "--report" ∷ []) (settings.Outer true runs.Bland (Some 20000) 6 256 None)

-- the option `--names`
pub record NamesAreRead : Type 0 where
  pub least : AreReadAs (codes "answer" ∷ codes "--names" ∷ codes "10" ∷ []) (settings.Answer formats.Text runs.Bland (Some 20000) 512 256 (Some 10))
  pub most : AreReadAs (codes "--names=16" ∷ codes "answer" ∷ []) (settings.Answer formats.Text runs.Bland (Some 20000) 512 256 (Some 16))
  pub fewer : HaveNoReading (codes "answer" ∷ codes "--names" ∷ codes "9" ∷ [])
  pub more : HaveNoReading (codes "answer" ∷ codes "--names" ∷ codes "17" ∷ [])
  pub zero_names : HaveNoReading (codes "answer" ∷ codes "--names" ∷ codes "0" ∷ [])
  pub word : HaveNoReading (codes "answer" ∷ codes "--names" ∷ codes "none" ∷ [])
  pub no_value : HaveNoReading (codes "answer" ∷ codes "--names" ∷ [])
  pub empty : HaveNoReading (codes "answer" ∷ codes "--names=" ∷ [])
  pub twice : HaveNoReading (codes "answer" ∷ codes "--names" ∷ codes "12" ∷ codes "--names=12" ∷ [])
  pub with_all : AreReadAs (codes "answer" ∷ codes "--names=12" ∷ codes "--tries=7" ∷ codes "--rows" ∷ codes "6" ∷ codes "--run=quick" ∷ codes "--format"
      ∷ codes "json" ∷ codes "--pivots" ∷ codes "5" ∷ []) (settings.Answer formats.Json runs.Quick (Some 5) 6 7 (Some 12))
  pub check : AreReadAs (codes "check" ∷ codes "--names" ∷ codes "12" ∷ []) (settings.Check (Some 12))
  pub check_more : HaveNoReading (codes "check" ∷ codes "--names" ∷ codes "17" ∷ [])
  pub bench : HaveNoReading (codes "bench" ∷ codes "--names" ∷ codes "12" ∷ [])
  pub copy : AreReadAs (codes "copy" ∷ codes "--names" ∷ codes "12" ∷ codes "--report" ∷ []) (settings.Copy true runs.Bland (Some 20000) (Some 12))
  pub best : AreReadAs (codes "best" ∷ codes "--names" ∷ codes "12" ∷ []) (settings.Best false runs.Bland (Some 20000) (Some 12))
  pub sharing : AreReadAs (codes "sharing" ∷ codes "--names" ∷ codes "12" ∷ []) (settings.Sharing false runs.Bland (Some 20000) (Some 12))
  pub sharing_fewer : HaveNoReading (codes "sharing" ∷ codes "--names" ∷ codes "9" ∷ [])
  pub outer : AreReadAs (codes "outer" ∷ codes "--names" ∷ codes "12" ∷ []) (settings.Outer false runs.Bland (Some 20000) 512 256 (Some 12))
