-- No public clause cites this module: the texts of the mode and of each option by their names.
use Rattle.std.specs.Prelude.{◌≡◌, Option, None, if◌then◌else◌, codes, option_map}
use Rattle.std.proofs.Common.{Bor}
use Rattle.std.specs.Str.{bytes_eq}
use Rattle.clap.specs.Words.{Text}
use Rattle.it_settings.specs.declared.reading.Values.{Values}

-- the texts of the mode and of each option, as a function of their names
abbrev pub by_name : (mode format pivots rows tries seed count run names report : Option Text) → Text → Option Text
by_name mode format pivots rows tries seed count run names report name =
    if bytes_eq name (codes "mode") then mode else
    if bytes_eq name (codes "format") then format else
    if bytes_eq name (codes "pivots") then pivots else
    if bytes_eq name (codes "rows") then rows else
    if bytes_eq name (codes "tries") then tries else
    if bytes_eq name (codes "seed") then seed else
    if bytes_eq name (codes "count") then count else
    if bytes_eq name (codes "run") then run else
    if bytes_eq name (codes "names") then names else
    if bytes_eq name (codes "report") then report else None

-- a text that was given, as contracts see it
abbrev pub text_of : Option (Bor Text) → Option Text
text_of o = option_map (λ s. s.now) o

-- the texts of the values, by name
abbrev pub texts_of : Values → Text → Option Text
texts_of v name = by_name (text_of v.mode) (text_of v.format) (text_of v.pivots) (text_of v.rows) (text_of v.tries) (text_of v.seed) (text_of v.count)
    (text_of v.run) (text_of v.names) (text_of v.report) name

-- the values have the texts of given
pub record AreTexts (given : Text → Option Text) (v : Values) : Type 0 where
  pub mode : text_of v.mode ≡ given (codes "mode")
  pub format : text_of v.format ≡ given (codes "format")
  pub pivots : text_of v.pivots ≡ given (codes "pivots")
  pub rows : text_of v.rows ≡ given (codes "rows")
  pub tries : text_of v.tries ≡ given (codes "tries")
  pub seed : text_of v.seed ≡ given (codes "seed")
  pub count : text_of v.count ≡ given (codes "count")
  pub run : text_of v.run ≡ given (codes "run")
  pub names : text_of v.names ≡ given (codes "names")
  pub report : text_of v.report ≡ given (codes "report")
