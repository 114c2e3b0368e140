-- What the words of `tell` ask for.
use Rattle.std.specs.Prelude.{ℕ, Bool, List, [], ◌∷◌, true, false, not, ◌&&◌, Option, Some, None, if◌then◌else◌, codes, option_and_then, option_map}
use Rattle.std.specs.Str.{bytes_eq}
use Rattle.it_tell.specs.declared.settings.Options.{Options}
use Rattle.it_tell.specs.declared.settings.Settings.{Settings}
use Rattle.it_tell.specs.declared.settings.Style.{Style}
use Rattle.it_tell.specs.declared.settings.Style.TheVariants.{Plain, Named, Whole}
use Rattle.it_tell.specs.declared.settings.Settings.TheVariants.{Tell, Help, Version}

-- whether the style is the plain one, for which no word asks
abbrev pub is_plain : Style → Bool
is_plain Plain = true
is_plain Named = false
is_plain Whole = false

-- the options with the one that `word` adds; None where it is no option, or is there already, or is a second style
unfoldable pub with_word : Options → List ℕ → Option Options
with_word o word =
    if bytes_eq word (codes "--steps") && not o.steps then Some (record { steps = true; short = o.short; style = o.style }) else
    if bytes_eq word (codes "--short") && not o.short then Some (record { steps = o.steps; short = true; style = o.style }) else
    if bytes_eq word (codes "--named") && is_plain o.style then Some (record { steps = o.steps; short = o.short; style = Named }) else
    if bytes_eq word (codes "--whole") && is_plain o.style then Some (record { steps = o.steps; short = o.short; style = Whole }) else None

-- the options with those that the words add, one after the other
abbrev pub with_words : Options → List (List ℕ) → Option Options
with_words o [] = Some o
with_words o (word ∷ words) = option_and_then (λ p. with_words p words) (with_word o word)

-- the options where there are no words
abbrev pub no_options : Options
no_options = record { steps = false; short = false; style = Plain }

-- what `word` asks for where it is the only word
unfoldable pub alone : List ℕ → Option Settings
alone word =
    if bytes_eq word (codes "--help") then Some Help else
    if bytes_eq word (codes "--version") then Some Version else option_map Tell (with_word no_options word)

-- what the words ask for, if they ask for something
unfoldable pub settings_of : List (List ℕ) → Option Settings
settings_of [] = Some (Tell no_options)
settings_of (word ∷ []) = alone word
settings_of (word ∷ more ∷ words) = option_map Tell (with_words no_options (word ∷ more ∷ words))
