-- The command as clap reads it (clap: the command line parser of Rust).
use Rattle.std.specs.Prelude.{List, [], ◌∷◌, true, Some, codes}
use Rattle.std.specs.List.{fold}
use Rattle.clap.specs.Words.{App, Rule, Text, new_app, new_rule, with_rule}
use Rattle.clap.specs.declared.builder.action.ArgAction.TheVariants.{Set, SetTrue}

-- an option `--name value` or `--name=value`
unfoldable pub option_rule : Text → Rule
option_rule name = record (new_rule name) { long = Some name; action = Some Set }

-- an option `--name` without a value
unfoldable pub flag_rule : Text → Rule
flag_rule name = record (new_rule name) { long = Some name; action = Some SetTrue }

-- the argument for the mode, which is required
unfoldable pub mode_rule : Rule
mode_rule = record (new_rule (codes "mode")) { action = Some Set; required = true }

-- the command without arguments: no program's name before the words, and no flags for help or the version
unfoldable pub bare_app : App
bare_app = let a = new_app (codes "itip") in record a { top = record a.top { no_binary_name = true; disable_help_flag = true; disable_version_flag = true } }

-- the options of all modes that have a value
abbrev pub option_names : List Text
option_names = codes "format" ∷ codes "pivots" ∷ codes "rows" ∷ codes "tries" ∷ codes "seed" ∷ codes "count" ∷ codes "run" ∷ codes "names" ∷ []

-- the mode, and the options of all modes
unfoldable pub itip_app : App
itip_app = with_rule (fold (λ a name. with_rule a (option_rule name)) (with_rule bare_app mode_rule) option_names) (flag_rule (codes "report"))
