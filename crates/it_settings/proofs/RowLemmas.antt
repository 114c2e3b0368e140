-- The command lines of the tables, computed.
use Rattle.std.proofs.Common.{refl}
use Rattle.clap.proofs.OnLiterals.{clap_on_literals}
use Rattle.it_settings.specs.App.{option_rule, flag_rule, mode_rule, bare_app, itip_app}
use Rattle.it_settings.specs.Settings.{settings_of, settings_by, answer_of, bench_of, runs_of, outer_of, number_of, pivots_of, format_of, run_of}
use Rattle.it_settings.specs.Rows.{ModesAreRead, FormsAreRead, NumbersAreRead, BenchIsRead, RunsAreRead, CopyIsRead, BestIsRead, SharingIsRead, OuterIsRead, OtherModesAreRead, ReportsAreRead, NamesAreRead}

pub modes_are_read : ModesAreRead
unfolding clap_on_literals settings_of settings_by answer_of bench_of number_of pivots_of format_of run_of itip_app bare_app mode_rule option_rule flag_rule
modes_are_read = record {
  answer = refl;
  check = refl;
  bench = refl;
  no_words = refl;
  unknown = refl;
  capital = refl;
  cut_short = refl;
  empty = refl;
  twice = refl;
  two_modes = refl;
  help = refl;
  help_of_mode = refl;
  help_word = refl;
  short_help = refl;
  version = refl;
  after_hyphens = refl;
  hyphens_after = refl;
  options_after_hyphens = refl;
  only_option = refl;
}

pub forms_are_read : FormsAreRead
unfolding clap_on_literals settings_of settings_by answer_of bench_of number_of pivots_of format_of run_of itip_app bare_app mode_rule option_rule flag_rule
forms_are_read = record {
  spaced = refl;
  joined = refl;
  text = refl;
  proof = refl;
  derived = refl;
  capitals = refl;
  before_mode = refl;
  all_options = refl;
  twice = refl;
  twice_joined = refl;
  cut_short = refl;
  one_hyphen = refl;
  short = refl;
  unknown = refl;
  no_value = refl;
  option_as_value = refl;
  empty_joined = refl;
  empty_spaced = refl;
  empty_format = refl;
}

pub numbers_are_read : NumbersAreRead
unfolding clap_on_literals settings_of settings_by answer_of bench_of number_of pivots_of format_of run_of itip_app bare_app mode_rule option_rule flag_rule
numbers_are_read = record {
  pivots_zero = refl;
  pivots_least = refl;
  pivots_most = refl;
  pivots_more = refl;
  pivots_without = refl;
  pivots_joined = refl;
  pivots_capital = refl;
  pivots_longer = refl;
  rows_without = refl;
  tries_without = refl;
  rows_zero = refl;
  rows_least = refl;
  rows_most = refl;
  rows_more = refl;
  tries_zero = refl;
  tries_least = refl;
  tries_most = refl;
  tries_more = refl;
  zeros_before = refl;
  ten_digits = refl;
  eleven_digits = refl;
  past_32_bits = refl;
  hyphen = refl;
  joined_hyphen = refl;
  plus = refl;
  blank = refl;
  letter = refl;
  point = refl;
}

pub bench_is_read : BenchIsRead
unfolding clap_on_literals settings_of settings_by answer_of bench_of number_of pivots_of format_of run_of itip_app bare_app mode_rule option_rule flag_rule
bench_is_read = record {
  all_options = refl;
  seed_least = refl;
  seed_most = refl;
  seed_more = refl;
  count_zero = refl;
  count_least = refl;
  count_most = refl;
  count_more = refl;
  pivots_without = refl;
  seed_without = refl;
  count_without = refl;
  hyphen = refl;
}

pub other_modes_are_read : OtherModesAreRead
unfolding clap_on_literals settings_of settings_by answer_of bench_of number_of pivots_of format_of run_of itip_app bare_app mode_rule option_rule flag_rule
other_modes_are_read = record {
  check_format = refl;
  check_pivots = refl;
  check_rows = refl;
  check_tries = refl;
  check_seed = refl;
  check_count = refl;
  answer_seed = refl;
  answer_count = refl;
  check_pivots_without = refl;
  bench_format = refl;
}

pub runs_are_read : RunsAreRead
unfolding clap_on_literals settings_of settings_by answer_of bench_of number_of pivots_of format_of run_of itip_app bare_app mode_rule option_rule flag_rule
runs_are_read = record {
  quick = refl;
  bland = refl;
  with_all = refl;
  bench = refl;
  capital = refl;
  unknown = refl;
  longer = refl;
  no_value = refl;
  empty = refl;
  twice = refl;
  check = refl;
}

pub copy_is_read : CopyIsRead
unfolding clap_on_literals settings_of settings_by answer_of bench_of runs_of number_of pivots_of format_of run_of itip_app bare_app
    mode_rule option_rule flag_rule
copy_is_read = record {
  alone = refl;
  pivots = refl;
  pivots_without = refl;
  pivots_more = refl;
  quick = refl;
  quick_without = refl;
  other_run = refl;
  format = refl;
  rows = refl;
  tries = refl;
  seed = refl;
  count = refl;
  two_modes = refl;
}

pub best_is_read : BestIsRead
unfolding clap_on_literals settings_of settings_by answer_of bench_of runs_of number_of pivots_of format_of run_of itip_app bare_app
    mode_rule option_rule flag_rule
best_is_read = record {
  alone = refl;
  pivots = refl;
  pivots_without = refl;
  pivots_more = refl;
  quick = refl;
  quick_without = refl;
  other_run = refl;
  format = refl;
  rows = refl;
  tries = refl;
  seed = refl;
  count = refl;
  two_modes = refl;
}

pub sharing_is_read : SharingIsRead
unfolding clap_on_literals settings_of settings_by answer_of bench_of runs_of number_of pivots_of format_of run_of itip_app bare_app
    mode_rule option_rule flag_rule
sharing_is_read = record {
  alone = refl;
  pivots = refl;
  pivots_without = refl;
  pivots_more = refl;
  quick = refl;
  quick_without = refl;
  other_run = refl;
  format = refl;
  rows = refl;
  tries = refl;
  seed = refl;
  count = refl;
  two_modes = refl;
}

pub outer_is_read : OuterIsRead
unfolding clap_on_literals settings_of settings_by answer_of bench_of runs_of outer_of number_of pivots_of format_of run_of itip_app
    bare_app mode_rule option_rule flag_rule
outer_is_read = record {
  alone = refl;
  all_options = refl;
  rows_most = refl;
  rows_more = refl;
  tries_zero = refl;
  format = refl;
  seed = refl;
  count = refl;
  two_modes = refl;
}

pub reports_are_read : ReportsAreRead
unfolding clap_on_literals settings_of settings_by answer_of bench_of runs_of outer_of number_of pivots_of format_of run_of itip_app
    bare_app mode_rule option_rule flag_rule
reports_are_read = record {
  copy = refl;
  best = refl;
  sharing = refl;
  with_all = refl;
  twice = refl;
  value = refl;
  word_after = refl;
  answer = refl;
  check = refl;
  bench = refl;
  outer = refl;
}

pub names_are_read : NamesAreRead
unfolding clap_on_literals settings_of settings_by answer_of bench_of runs_of outer_of number_of pivots_of format_of run_of itip_app
    bare_app mode_rule option_rule flag_rule
names_are_read = record {
  least = refl;
  most = refl;
  fewer = refl;
  more = refl;
  zero_names = refl;
  word = refl;
  no_value = refl;
  empty = refl;
  twice = refl;
  with_all = refl;
  check = refl;
  check_more = refl;
  bench = refl;
  copy = refl;
  best = refl;
  sharing = refl;
  sharing_fewer = refl;
  outer = refl;
}
