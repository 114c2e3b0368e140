-- Where the defined run is in reach, and the effort to decide targets where it isn't.
use Rattle.std.specs.Prelude.{Bool, ◌&&◌, nat_le, if◌then◌else◌}
use Rattle.it_problems.specs.Problems.{ProblemView}
use Rattle.it_closure.specs.Sizes.{most_entries, most_variables_in_reach, table_size}
use Rattle.it_prove.specs.declared.types.Effort.{Effort}
use Rattle.it_prove.specs.declared.types.Runs.TheVariants.{QuickAlone}

-- the defined run about targets under q is in reach: q has at most ten variables, and its table at most 4,000,000 entries
unfoldable pub is_in_reach : ProblemView → Bool
is_in_reach q = nat_le q.space.variables most_variables_in_reach && nat_le (table_size q) most_entries

-- this effort where the defined run is in reach, else a quick run alone
unfoldable pub effort_under : ProblemView → Effort → Effort
effort_under q effort = if is_in_reach q then effort else record { runs = QuickAlone; pivots = effort.pivots }
