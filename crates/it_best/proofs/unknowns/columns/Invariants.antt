use Rattle.std.proofs.Common.{◌≡◌, ◌++◌, drop}
use Rattle.it_columns.specs.Columns.{columns}
use Rattle.it_best.specs.Phases.{unknown_views}
use Rattle.it_best.proofs.unknowns.columns.Given as goal

abbrev pub invariant-loop-unknown : goal.invariant-loop-unknown
invariant-loop-unknown l = l.columns.items ++ columns (unknown_views (drop l.unknown-index l.unknowns)) ≡ columns (unknown_views l.unknowns)
