-- The demands of lines.
use Rattle.std.specs.Prelude.{ℕ, List, ◌++◌, flat_map, map}
use Rattle.it_demand.specs.Demands.{Demand, demand_of, demands}
use Rattle.it_question.specs.OwnLines.{OwnLinesView}

-- the demands of lines of n variables: those of the givens, then those of the rows
abbrev pub line_demands : ℕ → OwnLinesView → List Demand
line_demands n own = flat_map (demands n) own.givens ++ map (demand_of n) own.rows
