-- The number of answers that are counted, and parts of the line of counts. No public clause cites this module.
use Rattle.std.specs.Prelude.{ℕ, ◌+◌, List, ◌++◌, codes, decimal}
use Rattle.it_cli.specs.declared.counts.Counts.{Counts}

-- the number of answers of all kinds together
abbrev pub total : Counts → ℕ
total c = c.yes + c.no + c.undecided + c.regions + c.contained + c.left_open

-- the numbers of answers that are a yes, a no, or undecided
abbrev pub outcomes_text : Counts → List ℕ
outcomes_text c = codes " yes " ++ decimal c.yes ++ codes " no " ++ decimal c.no ++ codes " undecided " ++ decimal c.undecided

-- the numbers of answers about regions
abbrev pub regions_text : Counts → List ℕ
regions_text c = codes " region " ++ decimal c.regions ++ codes " contained " ++ decimal c.contained ++ codes " open " ++ decimal c.left_open
