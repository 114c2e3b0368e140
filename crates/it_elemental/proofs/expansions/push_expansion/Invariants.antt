use Rattle.std.proofs.Common.{◌++◌, map}
use Rattle.it_polymatroid.specs.Elementals.{elemental_at}
use Rattle.it_elemental.specs.Expansions.{variable_expansion, members}
use Rattle.it_elemental.proofs.ExpansionLemmas.{IsExpansionUnderWay}
use Rattle.it_elemental.proofs.expansions.push_expansion.Given as goal

abbrev pub invariant-loop-y : goal.invariant-loop-y
invariant-loop-y l = IsExpansionUnderWay l.n l.x l.ys (map (elemental_at l.n) l.initial.indexes.items
    ++ variable_expansion l.x (members l.n l.ys) l.fn.given) l.y l.before l.indexes.items
