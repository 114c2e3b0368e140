-- The results of elimination, as contracts compare them: each row by its terms.
use Rattle.std.specs.Prelude.{ℕ, ◌^◌, List}
use Rattle.it_problems.specs.declared.problems.System.{System}
use Rattle.it_eliminate.specs.declared.types.Eliminated.{Eliminated}
use Rattle.it_eliminate.specs.declared.types.Eliminated.TheVariants as elimination_ends
use Rattle.it_eliminate.specs.declared.types.Stop.{Stop}
use Rattle.it_eliminate.specs.declared.types.Stop.TheVariants as stops
use Rattle.it_eliminate.specs.Elimination.{EliminatedView, Region, Rows, Wide, ordered_rows, EliminationEnds}

-- the contracts' view of a result, with rows by their terms
abbrev pub eliminated_view : Eliminated → EliminatedView
eliminated_view (elimination_ends.Region system) = Region system.rows.items
eliminated_view (elimination_ends.Rows rate) = Rows rate
eliminated_view (elimination_ends.Wide rate) = Wide rate

-- end is the result of the elimination of rates from a system, where each list may have at most most rows
abbrev pub SystemEnds : System → ℕ → List ℕ → Eliminated → Type 0
SystemEnds s most rates end = EliminationEnds (2 ^ s.space.variables) most (ordered_rows s.rows.items) rates (eliminated_view end)

-- a stop, where it isn't that memory ran out, is a result that elimination may end with
abbrev pub StopsBy : (EliminatedView → Type 0) → Stop → Type 0
StopsBy ends (stops.Rows rate) = ends (Rows rate)
StopsBy ends (stops.Wide rate) = ends (Wide rate)
StopsBy ends stops.Memory = Unit {0}
