use Rattle.std.proofs.Common.{◌^◌}
use Rattle.it_eliminate.specs.Elimination.{ordered_rows}
use Rattle.it_eliminate.proofs.EndLemmas.{LeadsTo}
use Rattle.it_eliminate.proofs.elimination.rows_after.Given as goal

abbrev pub invariant-loop-rate : goal.invariant-loop-rate
invariant-loop-rate l = LeadsTo (2 ^ l.space.variables) l.most (ordered_rows l.fn.rows.items) l.current.items l.rates l.rate-index
