use Rattle.std.proofs.Common.{◌≡◌, drop}
use Rattle.it_tell.specs.SortedRows.{is_before}
use Rattle.it_tell.proofs.regions.is_before.Given as goal

abbrev pub invariant-loop-i : goal.invariant-loop-i
invariant-loop-i l = is_before l.numbers l.others ≡ is_before (drop l.i l.numbers) (drop l.i l.others)
