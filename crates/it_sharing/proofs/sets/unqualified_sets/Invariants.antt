use Rattle.std.proofs.Common.{◌≡◌, ◌-◌, ◌^◌, ◌++◌, filter}
use Rattle.std.specs.List.{range_with_len}
use Rattle.it_sharing.specs.AccessStructures.{is_unqualified}
use Rattle.it_sharing.proofs.sets.unqualified_sets.Given as goal

-- the sets so far with those that are left are the whole
abbrev pub invariant-loop-number : goal.invariant-loop-number
invariant-loop-number l = l.sets.items ++ filter (is_unqualified l.listed) (range_with_len l.number (2 ^ l.variables - l.number))
    ≡ filter (is_unqualified l.listed) (range_with_len 0 (2 ^ l.variables))
