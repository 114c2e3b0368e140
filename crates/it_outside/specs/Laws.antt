-- Laws of sources whose bytes are known, and of counts of faults that don't change.
use Rattle.std.specs.Prelude.{ℕ, ◌≡◌, ◌^◌, ◌-◌, ◌<◌, List, length, Option, Some}
use Rattle.it_outside.specs.Causes.{next_count}
use Rattle.it_outside.specs.Traffic.{Gave, GaveMore}

-- the bytes that a source gave up to its end are all that it had
abbrev pub EndComesLast : Type 0
EndComesLast = (bytes given : List ℕ) (left : Option (List ℕ)) → Gave (Some bytes) left given → given ≡ bytes

-- a source had more bytes than a limit if it gave more
abbrev pub MoreWasThere : Type 0
MoreWasThere = (bytes : List ℕ) (left : Option (List ℕ)) (limit : ℕ) → GaveMore (Some bytes) left limit → limit < length bytes

-- a count below the greatest value of its type changes when it is increased by one
abbrev pub StayedIsNoFault : Type 0
StayedIsNoFault = (count : ℕ) → count < 2 ^ 64 - 1 → count ≡ next_count count → ⊥
