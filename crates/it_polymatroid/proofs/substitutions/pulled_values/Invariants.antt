use Rattle.std.proofs.Common.{◌≡◌, ◌<◌, ℕ, pos, length, get_or, All}
use Rattle.it_number.specs.Limit.{IsWithin}
use Rattle.it_polymatroid.specs.Substitutions.{union_of_images}
use Rattle.it_polymatroid.specs.Tables.{IsTable, value_at}
use Rattle.it_polymatroid.proofs.substitutions.pulled_values.Given as goal

abbrev pub invariant-loop-number : goal.invariant-loop-number
invariant-loop-number l = (length l.values.items ≡ l.number)
    × (All IsWithin l.values.items)
    × ((s : ℕ) → s < l.number → get_or l.values.items s (pos 0) ≡ value_at l.table (union_of_images l.by s))
    × (0 < l.number → IsTable l.table)
