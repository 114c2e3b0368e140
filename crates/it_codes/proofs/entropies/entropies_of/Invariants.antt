use Rattle.std.proofs.Common.{◌≡◌, ◌<◌, ◌≤◌, ◌+◌, ◌^◌, ℕ, length, All}
use Rattle.it_number.specs.Limit.{IsWithin}
use Rattle.it_codes.specs.Codes.{variables_of, HasEntropy}
use Rattle.it_codes.proofs.entropies.entropies_of.Given as goal

abbrev pub invariant-loop-set : goal.invariant-loop-set
invariant-loop-set l = (l.set-end ≡ 2 ^ variables_of l.code) × (length l.values.items + 1 ≡ l.set) × All IsWithin l.values.items
    × ((s : ℕ) → 1 ≤ s → s < l.set → HasEntropy l.code 1 l.values.items s)
