use Rattle.std.proofs.Common.{◌≡◌, ◌<◌, ◌≤◌, ◌^◌, ℕ}
use Rattle.it_codes.specs.Codes.{variables_of, HasEntropy}
use Rattle.it_codes.proofs.entropies.first_other_of.Given as goal

abbrev pub invariant-loop-set : goal.invariant-loop-set
invariant-loop-set l = (l.set-end ≡ 2 ^ variables_of l.code) × (1 ≤ l.set)
    × ((s : ℕ) → 1 ≤ s → s < l.set → HasEntropy l.code l.times l.point s)
