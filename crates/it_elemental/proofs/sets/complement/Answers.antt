use Rattle.std.proofs.Common.{◌≡◌, ◌+◌, ◌-◌, ◌<◌, ◌^◌, ℕ, bit_and, ap, ◌∙◌, arith}
use Rattle.std.proofs.lemmas.Nat.{and_mask}
use Rattle.std.proofs.lemmas.Nat.Bits.{bit_at_and, bit_at-lt, bit_at-zero, same_from_bits}
use Rattle.std.specs.Int.{bit_at}
use native.Mathlib.Nat.{mod-eq_of_lt}
use Rattle.it_elemental.proofs.sets.complement.Goals as goal

complement_is : (n all s r : ℕ) → s < 2 ^ n → all ≡ 2 ^ n - 1 → r + bit_and s all ≡ all → r ≡ 2 ^ n - 1 - s
complement_is n all s r h e f = let inside : bit_and s all ≡ s = ap (bit_and s) e ∙ and_mask s n ∙ mod-eq_of_lt h in omega arith

-- what is outside has no member in common
no_common_member : (r all s : ℕ) → ((i : ℕ) → bit_at r i ≡ bit_at all i - bit_at s i) → bit_and r s ≡ 0
no_common_member r all s h = same_from_bits (bit_and r s) 0 (λ i.
    let a = bit_at_and r s i in let b = bit_at-lt all i in let d = bit_at-lt s i in let e = h i in let z = bit_at-zero i in omega arith)

pub returns : goal.returns
returns c = record {
  value = complement_is c.args.n c.all_variables.result c.args.set c.minus.result c.requires.below c.all_variables.ensures c.minus.ensures.rest;
  apart = no_common_member c.minus.result c.all_variables.result c.args.set c.minus.ensures.members;
}
