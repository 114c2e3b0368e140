-- Sets less other sets.
use Rattle.std.proofs.Common.{◌≡◌, ℕ, ◌-◌, ◌^◌, ◌<◌, bit_and, bit_or, max, min, sym, ap, ◌∙◌, arith}
use Rattle.std.proofs.lemmas.Nat.{and-not, and_comm, or_disjoint}
use Rattle.std.proofs.lemmas.Nat.Bits.{bit_at_and, bit_at_or, bit_at-lt, bit_at-zero, same_from_bits}
use Rattle.std.specs.Int.{bit_at}
use Rattle.std.specs.Int.Bits.{and_self}
use Rattle.it_space.specs.Sets.{IsInside}
use Rattle.it_closure.proofs.Insides.{at_most_at}
use Rattle.it_lift.specs.Lifts.{set_difference}

-- the other variables have nothing in common with a set
pub rest_apart : (n s : ℕ) → s < 2 ^ n → bit_and (2 ^ n - 1 - s) s ≡ 0
rest_apart n s h = omega (arith, and-not n s s h h, and_self s)

less_is : (n s t : ℕ) → s < 2 ^ n → t < 2 ^ n → set_difference s t ≡ bit_and (2 ^ n - 1 - t) s
less_is n s t hs ht = omega (arith, and-not n t s ht hs)

pub bit-less : (n s t i : ℕ) → s < 2 ^ n → t < 2 ^ n → bit_at (set_difference s t) i ≡ bit_at s i - bit_at t i
bit-less n s t i hs ht =
    let rest : ℕ = bit_and (2 ^ n - 1 - t) s in
    let none : min (bit_at (2 ^ n - 1 - t) i) (bit_at t i) ≡ 0 = sym (bit_at_and (2 ^ n - 1 - t) t i)
    ∙ ap (λ m. bit_at m i) (rest_apart n t ht) ∙ bit_at-zero i in
    let low : bit_at rest i ≡ min (bit_at (2 ^ n - 1 - t) i) (bit_at s i) = bit_at_and (2 ^ n - 1 - t) s i in
    let split : max (bit_at rest i) (min (bit_at t i) (bit_at s i)) ≡ bit_at s i =
    ap (λ m. max (bit_at rest i) m) (sym (bit_at_and t s i)) ∙ sym (bit_at_or rest (bit_and t s) i) ∙ ap (λ m. bit_at m i) union_of_parts in
    ap (λ m. bit_at m i) (less_is n s t hs ht) ∙ bit_difference (bit_at (2 ^ n - 1 - t) i) (bit_at s i) (bit_at t i) (bit_at rest i)
    (bit_at-lt s i) (bit_at-lt t i) none low split
  where
    bit_difference : (o s t r : ℕ) → s < 2 → t < 2 → min o t ≡ 0 → r ≡ min o s → max r (min t s) ≡ s → r ≡ s - t
    bit_difference o s t r hs ht a b c = omega arith

    parts_disjoint : bit_and (bit_and (2 ^ n - 1 - t) s) (bit_and t s) ≡ 0
    parts_disjoint = same_from_bits (bit_and (bit_and (2 ^ n - 1 - t) s) (bit_and t s)) 0 (λ i.
        let none : min (bit_at (2 ^ n - 1 - t) i) (bit_at t i) ≡ 0 = sym (bit_at_and (2 ^ n - 1 - t) t i)
        ∙ ap (λ m. bit_at m i) (rest_apart n t ht) ∙ bit_at-zero i in
        omega (arith, bit_at_and (bit_and (2 ^ n - 1 - t) s) (bit_and t s) i, bit_at_and (2 ^ n - 1 - t) s i, bit_at_and t s i, bit_at-zero i, none))

    union_of_parts : bit_or (bit_and (2 ^ n - 1 - t) s) (bit_and t s) ≡ s
    union_of_parts = or_disjoint (bit_and (2 ^ n - 1 - t) s) (bit_and t s) parts_disjoint ∙ and-not n t s ht hs

pub less_below : (n s t : ℕ) → s < 2 ^ n → set_difference s t < 2 ^ n
less_below n s t h = omega arith

pub less_apart : (n s t : ℕ) → s < 2 ^ n → t < 2 ^ n → bit_and (set_difference s t) t ≡ 0
less_apart n s t hs ht = same_from_bits (bit_and (set_difference s t) t) 0
    (λ i. omega (arith, bit_at_and (set_difference s t) t i, bit-less n s t i hs ht, bit_at-lt s i, bit_at-lt t i, bit_at-zero i))

-- both ways
pub less_less : (n s t : ℕ) → s < 2 ^ n → t < 2 ^ n → bit_and (set_difference s t) (set_difference t s) ≡ 0
less_less n s t hs ht = same_from_bits (bit_and (set_difference s t) (set_difference t s)) 0
    (λ i. omega (
      arith,
      bit_at_and (set_difference s t) (set_difference t s) i,
      bit-less n s t i hs ht,
      bit-less n t s i ht hs,
      bit_at-lt s
          i,
      bit_at-lt t i,
      bit_at-zero i,
    ))

pub less_meet : (n s t : ℕ) → s < 2 ^ n → t < 2 ^ n → bit_and (set_difference s t) (bit_and s t) ≡ 0
less_meet n s t hs ht = same_from_bits (bit_and (set_difference s t) (bit_and s t)) 0 (λ i.
    omega (arith, bit_at_and (set_difference s t) (bit_and s t) i, bit_at_and s t i, bit-less n s t i hs ht, bit_at-lt s i, bit_at-lt t i, bit_at-zero i))

pub less_meet_right : (n s t : ℕ) → s < 2 ^ n → t < 2 ^ n → bit_and (set_difference s t) (bit_and t s) ≡ 0
less_meet_right n s t hs ht = ap (bit_and (set_difference s t)) (and_comm t s) ∙ less_meet n s t hs ht

-- and joined again
pub less_joined : (n s t : ℕ) → s < 2 ^ n → t < 2 ^ n → bit_or (set_difference s t) (bit_and s t) ≡ s
less_joined n s t hs ht = same_from_bits (bit_or (set_difference s t) (bit_and s t)) s (λ i.
    omega (arith, bit_at_or (set_difference s t) (bit_and s t) i, bit_at_and s t i, bit-less n s t i hs ht, bit_at-lt s i, bit_at-lt t i))

pub less_joined_right : (n s t : ℕ) → s < 2 ^ n → t < 2 ^ n → bit_or (set_difference s t) (bit_and t s) ≡ s
less_joined_right n s t hs ht = ap (bit_or (set_difference s t)) (and_comm t s) ∙ less_joined n s t hs ht

pub less_all : (n s t : ℕ) → s < 2 ^ n → t < 2 ^ n → bit_or (bit_or (set_difference t s) (set_difference s t)) (bit_and s t) ≡ bit_or s t
less_all n s t hs ht = same_from_bits (bit_or (bit_or (set_difference t s) (set_difference s t)) (bit_and s t)) (bit_or s t) (λ i.
    omega (
      arith,
      bit_at_or (bit_or (set_difference t s) (set_difference s t)) (bit_and s t) i,
      bit_at_or (set_difference t s)
          (set_difference s t) i,
      bit_at_and s t i,
      bit_at_or s t i,
      bit-less n s t i hs ht,
      bit-less n t s i ht hs,
      bit_at-lt s i,
      bit_at-lt
          t i,
    ))

-- what is less an inner set, with that set
pub less_inner : (n s t : ℕ) → s < 2 ^ n → t < 2 ^ n → IsInside t s → bit_or (set_difference s t) t ≡ s
less_inner n s t hs ht k = same_from_bits (bit_or (set_difference s t) t) s
    (λ i. omega (arith, bit_at_or (set_difference s t) t i, bit-less n s t i hs ht, at_most_at t s k i, bit_at-lt s i, bit_at-lt t i))
