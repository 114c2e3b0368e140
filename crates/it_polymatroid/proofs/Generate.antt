-- The elemental inequalities, as a list, generate the axioms over all pairs of sets.
use Rattle.std.proofs.Common.{◌≡◌, ℕ, ◌+◌, ◌-◌, ◌^◌, ◌<◌, ℤ, pos, ◌+ℤ◌, ◌-ℤ◌, ◌≤ℤ◌, map, true, ◌&&◌, arith}
use Rattle.std.specs.List.{filter, flat_map, AllByRecursion as Every}
use Rattle.std.proofs.lemmas.Int.{ints}
use Rattle.std.proofs.lemmas.Bool.Decides.{nat_tests}
use Rattle.std.proofs.lemmas.Nat.Bits.{bit_at-lt}
use Rattle.std.specs.Int.{bit_at}
use Rattle.it_polymatroid.specs.Elementals.{Elemental, Conditional, Mutual, elemental_value, span, lacks, mutuals_of, elementals, ElementalsGenerate}
use Rattle.it_space.proofs.EveryLemmas.{every_of, all_of, every-append, every_front, every_back, every-map, every_mapped, every-flat_map, every_flat_mapped, every-filter, every_filtered}
use Rattle.it_polymatroid.proofs.Spans.{every-span, every_spanned}
use Rattle.it_polymatroid.proofs.Halves.{ElementalsHold, polymatroid_of}
use Rattle.it_polymatroid.proofs.Instances.{elementals_of}

-- the sets without two variables, as the list has them and by their digits
lacks_by_bits : (i j k : ℕ) → bit_at k i ≡ 0 → bit_at k j ≡ 0 → (lacks k i && lacks k j) ≡ true
lacks_by_bits i j k a b = grind (arith, nat_tests)

bits_by_lacks : (i j k : ℕ) → (lacks k i && lacks k j) ≡ true → (bit_at k i ≡ 0) × (bit_at k j ≡ 0)
bits_by_lacks i j k e = (grind (arith, nat_tests, bit_at-lt k i), grind (arith, nat_tests, bit_at-lt k j))

-- what holds of every elemental inequality
pub record HoldsOfElementals (P : Elemental → Type 0) (n : ℕ) : Type 0 where
  pub conditional : (i : ℕ) → i < n → P (Conditional i)
  pub mutual_of : (i j k : ℕ) → i < j → j < n → k < 2 ^ n → bit_at k i ≡ 0 → bit_at k j ≡ 0 → P (Mutual i j k)

pub to_list : (P : Elemental → Type 0) (n : ℕ) → HoldsOfElementals P n → Every P (elementals n)
to_list P n h = every-append P (map Conditional (span 0 n)) (flat_map (λ i. flat_map (mutuals_of n i) (span (i + 1) (n - (i + 1)))) (span 0 n))
    (every-map P Conditional (span 0 n) (every-span (λ i. P (Conditional i)) 0 n (λ i a b. h.conditional i (omega arith))))
    (every-flat_map P (λ i. flat_map (mutuals_of n i) (span (i + 1) (n - (i + 1)))) (span 0 n)
    (every-span (λ i. Every P (flat_map (mutuals_of n i) (span (i + 1) (n - (i + 1))))) 0 n (λ i a b.
    every-flat_map P (mutuals_of n i) (span (i + 1) (n - (i + 1)))
    (every-span (λ j. Every P (mutuals_of n i j)) (i + 1) (n - (i + 1)) (λ j c d.
    every-map P (Mutual i j) (filter (λ k. lacks k i && lacks k j) (span 0 (2 ^ n)))
    (every-filter (λ k. P (Mutual i j k)) (λ k. lacks k i && lacks k j) (span 0 (2 ^ n))
    (every-span (λ k. (lacks k i && lacks k j) ≡ true → P (Mutual i j k)) 0 (2 ^ n) (λ k e f t.
    let both = bits_by_lacks i j k t in h.mutual_of i j k (omega arith) (omega arith) (omega arith) both.0 both.1))))))))

pub from_list : (P : Elemental → Type 0) (n : ℕ) → Every P (elementals n) → HoldsOfElementals P n
from_list P n e = record {
  conditional = λ i h. every_spanned (λ i. P (Conditional i)) 0 n (every_mapped P Conditional (span 0 n)
      (every_front P (map Conditional (span 0 n)) (flat_map (λ i. flat_map (mutuals_of n i) (span (i + 1) (n - (i + 1)))) (span 0 n)) e)) i
      (omega arith) (omega arith);
  mutual_of = λ i j k h l m a b.
      let all : Every P (flat_map (λ i. flat_map (mutuals_of n i) (span (i + 1) (n - (i + 1)))) (span 0 n)) = every_back P
      (map Conditional (span 0 n)) (flat_map (λ i. flat_map (mutuals_of n i) (span (i + 1) (n - (i + 1)))) (span 0 n)) e in
      let at_i : Every P (flat_map (mutuals_of n i) (span (i + 1) (n - (i + 1)))) = every_spanned
      (λ i. Every P (flat_map (mutuals_of n i) (span (i + 1) (n - (i + 1))))) 0 n
      (every_flat_mapped P (λ i. flat_map (mutuals_of n i) (span (i + 1) (n - (i + 1)))) (span 0 n) all) i (omega arith) (omega arith)
      in
      let at_j : Every P (mutuals_of n i j) = every_spanned (λ j. Every P (mutuals_of n i j)) (i + 1) (n - (i + 1))
      (every_flat_mapped P (mutuals_of n i) (span (i + 1) (n - (i + 1))) at_i) j (omega arith) (omega arith) in
      every_spanned (λ k. (lacks k i && lacks k j) ≡ true → P (Mutual i j k)) 0 (2 ^ n)
      (every_filtered (λ k. P (Mutual i j k)) (λ k. lacks k i && lacks k j) (span 0 (2 ^ n))
      (every_mapped P (Mutual i j) (filter (λ k. lacks k i && lacks k j) (span 0 (2 ^ n))) at_j)) k (omega arith) (omega arith)
      (lacks_by_bits i j k a b);
}

at_most : (a b : ℤ) → pos 0 ≤ℤ (a -ℤ b) → b ≤ℤ a
at_most a b h = omega (arith, ints)

difference : (a b : ℤ) → b ≤ℤ a → pos 0 ≤ℤ (a -ℤ b)
difference a b h = omega (arith, ints)

abbrev Met : ℕ → (ℕ → ℤ) → Elemental → Type 0
Met n h e = pos 0 ≤ℤ elemental_value n h e

by_index : (n : ℕ) (h : ℕ → ℤ) → HoldsOfElementals (Met n h) n → ElementalsHold n h
by_index n h e = record {
  conditional = λ i l. at_most (h (2 ^ n - 1)) (h (2 ^ n - 1 - 2 ^ i)) (e.conditional i l);
  mutual_of = λ i j k l m p a b. at_most (h (k + 2 ^ i) +ℤ h (k + 2 ^ j)) (h (k + 2 ^ i + 2 ^ j) +ℤ h k) (e.mutual_of i j k l m p a b);
}

of_index : (n : ℕ) (h : ℕ → ℤ) → ElementalsHold n h → HoldsOfElementals (Met n h) n
of_index n h e = record {
  conditional = λ i l. difference (h (2 ^ n - 1)) (h (2 ^ n - 1 - 2 ^ i)) (e.conditional i l);
  mutual_of = λ i j k l m p a b. difference (h (k + 2 ^ i) +ℤ h (k + 2 ^ j)) (h (k + 2 ^ i + 2 ^ j) +ℤ h k) (e.mutual_of i j k l m p a b);
}

pub elementals_generate : ElementalsGenerate
elementals_generate n h z = (
  λ m. polymatroid_of n h z (by_index n h (from_list (Met n h) n (every_of (Met n h) (elementals n) m))),
  λ p. all_of (Met n h) (elementals n) (to_list (Met n h) n (of_index n h (elementals_of n h p))),
)
