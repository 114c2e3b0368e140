-- Pairs of sets of a table.
use Rattle.std.proofs.Common.{◌≡◌, ◌⊎◌, inl, inr, ℕ, ◌^◌, ◌<◌, ◌≤◌, ℤ, pos, bit_and, bit_or, length, arith, lit<}
use Rattle.std.proofs.lemmas.Bool.{cases_lt}
use Rattle.std.proofs.lemmas.List.{get_or_past}
use Rattle.it_number.specs.Limit.{IsWithin}
use Rattle.std.proofs.lemmas.Nat.{or_lt, and_le_r}
use Rattle.it_space.proofs.SetLemmas.{inside_below}
use Rattle.it_polymatroid.specs.Polymatroid.{IsPolymatroid}
use Rattle.it_polymatroid.specs.Tables.{SetFunction, IsTable, value_at}
use Rattle.it_polymatroid.specs.TablePairs.{PairsHoldAt}

pub union_below : (n s t : ℕ) → s < 2 ^ n → t < 2 ^ n → bit_or s t < 2 ^ n
union_below n s t h k = or_lt n s t h k

pub meet_below : (n s t : ℕ) → s < 2 ^ n → t < 2 ^ n → bit_and s t < 2 ^ n
meet_below n s t h k = omega (arith, and_le_r s t)

-- the axioms at each two sets are the axioms
pub by_pairs : (n : ℕ) (h : ℕ → ℤ) → h 0 ≡ pos 0 → ((s : ℕ) → s < 2 ^ n → PairsHoldAt n h s) → IsPolymatroid n h
by_pairs n h z f = record {
  empty = z;
  rises = λ s t l i. (f s (inside_below n s t l i) t l).rises i;
  submodular = λ s t k l. (f s k t l).submodular;
}

-- all values of a table are within the limit
pub table_within : (f : SetFunction) → IsTable f → (s : ℕ) → IsWithin (value_at f s)
table_within f t s = by_cases (cases_lt s (length f.values))
  where
    by_cases : (s < length f.values) ⊎ (length f.values ≤ s) → IsWithin (value_at f s)
    by_cases (inl h) = t.within s (pos 0) h
    by_cases (inr h) = rw (get_or_past f.values s (pos 0) h) (lit< tt)
