-- A read from the bytes in memory.
use Rattle.std.proofs.Common.{◌≡◌, ℕ, ◌+◌, ◌-◌, ◌≤◌, List, [], ◌++◌, length, take, drop, sym, ap, ◌∙◌, arith, take-append-drop}
use Rattle.std.proofs.lemmas.List.{take_all, take-append-le, length-take, length-drop, drop-drop}
use Rattle.std.proofs.Math.ListN.{drop_of_length-le}
use Rattle.it_outside.proofs.Moved.{from_start}

-- the bytes copied to the front of a buffer are there
take-copied : (from to new : List ℕ) (n : ℕ) → n ≤ length from → new ≡ take n from ++ drop n to → take n new ≡ take n from
take-copied from to new n within copied =
    ap (take n) copied ∙ take-append-le n (take n from) (drop n to) (simp length-take (omega arith)) ∙ take_all n (take n from) (simp length-take (omega arith))

-- the n bytes from a place on were copied, so they are the first of what was left there
pub left-copied : (bytes to new : List ℕ) (at n : ℕ) → n ≤ length (take (length bytes - at) (drop at bytes))
    → new ≡ take n (take (length bytes - at) (drop at bytes)) ++ drop n to → drop at bytes ≡ take n new ++ drop (at + n) bytes
left-copied bytes to new at n within copied =
    rw (take-copied _ to new n within copied, from_start bytes at, ← drop-drop n at bytes) (sym (take-append-drop n (drop at bytes)))

-- nothing is left from a place on where the bytes up to there are all
pub left-none : (bytes : List ℕ) (at n : ℕ) → length (take (length bytes - at) (drop at bytes)) ≡ 0 → drop (at + n) bytes ≡ []
left-none bytes at n none = drop_of_length-le bytes (let few = simp (length-take, length-drop) at none in omega (arith, few))
