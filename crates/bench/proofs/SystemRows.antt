-- Rows that are read term by term.
use Rattle.std.proofs.Common.{◌≢◌, ℕ, ◌+◌, ◌≤◌, ℤ, pos, [], ◌∷◌, ◌++◌, arith}
use Rattle.it_number.specs.Limit.{IsWithin}
use Rattle.it_space.specs.Rows.{Terms, Ascends, IsCanonical}

-- the coordinates ascend from a number on and stay below another, and no coefficient is 0 or past the limit
abbrev pub AscendsBelow : ℕ → ℕ → Terms → Type 0
AscendsBelow from to [] = from ≤ to
AscendsBelow from to (t ∷ ts) = (from ≤ t.0) × (t.1 ≢ pos 0) × IsWithin t.1 × AscendsBelow (t.0 + 1) to ts

pub ascends_wider : (from to more : ℕ) (ts : Terms) → to ≤ more → AscendsBelow from to ts → AscendsBelow from more ts
ascends_wider from to more [] h a = omega (arith, h, a)
ascends_wider from to more (t ∷ ts) h a = (a.0, a.1, a.2, ascends_wider (t.0 + 1) to more ts h a.3)

pub ascends_more : (from to : ℕ) (x : ℤ) (ts : Terms) → x ≢ pos 0 → IsWithin x → AscendsBelow from to ts → AscendsBelow from (to + 1) (ts ++ (to, x) ∷ [])
ascends_more from to x [] n w a = (a, n, w, omega arith)
ascends_more from to x (t ∷ ts) n w a = (a.0, a.1, a.2, ascends_more (t.0 + 1) to x ts n w a.3)

ascends_all : (from to : ℕ) (ts : Terms) → AscendsBelow from to ts → Ascends from ts
ascends_all from to [] a = tt
ascends_all from to (t ∷ ts) a = (a.0, a.1, a.2, ascends_all (t.0 + 1) to ts a.3)

pub canonical_of : (to : ℕ) (ts : Terms) → AscendsBelow 0 to ts → IsCanonical ts
canonical_of to ts a = ascends_all 0 to ts a
