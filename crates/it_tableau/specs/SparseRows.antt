-- Rows without their zeros: each nonzero number after its column, by ascending column.
use Rattle.std.specs.Prelude.{◌≡◌, ◌≢◌, ◌<◌, ◌≤◌, ℕ, suc, cond, eqb, pos, List, [], ◌∷◌}
use Rattle.it_rational.specs.Rational.{Rational, integer}
use Rattle.it_fraction.specs.Fits.{IsNarrow}

-- a list of terms, each a column and its number
abbrev pub RowTerms : Type 0
RowTerms = List (ℕ × Rational)

-- the number in a column, 0 where no term has it
abbrev pub entry_in : RowTerms → ℕ → Rational
entry_in [] j = integer (pos 0)
entry_in (t ∷ ts) j = cond (eqb t.0 j) t.1 (entry_in ts j)

-- the columns ascend, from at least `from` on and below `to`, and no number is 0 or past the limit
abbrev pub Climbs : ℕ → ℕ → RowTerms → Type 0
Climbs from to [] = from ≤ to
Climbs from to (t ∷ ts) = (from ≤ t.0) × (t.1 ≢ integer (pos 0)) × IsNarrow t.1 × Climbs (suc t.0) to ts

-- terms are the nonzero ones of the first n numbers of f
pub record ListsEntries (f : ℕ → Rational) (n : ℕ) (terms : RowTerms) : Type 0 where
  pub ascend : Climbs 0 n terms
  pub entries : (j : ℕ) → j < n → entry_in terms j ≡ f j
