-- No public clause cites this module: the merge and the division of terms.
use Rattle.std.specs.Prelude.{◌≡◌, ◌≢◌, ◌⊎◌, ◌++◌, length, slice_index_or, ℕ, ◌<◌, pos, [], ◌∷◌}
use Rattle.it_rational.specs.Rational.{Rational, integer, plus, minus, times, inverse}
use Rattle.it_fraction.specs.Fits.{IsNarrow}
use Rattle.it_tableau.specs.Fits.{EntryFits}
use Rattle.it_tableau.specs.SparseRows.{RowTerms, entry_in, Climbs}
use Rattle.it_tableau.specs.declared.merging.TermSource.{TermSource}
use Rattle.it_tableau.specs.declared.merging.TermSource.TheVariants.{Old, Other, Both}

-- the number in column k after a pivot: that of old less q times that of by
abbrev pub less_at : RowTerms → RowTerms → Rational → ℕ → Rational
less_at old by q k = plus (entry_in old k) (minus (times (entry_in by k) q))

-- the numbers of the merge are within the limit in all columns
abbrev pub MergeFits : RowTerms → RowTerms → Rational → Type 0
MergeFits old by q = (k : ℕ) → EntryFits (entry_in old k) (entry_in by k) q

-- out is the merged row: old less q times by
pub record AreMerged (old by : RowTerms) (q : Rational) (width : ℕ) (out : RowTerms) : Type 0 where
  pub entries : (k : ℕ) → entry_in out k ≡ less_at old by q k
  pub ascend : Climbs 0 width out

-- the numbers in all columns divided by p are within the limit
abbrev pub TermQuotientsFit : RowTerms → Rational → Type 0
TermQuotientsFit old p = (k : ℕ) → IsNarrow (times (entry_in old k) (inverse p))

-- out is the row old divided by p
pub record AreDivided (old : RowTerms) (p : Rational) (width : ℕ) (out : RowTerms) : Type 0 where
  pub entries : (k : ℕ) → entry_in out k ≡ times (entry_in old k) (inverse p)
  pub ascend : Climbs 0 width out

-- new is out with the term v in column c appended, unless v is 0
abbrev pub IsAppended : RowTerms → ℕ → Rational → RowTerms → Type 0
IsAppended out c v new = ((v ≡ integer (pos 0)) × (new ≡ out)) ⊎ ((v ≢ integer (pos 0)) × IsNarrow v × (new ≡ out ++ (c, v) ∷ []))

-- the column of term i
abbrev pub column_at : RowTerms → ℕ → ℕ
column_at terms i = (slice_index_or terms i (0, integer (pos 0))).0

-- the number of term i
abbrev pub number_of_term : RowTerms → ℕ → Rational
number_of_term terms i = (slice_index_or terms i (0, integer (pos 0))).1

-- which of the rows has the next term
abbrev pub IsTermSource : RowTerms → RowTerms → ℕ → ℕ → TermSource → Type 0
IsTermSource old by i j Old = (i < length old) × (j < length by → column_at old i < column_at by j)
IsTermSource old by i j Other = (j < length by) × (i < length old → column_at by j < column_at old i)
IsTermSource old by i j Both = (i < length old) × (j < length by) × (column_at old i ≡ column_at by j)
