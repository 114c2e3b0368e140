-- No public clause cites this module: rows that stay as they were in an earlier table of the run, the base, until they are brought up to date.
use Rattle.std.specs.Prelude.{◌≡◌, ℕ, zero, suc, ◌+◌, ◌*◌, ◌/◌, ◌<◌, ◌≤◌, ◌++◌, Bool, true, false, cond, ◌≢◌, ℤ, pos, negsuc, ◌*ℤ◌, neg_ℤ, unsigned_abs, List, [], length, slice_index_or, slice_set, Option, Some, None}
use Rattle.std.specs.List.{All, Contains}
use Rattle.std.specs.Option.{IfSome}
use Prim.Native.Nat.{◌∣◌}
use Rattle.it_rational.specs.Rational.{Rational, integer}
use Rattle.it_rational.proofs.Field.{field_ℚ}
use Rattle.it_run.proofs.DegenerateSteps.{IsBehind}
use Rattle.it_run.specs.Choice.{entering_column, leaving_row, next, IsDone, IsStuck}
use Rattle.it_run.specs.Solving.{StepFits}
use Rattle.it_space.specs.Rows.{Terms, value}
use Rattle.it_space.specs.Sums.{number_at}
use Rattle.it_tableau.specs.Operations.{rationals}
use Rattle.it_tableau.specs.SimplexTables.{SimplexTable, FeasibilityProblem}
use Rattle.it_engine.specs.Choosing.{entry_of, first_negative_cost, is_above_zero, right_side_of}
use Rattle.it_engine.specs.Engine.{IsSafe, Represents}
use Rattle.it_engine.specs.PivotedRows.{AreUsable}
use Rattle.it_vectors.specs.Sizes.{AreAtMost}
use Rattle.it_whole.specs.ColumnTerms.{multiple_of_terms, Suits}
use Rattle.it_whole.specs.WholeRows.{IsUsable, IsRow, WholeRowView}
use Rattle.it_whole.specs.Updates.{IsShortened, IsUpdated, IsWholeRowReduced}
use Rattle.it_engine.specs.Tables.{AreStartColumns, ShowsTable, whole_row_at}
use Rattle.it_number.specs.Limit.{signed_limit}

-- the table with the rows of t that moved and its basic columns, and all other rows from the base b
abbrev pub mixed_table : (ℕ → Bool) → SimplexTable Rational → SimplexTable Rational → SimplexTable Rational
mixed_table moved b t = record { entry = λ i j. cond (moved i) (t.entry i j) (b.entry i j); basis = t.basis }

-- the rows that moved since the base b, the cost row among them, show t, all others show b
pub record ShowsBehind (p : FeasibilityProblem Rational) (b t : SimplexTable Rational) (columns : List Terms) (limit : ℕ) (rows : List WholeRowView) (basis : List ℕ) (moved : ℕ → Bool) : Type 0 where
  pub norm : ℕ
  pub some : 1 ≤ norm
  pub fit : norm * limit < signed_limit
  pub behind : IsBehind field_ℚ (length basis) (length columns) p b t moved
  pub cost : moved (length basis) ≡ true
  pub entered : (q : ℕ) → q < length basis → moved q ≡ true → t.basis q < length columns
  pub shows : ShowsTable (length basis) (length columns) limit (mixed_table moved b t) rows basis
  pub columns_are : AreStartColumns (length basis) (length columns) norm p columns

-- the share of row q in a common multiple of the denominators
abbrev pub share_of : ℕ → List WholeRowView → ℕ → ℕ
share_of multiple rows q = multiple / (whole_row_at rows q).denominator

-- whether row i moved
abbrev pub has_moved : List Bool → ℕ → Bool
has_moved moved i = slice_index_or moved i false

-- the column times the negated product of an entry and a share; no terms where the entry is 0
abbrev pub taken_terms : ℤ → ℕ → Terms → Terms
taken_terms (pos zero) share terms = []
taken_terms (pos (suc n)) share terms = multiple_of_terms (neg_ℤ (pos (suc n) *ℤ pos share)) terms
taken_terms (negsuc n) share terms = multiple_of_terms (neg_ℤ (negsuc n *ℤ pos share)) terms

-- the basic column of row q times its negated entry and its share of the multiple, if it moved; else no terms
abbrev pub terms_of_moved : List Terms → List WholeRowView → List ℕ → List Bool → List ℤ → ℕ → ℕ → Terms
terms_of_moved columns rows basis moved entries multiple q =
    cond (has_moved moved q) (taken_terms (number_at entries q) (share_of multiple rows q) (slice_index_or columns (slice_index_or basis q 0) [])) []

-- multiple times column c, less for each of the first k rows that moved its basic column times its entry and its share
abbrev pub column_less_moved : List Terms → List WholeRowView → List ℕ → List Bool → List ℤ → ℕ → ℕ → ℕ → Terms
column_less_moved columns rows basis moved entries multiple c zero = multiple_of_terms (pos multiple) (slice_index_or columns c [])
column_less_moved columns rows basis moved entries multiple c (suc k) = column_less_moved columns rows basis moved entries multiple c k
    ++ terms_of_moved columns rows basis moved entries multiple k

-- new is old less the basic column of row q times its entry and its share of the multiple
abbrev pub TakesRow : List Terms → List WholeRowView → List ℕ → List ℤ → ℕ → ℕ → Terms → Terms → Type 0
TakesRow columns rows basis entries multiple q old new = new ≡ old ++ taken_terms (number_at entries q) (share_of multiple rows q) (slice_index_or columns (slice_index_or basis q 0) [])

-- the combined column: at it a row that stays behind has multiple times the number that it would have at column c up to date
abbrev pub column_behind : List Terms → List WholeRowView → List ℕ → List Bool → List ℤ → ℕ → ℕ → Terms
column_behind columns rows basis moved entries multiple c = column_less_moved columns rows basis moved entries multiple c (length basis)

-- the rows that moved are usable
abbrev pub AreMovedUsable : ℕ → List WholeRowView → List Bool → Type 0
AreMovedUsable limit rows moved = (i : ℕ) → i < length rows → has_moved moved i ≡ true → IsUsable (length rows) limit (whole_row_at rows i)

-- entries are those at the column of terms for the rows that moved, and 0 for all others
pub record AreMovedEntries (terms : Terms) (rows : List WholeRowView) (moved : List Bool) (entries : List ℤ) : Type 0 where
  pub length_is : length entries ≡ length rows
  pub each : (i : ℕ) → i < length rows → number_at entries i ≡ cond (has_moved moved i) (entry_of terms rows i) (pos 0)

-- multiple is a common multiple of the denominators of the rows below k that moved, below 2 ^ 63
pub record IsCommonMultiple (rows : List WholeRowView) (moved : List Bool) (k multiple : ℕ) : Type 0 where
  pub some : 0 < multiple
  pub low : multiple < signed_limit
  pub each : (q : ℕ) → q < k → has_moved moved q ≡ true → (whole_row_at rows q).denominator ∣ multiple

-- a column suits each row below a height that stays behind
abbrev pub SuitsBehind : Terms → List WholeRowView → List Bool → ℕ → Type 0
SuitsBehind terms rows moved height = (i : ℕ) → i < height → has_moved moved i ≡ false → Suits terms (whole_row_at rows i).numbers

-- row i has right side 0, and its entry, or for a row that stays behind its number at the combined column, is above 0
pub record MayLeave (rows : List WholeRowView) (moved : List Bool) (entries : List ℤ) (combined : Terms) (place i : ℕ) : Type 0 where
  pub still : right_side_of place rows i ≡ pos 0
  pub above : is_above_zero (cond (has_moved moved i) (number_at entries i) (entry_of combined rows i)) ≡ true

-- row i has right side 0, and its entry is above 0
pub record HasZeroRatio (rows : List WholeRowView) (entries : List ℤ) (place i : ℕ) : Type 0 where
  pub still : right_side_of place rows i ≡ pos 0
  pub above : is_above_zero (number_at entries i) ≡ true

-- there is a best row so far, and its basic column isn't above that of row i
abbrev pub ComesBefore : List ℕ → Option ℕ → ℕ → Type 0
ComesBefore basis None i = ⊥
ComesBefore basis (Some r) i = slice_index_or basis r 0 ≤ slice_index_or basis i 0

-- best has the property, and comes before each row below k that has it; None only if none of these has it
pub record IsFirstOf (basis : List ℕ) (has : ℕ → Type 0) (k : ℕ) (best : Option ℕ) : Type 0 where
  pub within : IfSome best (λ r. r < length basis)
  pub own : IfSome best has
  pub before : (i : ℕ) → i < k → has i → ComesBefore basis best i

-- list has exactly the rows below k with right side 0
pub record AreStillRows (rows : List WholeRowView) (place k : ℕ) (list : List ℕ) : Type 0 where
  pub own : All (λ i. (i < k) × (right_side_of place rows i ≡ pos 0)) list
  pub all : (i : ℕ) → i < k → right_side_of place rows i ≡ pos 0 → Contains list i

-- the rows below height with right side 0, by ascending basic column; rows that moved may be anywhere among them
pub record AreRanked (rows : List WholeRowView) (basis : List ℕ) (moved : List Bool) (height : ℕ) (ranked : List ℕ) : Type 0 where
  pub within : (k : ℕ) → k < length ranked → slice_index_or ranked k 0 < length basis
  pub still : (k : ℕ) → k < length ranked → has_moved moved (slice_index_or ranked k 0) ≡ false → right_side_of (length basis) rows (slice_index_or ranked k 0) ≡ pos 0
  pub ascend : (j k : ℕ) → j < k → k < length ranked → has_moved moved (slice_index_or ranked j 0) ≡ false → has_moved moved (slice_index_or ranked k 0) ≡ false
      → slice_index_or basis (slice_index_or ranked j 0) 0 ≤ slice_index_or basis (slice_index_or ranked k 0) 0
  pub all : (i : ℕ) → i < height → has_moved moved i ≡ false → right_side_of (length basis) rows i ≡ pos 0 → (k : ℕ) × (k < length ranked) × (slice_index_or ranked k 0 ≡ i)

-- bounds on the numbers and the denominators of the rows that stay behind
abbrev pub AreBaseBounds : ℕ → ℕ → List WholeRowView → List Bool → ℕ → Type 0
AreBaseBounds most low rows moved k = (i : ℕ) → i < k → has_moved moved i ≡ false → AreAtMost (whole_row_at rows i).numbers most × ((whole_row_at rows i).denominator ≤ low)

-- no row from `from` up to `to`, `to` excluded, moved
pub record IsNextMoved (moved : List Bool) (height from to : ℕ) : Type 0 where
  pub after : from ≤ to
  pub within : to ≤ height
  pub still : (q : ℕ) → from ≤ q → q < to → has_moved moved q ≡ false

-- the basic columns of the rows that moved entered: none is artificial
abbrev pub HaveEntered : List Terms → List ℕ → List Bool → Type 0
HaveEntered columns basis moved = (q : ℕ) → q < length basis → has_moved moved q ≡ true → slice_index_or basis q 0 < length columns

-- the first row after the one at place k - 1 of a list; row 0 for k = 0
abbrev pub after_rows : List ℕ → ℕ → ℕ
after_rows order zero = 0
after_rows order (suc k) = slice_index_or order k 0 + 1

-- order has the rows below height that moved, each once and in ascending order
pub record AreMovedInOrder (moved : List Bool) (height : ℕ) (order : List ℕ) : Type 0 where
  pub within : (k : ℕ) → k < length order → slice_index_or order k 0 < height
  pub own : (k : ℕ) → k < length order → has_moved moved (slice_index_or order k 0) ≡ true
  pub each : (k : ℕ) → k < length order → IsNextMoved moved height (after_rows order k) (slice_index_or order k 0)
  pub last : IsNextMoved moved height (after_rows order (length order)) height

-- the entries of rows below height are 0 but at the rows in order
abbrev pub AreNullElsewhere : List ℤ → ℕ → List ℕ → Type 0
AreNullElsewhere entries height order = (moved : List Bool) × AreMovedInOrder moved height order × ((i : ℕ) → i < height → has_moved moved i ≡ false → number_at entries i ≡ pos 0)

-- each row of new is that of old with its numbers and denominator divided by a common divisor
pub record AreShortened (old new : List WholeRowView) : Type 0 where
  pub same_length : length new ≡ length old
  pub each : (i : ℕ) → i < length old → IsShortened (whole_row_at old i) (whole_row_at new i)

-- new is old less the multiple of row q that makes its entry at the column of terms 0, where row q has the entry 1
abbrev pub IsLessRow : Terms → ℕ → List WholeRowView → ℕ → WholeRowView → WholeRowView → Type 0
IsLessRow terms limit rows q old new = IsUpdated (length (whole_row_at rows q).numbers) limit old (whole_row_at rows q) (value terms (number_at old.numbers)) (pos (whole_row_at rows q).denominator) new

-- new is old less the multiple of row q, which moved, that makes its entry at the basic column of row q 0
abbrev pub IsLessMoved : List Terms → ℕ → List WholeRowView → List ℕ → ℕ → WholeRowView → WholeRowView → Type 0
IsLessMoved columns limit rows basis q old new = IsWholeRowReduced (length basis + 1) limit old (whole_row_at rows q) (value (slice_index_or columns (slice_index_or basis q 0) []) (number_at old.numbers)) (pos (whole_row_at rows q).denominator) new

-- row is row r up to date, for any tables that the rows show
abbrev pub IsUpToDate : List Terms → ℕ → List WholeRowView → List ℕ → List Bool → ℕ → WholeRowView → Type 0
IsUpToDate columns limit rows basis moved r row = (p : FeasibilityProblem Rational) (b t : SimplexTable Rational) → ShowsBehind p b t columns limit rows basis (has_moved moved)
    → IsRow (length basis + 1) limit (λ k. t.entry r (length columns + k)) row.numbers row.denominator

-- the two lists of rows agree on those that moved
abbrev pub AgreeOnMoved : List WholeRowView → List WholeRowView → List Bool → Type 0
AgreeOnMoved rows whole moved = (q : ℕ) → has_moved moved q ≡ true → whole_row_at whole q ≡ whole_row_at rows q

-- a row that stayed behind is brought up to date by the rows that moved
abbrev pub IsBrought : List Terms → ℕ → List WholeRowView → List ℕ → List Bool → WholeRowView → WholeRowView → Type 0
IsBrought columns limit rows basis moved old new = (whole : List WholeRowView) (r : ℕ) → AgreeOnMoved rows whole moved → r < length basis → has_moved moved r ≡ false → whole_row_at whole r ≡ old
    → IsUpToDate columns limit whole basis moved r new

-- row r is brought up to date, and all others stay
pub record IsRowBrought (columns : List Terms) (limit : ℕ) (old : List WholeRowView) (basis : List ℕ) (moved : List Bool) (r : ℕ)
    (new : List WholeRowView) : Type 0 where
  pub same_length : length new ≡ length old
  pub others : (i : ℕ) → i ≢ r → whole_row_at new i ≡ whole_row_at old i
  pub own : IsBrought columns limit old basis moved (whole_row_at old r) (whole_row_at new r)
  pub usable : IsUsable (length old) limit (whole_row_at new r)

-- the first k rows are up to date
pub record AreBrought (columns : List Terms) (limit : ℕ) (old : List WholeRowView) (basis : List ℕ) (moved : List Bool) (k : ℕ)
    (new : List WholeRowView) : Type 0 where
  pub same_length : length new ≡ length old
  pub kept : AgreeOnMoved old new moved
  pub rest : (i : ℕ) → k ≤ i → whole_row_at new i ≡ whole_row_at old i
  pub done : (i : ℕ) → i < k → has_moved moved i ≡ false → IsUpToDate columns limit old basis moved i (whole_row_at new i)
  pub usable : AreUsable (length old) limit new

-- r is the leaving row of a step on t in which column c enters, which is degenerate and isn't wide
pub record IsStillLeaving (p : FeasibilityProblem Rational) (b t : SimplexTable Rational) (columns : List Terms) (basis : List ℕ) (c r : ℕ) : Type 0 where
  pub leaves : leaving_row rationals (length basis) (length columns) t c ≡ r
  pub still : t.entry r (length columns + length basis) ≡ integer (pos 0)
  pub fits : StepFits (length basis) (length columns) t

-- if column c enters, r is the leaving row of a degenerate step, for any tables that the rows show
abbrev pub LeavesStill : List Terms → ℕ → List WholeRowView → List ℕ → List Bool → ℕ → ℕ → Type 0
LeavesStill columns limit rows basis moved c r = (p : FeasibilityProblem Rational) (b t : SimplexTable Rational) → ShowsBehind p b t columns limit rows basis (has_moved moved)
    → first_negative_cost columns (whole_row_at rows (length basis)).numbers ≡ c → IsStillLeaving p b t columns basis c r

-- the run isn't done, and its next step is degenerate, with column c entering and row r leaving, for any tables that the rows show
pub record IsStillChoice (columns : List Terms) (limit : ℕ) (rows : List WholeRowView) (basis : List ℕ) (moved : List Bool) (c r : ℕ) : Type 0 where
  pub not_done : ¬ (right_side_of (length basis) rows (length basis) ≡ pos 0)
  pub column : c < length columns
  pub column_is : first_negative_cost columns (whole_row_at rows (length basis)).numbers ≡ c
  pub row : r < length basis
  pub leaves : LeavesStill columns limit rows basis moved c r

-- a degenerate step with column c and row r was made, for any tables that the rows show; other rows that stay behind are unchanged
pub record IsBehindStep (columns : List Terms) (limit : ℕ) (old : List WholeRowView) (basis : List ℕ) (moved : List Bool) (c r : ℕ)
    (new : List WholeRowView) : Type 0 where
  pub engine : IsSafe columns limit new (slice_set basis r c)
  pub kept : (i : ℕ) → i < length old → i ≢ r → has_moved moved i ≡ false → whole_row_at new i ≡ whole_row_at old i
  pub made : (p : FeasibilityProblem Rational) (b t : SimplexTable Rational) → ShowsBehind p b t columns limit old basis (has_moved moved) → entering_column rationals (length basis) (length columns) t ≡ c
      → IsStillLeaving p b t columns basis c r → ¬ (IsStuck rationals (length basis) (length columns) t)
      → ShowsBehind p b (next rationals (length basis) (length columns) t) columns limit new (slice_set basis r c) (has_moved (slice_set moved r true))

-- k steps lead from table t to table s
abbrev pub StepsLead : ℕ → ℕ → ℕ → SimplexTable Rational → SimplexTable Rational → Type 0
StepsLead m n zero t s = s ≡ t
StepsLead m n (suc k) t s = (u : SimplexTable Rational) × StepsLead m n k t u × ¬ (IsDone rationals m n u) × ¬ (IsStuck rationals m n u) × StepFits m n u × (s ≡ next rationals m n u)

-- k steps were made with rows that stay behind, for any tables that the rows show
pub record AreStillSteps (columns : List Terms) (limit : ℕ) (old : List WholeRowView) (basis : List ℕ) (moved : List Bool) (k : ℕ) (new : List WholeRowView) (new_basis : List ℕ) (new_moved : List Bool) : Type 0 where
  pub engine : IsSafe columns limit new new_basis
  pub height : length new_basis ≡ length basis
  pub even : length new_moved ≡ length moved
  pub made : (p : FeasibilityProblem Rational) (b t : SimplexTable Rational) → ShowsBehind p b t columns limit old basis (has_moved moved)
      → (s : SimplexTable Rational) × ShowsBehind p b s columns limit new new_basis (has_moved new_moved) × StepsLead (length basis) (length columns) k t s

-- k steps were made, for any table that the engine showed
pub record AreEngineSteps (columns : List Terms) (limit : ℕ) (old : List WholeRowView) (basis : List ℕ) (k : ℕ) (new : List WholeRowView)
    (new_basis : List ℕ) : Type 0 where
  pub engine : IsSafe columns limit new new_basis
  pub height : length new_basis ≡ length basis
  pub made : (p : FeasibilityProblem Rational) (t : SimplexTable Rational) → Represents p t columns limit old basis
      → (s : SimplexTable Rational) × Represents p s columns limit new new_basis × StepsLead (length basis) (length columns) k t s

-- the sum over the first k rows that moved of most times share
abbrev pub share_sum : (ℕ → Bool) → (ℕ → ℕ) → (ℕ → ℕ) → ℕ → ℕ
share_sum moved most share zero = 0
share_sum moved most share (suc k) = cond (moved k) (most k * share k) 0 + share_sum moved most share k

-- no entries at one column of the first k rows that moved, each times its share, sum to more than bound in absolute value
abbrev pub BoundsShares : ℕ → List WholeRowView → (ℕ → Bool) → (ℕ → ℕ) → ℕ → ℕ → Type 0
BoundsShares norm rows moved share k bound = (y : ℕ → ℤ) → ((q : ℕ) → q < k → moved q ≡ true → (l : ℕ) → AreAtMost (whole_row_at rows q).numbers l → unsigned_abs (y q) ≤ norm * l)
    → share_sum moved (λ q. unsigned_abs (y q)) share k ≤ bound

-- no entries at one column of the first k rows that moved, each times its row's share of multiple, sum to more than bound
abbrev pub BoundsMovedShares : ℕ → List WholeRowView → List Bool → ℕ → ℕ → ℕ → Type 0
BoundsMovedShares norm rows moved multiple k bound = BoundsShares norm rows (has_moved moved) (share_of multiple rows) k bound

-- a common multiple of the denominators of the first k rows that moved, and a bound on the sum of their entries, each times its share
pub record AreShares (norm : ℕ) (rows : List WholeRowView) (moved : List Bool) (k multiple bound : ℕ) : Type 0 where
  pub common : IsCommonMultiple rows moved k multiple
  pub bounds : BoundsMovedShares norm rows moved multiple k bound

-- new_multiple is a multiple of multiple and of denominator; new_bound is the sum of bound and entry, each times its share in new_multiple
pub record AddsShare (multiple bound denominator entry new_multiple new_bound : ℕ) : Type 0 where
  pub some : 0 < new_multiple
  pub low : new_multiple < signed_limit
  pub old : multiple ∣ new_multiple
  pub own : denominator ∣ new_multiple
  pub bound_is : new_bound ≡ bound * (new_multiple / multiple) + entry * (new_multiple / denominator)
