-- Columns as lists of terms: multiples of them, submodularity, and the rows at which they are priced.
use Rattle.std.specs.Prelude.{◌≡◌, ℕ, ◌*◌, ◌<◌, ◌≤◌, ℤ, pos, negsuc, ◌*ℤ◌, unsigned_abs, FitsSigned, List, length, map, slice_index_or, All}
use Rattle.std.specs.Int.{w64}
use Rattle.it_space.specs.Rows.{Terms, row_mass}
use Rattle.it_space.specs.Sums.{number_at}
use Rattle.it_number.specs.Limit.{signed_limit}

-- a term times a factor
abbrev pub multiple_of_term : ℤ → ℕ × ℤ → ℕ × ℤ
multiple_of_term factor t = (t.0, t.1 *ℤ factor)

-- a column times a factor
abbrev pub multiple_of_terms : ℤ → Terms → Terms
multiple_of_terms factor terms = map (multiple_of_term factor) terms

-- a term times a factor has a number of 64 bits
abbrev pub MultipleFits : ℤ → ℕ × ℤ → Type 0
MultipleFits factor t = FitsSigned w64 (t.1 *ℤ factor)

-- each term of a column times a factor has
abbrev pub MultiplesFit : ℤ → Terms → Type 0
MultiplesFit factor terms = (i : ℕ) → i < length terms → MultipleFits factor (slice_index_or terms i (0, pos 0))

-- four terms with the factors of submodularity by ascending set: H(X,Z) + H(Y,Z) - H(X,Y,Z) - H(Z) has -1, 1, 1 and -1 at Z, XZ, YZ and XYZ
pub record IsSubmodular (terms : Terms) : Type 0 where
  pub four : length terms ≡ 4
  pub first : (slice_index_or terms 0 (0, pos 0)).1 ≡ negsuc 0
  pub second : (slice_index_or terms 1 (0, pos 0)).1 ≡ pos 1
  pub third : (slice_index_or terms 2 (0, pos 0)).1 ≡ pos 1
  pub fourth : (slice_index_or terms 3 (0, pos 0)).1 ≡ negsuc 0

-- no sum of the column's terms at the row's numbers is above 2 ^ 63 - 1 in absolute value
abbrev pub IsPriceable : Terms → List ℤ → Type 0
IsPriceable terms numbers = (limit : ℕ) × ((k : ℕ) → k < length numbers → unsigned_abs (number_at numbers k) ≤ limit) × (row_mass terms * limit < signed_limit)

-- the column's terms are at places of the row, and its entry in the row is short
pub record Suits (terms : Terms) (numbers : List ℤ) : Type 0 where
  pub within : All (λ t. t.0 < length numbers) terms
  pub fits : IsPriceable terms numbers
