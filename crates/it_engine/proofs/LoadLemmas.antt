-- The parts of the engine as they are read off a question's rows.
use Rattle.std.proofs.Common.{◌≡◌, ◌⊎◌, inl, inr, ℕ, ◌+◌, ◌<◌, ◌≤◌, ◌++◌, List, [], ◌∷◌, ◌^◌, length, length-append, slice_index_or, sym, ap, subst, ◌∙◌, arith}
use Rattle.std.proofs.lemmas.Bool.{cases_eq}
use Rattle.std.proofs.lemmas.List.{get_or_append_left}
use Rattle.std.proofs.Math.Seq.{get_or-append_seam}
use Rattle.it_space.specs.Rows.{Terms, row_mass}
use Rattle.it_whole.specs.WholeRows.{WholeRowView}
use Rattle.it_engine.specs.Loading.{signed_coefficient, AreReadRows, IsReadColumn, IsReadRow}

-- a list with one item more
pub item_more : {X : Type 0} (P : ℕ → X → Type 0) (k : ℕ) (xs : List X) (x d : X) → length xs ≡ k → ((i : ℕ) → i < k → P i (slice_index_or xs i d)) → P k x
    → (i : ℕ) → i < k + 1 → P i (slice_index_or (xs ++ x ∷ []) i d)
item_more P k xs x d e h p i l = by_cases (cases_eq i k)
  where
    by_cases : (i ≡ k) ⊎ (i ≡ k → ⊥) → P i (slice_index_or (xs ++ x ∷ []) i d)
    by_cases (inl q) = subst (λ (n : ℕ). P n (slice_index_or (xs ++ x ∷ []) n d)) (sym q)
        (subst (P k) (sym (ap (λ n. slice_index_or (xs ++ x ∷ []) n d) (sym e) ∙ get_or-append_seam xs x [] d)) p)
    by_cases (inr n) = subst (P i) (sym (get_or_append_left xs (x ∷ []) d i (omega (arith, e)))) (h i (omega arith))

length_more : {X : Type 0} (k : ℕ) (xs : List X) (x : X) → length xs ≡ k → length (xs ++ x ∷ []) ≡ k + 1
length_more k xs x e = length-append xs (x ∷ []) ∙ omega (arith, e)

-- no column of the first j weighs more
pub record IsNormUpTo (columns : List Terms) (norm j : ℕ) : Type 0 where
  pub some : 1 ≤ norm
  pub short : norm < 2 ^ 63
  pub bounds : (i : ℕ) → i < j → row_mass (slice_index_or columns i []) ≤ norm

-- the columns of the first j generators
abbrev pub AreReadUpTo : List ℕ → List Terms → Terms → ℕ → List Terms → Type 0
AreReadUpTo coordinates generators target j columns = (length columns ≡ j)
    × ((i : ℕ) → i < j → IsReadColumn (length coordinates) (signed_coefficient coordinates target (slice_index_or generators i []))
    (slice_index_or columns i []))

pub columns_more : (coordinates : List ℕ) (generators : List Terms) (target : Terms) (j : ℕ) (columns : List Terms) (column : Terms)
    → IsReadColumn (length coordinates) (signed_coefficient coordinates target (slice_index_or generators j [])) column
    → AreReadUpTo coordinates generators target j columns → AreReadUpTo coordinates generators target (j + 1) (columns ++ column ∷ [])
columns_more coordinates generators target j columns column r a = (
  length_more j columns column a.0,
  item_more (λ i column. IsReadColumn (length coordinates) (signed_coefficient coordinates target (slice_index_or generators i [])) column)
      j columns column [] a.0 a.1 r,
)

pub rows_more : (coordinates : List ℕ) (target : Terms) (limit i : ℕ) (rows : List WholeRowView) (row : WholeRowView) → IsReadRow coordinates target limit i row
    → AreReadRows coordinates target limit i rows → AreReadRows coordinates target limit (i + 1) (rows ++ row ∷ [])
rows_more coordinates target limit i rows row r a = (
  length_more i rows row a.0,
  item_more (IsReadRow coordinates target limit) i rows row record { numbers = []; denominator = 1 } a.0 a.1 r,
)
