-- The entries at the columns that aren't kept: each is the sum of the row's multipliers times the column's start.
use Rattle.std.proofs.Common.{◌≡◌, ℕ, suc, ◌+◌, ◌*◌, ◌-◌, ◌<◌, ◌≤◌, ◌^◌, Bool, cond, ltb, ℤ, pos, ◌+ℤ◌, ◌*ℤ◌, unsigned_abs, [], ◌∷◌, List, All, slice_index_or, sym, ap, subst, ◌∙◌, ◌⊎◌, inl, inr, arith}
use Rattle.std.proofs.lemmas.Bool.{cases_lt, lt-ltb, le-ltb}
use Rattle.std.proofs.lemmas.Int.{ints, unsigned_abs-mul}
use Rattle.std.proofs.lemmas.Nat.{mul-le}
use Rattle.it_rational.specs.Rational.{Rational, IsRatio}
use Rattle.it_rational.specs.Rational as Q
use Rattle.it_rational.proofs.Names.{times_names, whole_names, quotient_names}
use Rattle.it_space.specs.Rows.{Terms, value, row_mass}
use Rattle.it_tableau.specs.Operations.{rationals}
use Rattle.it_tableau.specs.Invariants.{CombinesStart}
use Rattle.it_tableau.specs.SimplexTables.{SimplexTable, FeasibilityProblem}
use Rattle.it_run.specs.RowValues.{rational_value}
use Rattle.it_space.specs.Sums.{number_at}
use Rattle.it_vectors.specs.Sizes.{IsShort}
use Rattle.it_whole.specs.WholeRows.{WholeRowView}
use Rattle.it_engine.specs.Tables.{whole_row_at, IsTableOver, AreStartColumns, ShowsTable}
use Rattle.it_whole.proofs.Names.{sum_named}

-- a whole multiple of n / d
pub multiple_named : (a : ℤ) (x : Rational) (n : ℤ) (d : ℕ) → 0 < d → IsRatio x n d → IsRatio (Q.times (Q.integer a) x) (a *ℤ n) d
multiple_named a x n d h e = subst (λ (k : ℕ). IsRatio (Q.times (Q.integer a) x) (a *ℤ n) k) (product_with_one d)
    (times_names (Q.integer a) x a n 1 d (omega arith) h (whole_names a) e)
  where
    product_with_one : (d : ℕ) → 1 * d ≡ d
    product_with_one d = omega arith

-- nothing, over any denominator
pub zero_named : (d : ℕ) → IsRatio (Q.integer (pos 0)) (pos 0) d
zero_named d = by_sign (Q.integer (pos 0)).num (Q.integer (pos 0)).den (quotient_names (pos 0) 1 (omega arith))
  where
    by_sign : (z : ℤ) (k : ℕ) → z *ℤ pos 1 ≡ pos 0 *ℤ pos k → z *ℤ pos d ≡ pos 0 *ℤ pos k
    by_sign z k e = let f : z ≡ pos 0 = omega (arith, ints, e) in ap (λ x. x *ℤ pos d) f ∙ omega (arith, ints)

-- a combination of numbers over one denominator
pub value_named : (terms : Terms) (m : ℕ) (g : ℕ → Rational) (f : ℕ → ℤ) (d : ℕ) → 0 < d → All (λ t. t.0 < m) terms → ((k : ℕ) → k < m → IsRatio (g k) (f k) d)
    → IsRatio (rational_value terms g) (value terms f) d
value_named [] m g f d h a e = zero_named d
value_named (t ∷ ts) m g f d h a e = sum_named (Q.times (Q.integer t.1) (g t.0)) (rational_value ts g) (t.1 *ℤ f t.0) (value ts f) d h
    (multiple_named t.1 (g t.0) (f t.0) d h (e t.0 (a 0 t (omega arith)))) (value_named ts m g f d h (λ k s l. a (suc k) s (omega (arith, l))) e)

-- is at most the weight of the terms times the bound
pub value_bounded : (terms : Terms) (m : ℕ) (f : ℕ → ℤ) (limit : ℕ) → All (λ t. t.0 < m) terms → ((k : ℕ) → k < m → unsigned_abs (f k) ≤ limit)
    → unsigned_abs (value terms f) ≤ row_mass terms * limit
value_bounded [] m f limit a h = omega arith
value_bounded (t ∷ ts) m f limit a h =
    let one : unsigned_abs (t.1 *ℤ f t.0) ≤ unsigned_abs t.1 * limit =
    subst (λ k. k ≤ unsigned_abs t.1 * limit) (sym (unsigned_abs-mul t.1 (f t.0)))
    (mul-le (unsigned_abs t.1) (unsigned_abs (f t.0)) (unsigned_abs t.1) limit (at_most_itself (unsigned_abs t.1))
    (h t.0 (a 0 t (omega arith)))) in
    let rest : unsigned_abs (value ts f) ≤ row_mass ts * limit = value_bounded ts m f limit (λ k s l. a (suc k) s (omega (arith, l))) h in
    sum_at_most (t.1 *ℤ f t.0) (value ts f) (unsigned_abs t.1) (row_mass ts) limit one rest
  where
    at_most_itself : (k : ℕ) → k ≤ k
    at_most_itself k = omega arith

    sum_at_most : (x y : ℤ) (a b l : ℕ) → unsigned_abs x ≤ a * l → unsigned_abs y ≤ b * l → unsigned_abs (x +ℤ y) ≤ (a + b) * l
    sum_at_most x y a b l h k = omega (arith, ints, h, k)

module _ (m n limit norm : ℕ) (p : FeasibilityProblem Rational) (t : SimplexTable Rational) (columns : List Terms) (rows : List WholeRowView) (basis : List ℕ)
    (h : CombinesStart rationals m n p t) (s : ShowsTable m n limit t rows basis) (cs : AreStartColumns m n norm p columns)
    (fit : norm * limit < 2 ^ 63) (some : 1 ≤ norm) where
  -- the terms of column j
  abbrev pub column_terms : ℕ → Terms
  column_terms j = slice_index_or columns j []

  -- the number of row i at column j that isn't artificial
  abbrev pub price : ℕ → ℕ → ℤ
  price i j = value (column_terms j) (number_at (whole_row_at rows i).numbers)

  -- the denominator of row i
  abbrev pub denominator : ℕ → ℕ
  denominator i = (whole_row_at rows i).denominator

  pub price_named : (i j : ℕ) → i ≤ m → j < n → IsRatio (t.entry i j) (price i j) (denominator i)
  price_named i j hi hj =
      let c = cs.column j hj in
      let r = s.row i (omega (arith, hi)) in
      subst (λ (q : Rational). IsRatio q (price i j) (denominator i)) (sym (h i j hi ∙ c.value_is (λ k. t.entry i (n + k))))
      (value_named (column_terms j) m (λ k. t.entry i (n + k)) (number_at (whole_row_at rows i).numbers) (denominator i) r.some c.within
      (λ k l. r.named k (omega (arith, l))))

  pub price_short : (i j : ℕ) → i ≤ m → j < n → IsShort (price i j)
  price_short i j hi hj =
      let c = cs.column j hj in
      let r = s.row i (omega (arith, hi)) in
      let b : unsigned_abs (price i j) ≤ row_mass (column_terms j) * limit = value_bounded (column_terms j) m
      (number_at (whole_row_at rows i).numbers) limit c.within (λ k l. r.small k (omega (arith, l))) in
      let w : row_mass (column_terms j) * limit ≤ norm * limit = mul-le (row_mass (column_terms j)) limit norm limit c.bounded (omega arith) in
      omega (arith, b, w, fit)

  limit_short : limit < 2 ^ 63
  limit_short = let w : 1 * limit ≤ norm * limit = mul-le 1 limit norm limit some (omega arith) in omega (arith, w, fit)

  -- all numbers of the table
  abbrev pub number : ℕ → ℕ → ℤ
  number i j = cond (ltb j n) (price i j) (number_at (whole_row_at rows i).numbers (j - n))

  pub table_is_over : IsTableOver m n t number denominator
  table_is_over = record {
    some = λ i hi. (s.row i (omega (arith, hi))).some;
    low = λ i hi. (s.row i (omega (arith, hi))).low;
    named = λ i j hi hj. name i j hi hj (cases_lt j n);
    short = λ i j hi hj. number_is_short i j hi hj (cases_lt j n);
  }
    where
      name : (i j : ℕ) → i ≤ m → j ≤ n + m → (j < n) ⊎ (n ≤ j) → IsRatio (t.entry i j) (number i j) (denominator i)
      name i j hi hj (inl l) = subst (λ (b : Bool). IsRatio (t.entry i j)
          (cond b (price i j) (number_at (whole_row_at rows i).numbers (j - n))) (denominator i)) (sym (lt-ltb j n l)) (price_named i j hi l)
      name i j hi hj (inr l) = subst (λ (b : Bool). IsRatio (t.entry i j)
          (cond b (price i j) (number_at (whole_row_at rows i).numbers (j - n))) (denominator i)) (sym (le-ltb j n l))
          (let back : n + (j - n) ≡ j = omega (arith, l) in
          subst (λ (k : ℕ). IsRatio (t.entry i k) (number_at (whole_row_at rows i).numbers (j - n)) (denominator i)) back
          ((s.row i (omega (arith, hi))).named (j - n) (omega (arith, hj, l))))

      number_is_short : (i j : ℕ) → i ≤ m → j ≤ n + m → (j < n) ⊎ (n ≤ j) → IsShort (number i j)
      number_is_short i j hi hj (inl l) = subst (λ (b : Bool). IsShort (cond b (price i j)
          (number_at (whole_row_at rows i).numbers (j - n)))) (sym (lt-ltb j n l)) (price_short i j hi l)
      number_is_short i j hi hj (inr l) = subst (λ (b : Bool). IsShort (cond b (price i j)
          (number_at (whole_row_at rows i).numbers (j - n)))) (sym (le-ltb j n l))
          (let b = (s.row i (omega (arith, hi))).small (j - n) (omega (arith, hj, l)) in omega (arith, b, limit_short))
