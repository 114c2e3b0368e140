-- A list put in order holds at the same points.
use Rattle.std.proofs.Common.{◌≡◌, ◌⊎◌, inl, inr, ◌↔◌, ℕ, zero, suc, ℤ, pos, negsuc, ◌*ℤ◌, ◌≤ℤ◌, unsigned_abs, refl, sym, ap, ap₂, ◌∙◌, arith, List, [], ◌∷◌, ◌++◌, Bool, true, false, ◌&&◌, ◌||◌, nat_eq, if◌then◌else◌}
use Rattle.std.specs.List.{list_any, AllByRecursion as Every}
use Rattle.std.specs.Ordering.{int_eq}
use Rattle.std.proofs.lemmas.Int.{ints}
use Rattle.std.proofs.lemmas.List.Elements.{All-nil, All-cons, All-head, All-tail, All-push}
use Rattle.std.proofs.lemmas.Bool.{false≢true, eqb-true}
use Rattle.it_number.specs.Division.{int_quotient}
use Rattle.it_space.specs.Rows.{Terms, coefficient, value, HaveOneSign, one_at}
use Rattle.it_space.specs.Divisors.{content, divided_terms, lowest_terms}
use Rattle.it_space.proofs.Contents.{DividesAll, content_divides, divided_value, one_sign}
use Rattle.it_space.proofs.TermLemmas.{value-one_at}
use Rattle.it_eliminate.specs.Elimination.{is_same, with_row, with_lowest_rows, ordered_rows}
use Rattle.it_eliminate.specs.Projections.{IsPointOf, LacksCoordinate}
use Rattle.it_eliminate.proofs.MemberLemmas.{Member, all_member, all_front, all_back}
use Rattle.it_space.proofs.EveryLemmas.{every-append, every_of, all_of}

-- ---- lowest terms

over-zero : (z : ℤ) → unsigned_abs z ≡ 0 → int_quotient z 0 ≡ pos 0
over-zero (pos n) e = for_each n e
  where
    for_each : (n : ℕ) → n ≡ 0 → int_quotient (pos n) 0 ≡ pos 0
    for_each zero e = refl
    for_each (suc n) e = absurd (omega arith)
over-zero (negsuc n) e = absurd (omega arith)

-- what is a multiple of the values of a row, k times, where k is above 0 or the row has no value at all
none_by_zero : (ts : Terms) (p : ℕ → ℤ) → DividesAll 0 ts → value (divided_terms 0 ts) p ≡ pos 0
none_by_zero [] p d = refl
none_by_zero (t ∷ ts) p d =
    let e : int_quotient t.1 0 ≡ pos 0 = over-zero t.1 (native.Mathlib.Nat.eq-zero_of_zero-dvd d.0) in
    let f : int_quotient t.1 0 *ℤ p t.0 ≡ pos 0 *ℤ p t.0 = ap (λ z. z *ℤ p t.0) e in
    omega (arith, ints, f, none_by_zero ts p d.1)

-- at every point the value keeps its sign
pub lowest_signs : (ts : Terms) (p : ℕ → ℤ) → HaveOneSign (value ts p) (value (lowest_terms ts) p)
unfolding lowest_terms
lowest_signs ts p = for_each (content 0 ts) (content_divides 0 ts).1
  where
    for_each : (k : ℕ) → DividesAll k ts → HaveOneSign (value ts p) (value (divided_terms k ts) p)
    for_each zero d =
        let e : value (divided_terms 0 ts) p ≡ pos 0 = none_by_zero ts p d in
        let f : value ts p ≡ pos 0 = divided_value 0 ts p d ∙ ap (λ z. pos 0 *ℤ z) e in
        record { positive = (λ _. omega (arith, ints, e), λ _. omega (arith, ints, f)); negative = (λ _. omega (arith, ints, e), λ _. omega (arith, ints, f)) }
    for_each (suc k) d = one_sign (suc k) (value ts p) (value (divided_terms (suc k) ts) p) (omega arith) (divided_value (suc k) ts p d)

-- ---- rows without duplicates

pub every-with_row : (P : Terms → Type 0) (rows : List Terms) (row : Terms) → P row → Every P rows → Every P (with_row rows row)
every-with_row P rows [] h a = a
every-with_row P rows (t ∷ ts) h a = by_test (list_any (is_same (t ∷ ts)) rows)
  where
    by_test : (b : Bool) → Every P (if b then rows else rows ++ (t ∷ ts) ∷ [])
    by_test true = a
    by_test false = every-append P rows ((t ∷ ts) ∷ []) a (h, tt)

pub same_rows : (xs ys : Terms) → is_same xs ys ≡ true → xs ≡ ys
same_rows [] [] e = refl
same_rows [] (y ∷ ys) e = absurd (false≢true e)
same_rows (x ∷ xs) [] e = absurd (false≢true e)
same_rows (x ∷ xs) (y ∷ ys) e = by_test (nat_eq x.0 y.0) (int_eq x.1 y.1) (is_same xs ys) e (eqb-true x.0 y.0) (int_same x.1 y.1) (same_rows xs ys)
  where
    int_same : (a b : ℤ) → int_eq a b ≡ true → a ≡ b
    int_same a b h = grind (arith, ints)

    by_test : (a b c : Bool) → ((a && b) && c) ≡ true → (a ≡ true → x.0 ≡ y.0) → (b ≡ true → x.1 ≡ y.1) → (c ≡ true → xs ≡ ys) → x ∷ xs ≡ y ∷ ys
    by_test true true true h f g k = ap₂ (λ (t : ℕ × ℤ) (ts : Terms). t ∷ ts) (ap₂ (λ (n : ℕ) (z : ℤ). let q : ℕ × ℤ = (n, z) in q) (f refl) (g refl)) (k refl)
    by_test true true false h f g k = absurd (false≢true h)
    by_test true false c h f g k = absurd (false≢true h)
    by_test false b c h f g k = absurd (false≢true h)

-- where a test finds one of the rows, it is there
pub found_member : (row : Terms) (rows : List Terms) → list_any (is_same row) rows ≡ true → Member row rows
found_member row [] e = absurd (false≢true e)
found_member row (r ∷ rows) e = by_test (is_same row r) e (same_rows row r) (found_member row rows)
  where
    by_test : (b : Bool) → (b || list_any (is_same row) rows) ≡ true → (b ≡ true → row ≡ r)
        → (list_any (is_same row) rows ≡ true → Member row rows) → (row ≡ r) ⊎ Member row rows
    by_test true h f g = inl (f refl)
    by_test false h f g = inr (g h)

-- a row is at least 0 at a point
abbrev pub RowHolds : (ℕ → ℤ) → Terms → Type 0
RowHolds p row = pos 0 ≤ℤ value row p

pub in-with_row : (rows : List Terms) (row : Terms) (p : ℕ → ℤ) → IsPointOf (with_row rows row) p ↔ (IsPointOf rows p × (pos 0 ≤ℤ value row p))
in-with_row rows [] p = (λ a. (a, omega (arith, ints)), λ a. a.0)
in-with_row rows (t ∷ ts) p = by_test (list_any (is_same (t ∷ ts)) rows) (found_member (t ∷ ts) rows)
  where
    by_test : (b : Bool) → (b ≡ true → Member (t ∷ ts) rows)
        → IsPointOf (if b then rows else rows ++ (t ∷ ts) ∷ []) p ↔ (IsPointOf rows p × (pos 0 ≤ℤ value (t ∷ ts) p))
    by_test true f = (λ a. (a, all_member (RowHolds p) rows (t ∷ ts) a (f refl)), λ a. a.0)
    by_test false f = (
      λ a. (all_front (RowHolds p) rows ((t ∷ ts) ∷ []) a, All-head (RowHolds p) (t ∷ ts) [] (all_back (RowHolds p) rows ((t ∷ ts) ∷ []) a)),
      λ a. All-push (RowHolds p) rows (t ∷ ts) a.0 a.1,
    )

pub in-with_lowest_rows : (before rows : List Terms) (p : ℕ → ℤ) → IsPointOf (with_lowest_rows before rows) p ↔ (IsPointOf before p × IsPointOf rows p)
in-with_lowest_rows before [] p = (λ a. (a, All-nil (RowHolds p)), λ a. a.0)
in-with_lowest_rows before (row ∷ rows) p =
    let rest = in-with_lowest_rows (with_row before (lowest_terms row)) rows p in
    let one = in-with_row before (lowest_terms row) p in
    let signs = lowest_signs row p in (
      λ a. let b = rest.0 a in let c = one.0 b.0 in (c.0, All-cons (RowHolds p) row rows (signs.positive.1 c.1) b.1),
      λ a. rest.1 (one.1 (a.0, signs.positive.0 (All-head (RowHolds p) row rows a.1)), All-tail (RowHolds p) row rows a.1),
    )

pub in-ordered_rows : (rows : List Terms) (p : ℕ → ℤ) → IsPointOf (ordered_rows rows) p ↔ IsPointOf rows p
in-ordered_rows rows p = let both = in-with_lowest_rows [] rows p in (λ a. (both.0 a).1, λ a. both.1 (All-nil (RowHolds p), a))

-- ---- rows without a coordinate

-- a row has 0 at a coordinate
abbrev pub RowLacks : ℕ → Terms → Type 0
RowLacks at row = coefficient row at ≡ pos 0

pub lacks_lowest : (at : ℕ) (row : Terms) → coefficient row at ≡ pos 0 → coefficient (lowest_terms row) at ≡ pos 0
lacks_lowest at row e =
    let signs = lowest_signs row (one_at at) in
    let is : value row (one_at at) ≡ pos 0 = value-one_at row at ∙ e in
    sym (value-one_at (lowest_terms row) at) ∙ number_is_zero (value (lowest_terms row) (one_at at))
    (signs.positive.0 (omega (arith, ints, is))) (signs.negative.0 (omega (arith, ints, is)))
  where
    number_is_zero : (z : ℤ) → pos 0 ≤ℤ z → z ≤ℤ pos 0 → z ≡ pos 0
    number_is_zero z a b = omega (arith, ints)

lacks-with_lowest_rows : (at : ℕ) (before rows : List Terms) → LacksCoordinate at before → LacksCoordinate at rows
    → LacksCoordinate at (with_lowest_rows before rows)
lacks-with_lowest_rows at before [] a b = a
lacks-with_lowest_rows at before (row ∷ rows) a b = lacks-with_lowest_rows at (with_row before (lowest_terms row)) rows
    (all_of (RowLacks at) (with_row before (lowest_terms row)) (every-with_row (RowLacks at) before (lowest_terms row)
    (lacks_lowest at row (All-head (RowLacks at) row rows b)) (every_of (RowLacks at) before a)))
    (All-tail (RowLacks at) row rows b)

pub lacks-ordered_rows : (at : ℕ) (rows : List Terms) → LacksCoordinate at rows → LacksCoordinate at (ordered_rows rows)
lacks-ordered_rows at rows a = lacks-with_lowest_rows at [] rows (All-nil (RowLacks at)) a
