-- A list of rows whose rows are all in another one is a part of it. Putting in order keeps that, so does the step of a rate, and the
-- part's list after it isn't longer, since it has no row twice.
use Rattle.std.proofs.Common.{◌≡◌, ◌≢◌, ◌⊎◌, inl, inr, ⊎_elim, ℕ, suc, ◌≤◌, ℤ, refl, sym, ap, subst, ◌∙◌, arith, List, [], ◌∷◌, ◌++◌, length, Bool, true, false, ◌&&◌, ◌||◌, nat_eq, if◌then◌else◌, eq-eqb}
use Rattle.std.specs.List.{list_any}
use Rattle.std.specs.Ordering.{int_eq}
use Rattle.std.proofs.lemmas.Int.{ints}
use Rattle.std.proofs.lemmas.Bool.{false≢true}
use Rattle.it_space.specs.Rows.{Terms}
use Rattle.it_space.specs.Divisors.{lowest_terms}
use Rattle.it_eliminate.specs.Elimination.{is_same, with_row, with_lowest_rows, ordered_rows, results, next_list, PairsFit}
use Rattle.it_eliminate.proofs.MemberLemmas.{Member, member_of, contains_of, member-front, member-back, member_either}
use Rattle.it_eliminate.proofs.OrderLemmas.{found_member}
use Rattle.it_eliminate.proofs.StepLemmas.{results_all, flat_member, pair_member}
use Rattle.it_redundant.proofs.LowestLemmas.{lowest_again}

-- each row of the one list is a row of the other
abbrev pub IsPart : List Terms → List Terms → Type 0
IsPart xs ys = (x : Terms) → Member x xs → Member x ys

-- no row is in the list twice
abbrev HasNoDoubles : List Terms → Type 0
HasNoDoubles [] = Unit {0}
HasNoDoubles (x ∷ xs) = (¬ (Member x xs)) × HasNoDoubles xs

-- ---- a part without duplicates isn't longer

-- the list without one of its rows
abbrev rest_without : (x : Terms) (ys : List Terms) → Member x ys → List Terms
rest_without x [] m = absurd m
rest_without x (y ∷ ys) (inl e) = ys
rest_without x (y ∷ ys) (inr m) = y ∷ rest_without x ys m

one_fewer : (x : Terms) (ys : List Terms) (m : Member x ys) → length ys ≡ suc (length (rest_without x ys m))
one_fewer x [] m = absurd m
one_fewer x (y ∷ ys) (inl e) = refl
one_fewer x (y ∷ ys) (inr m) = ap suc (one_fewer x ys m)

others_stay : (x z : Terms) (ys : List Terms) (m : Member x ys) → z ≢ x → Member z ys → Member z (rest_without x ys m)
others_stay x z [] m n k = absurd m
others_stay x z (y ∷ ys) (inl e) n (inl f) = absurd (n (f ∙ sym e))
others_stay x z (y ∷ ys) (inl e) n (inr k) = k
others_stay x z (y ∷ ys) (inr m) n (inl f) = inl f
others_stay x z (y ∷ ys) (inr m) n (inr k) = inr (others_stay x z ys m n k)

part_no_longer : (xs ys : List Terms) → HasNoDoubles xs → IsPart xs ys → length xs ≤ length ys
part_no_longer [] ys d p = omega arith
part_no_longer (x ∷ xs) ys d p =
    let here : Member x ys = p x (inl refl) in
    let rest = part_no_longer xs (rest_without x ys here) d.1 (λ z k. others_stay x z ys here
    (λ e. d.0 (subst (λ (w : Terms). Member w xs) e k)) (p z (inr k))) in
    omega (arith, rest, one_fewer x ys here)

-- ---- a row after others

same_row : (xs : Terms) → is_same xs xs ≡ true
same_row [] = refl
same_row (x ∷ xs) = by_test (nat_eq x.0 x.0) (int_eq x.1 x.1) (is_same xs xs) (eq-eqb x.0 x.0 refl) (same_int x.1) (same_row xs)
  where
    same_int : (z : ℤ) → int_eq z z ≡ true
    same_int z = grind (arith, ints)

    by_test : (a b c : Bool) → a ≡ true → b ≡ true → c ≡ true → ((a && b) && c) ≡ true
    by_test true true true e f g = refl
    by_test true true false e f g = g
    by_test true false c e f g = f
    by_test false b c e f g = e

member_found : (row : Terms) (rows : List Terms) → Member row rows → list_any (is_same row) rows ≡ true
member_found row [] m = absurd m
member_found row (r ∷ rows) (inl e) = by_test (is_same row r) (list_any (is_same row) rows) (subst (λ (s : Terms). is_same row s ≡ true) e (same_row row))
  where
    by_test : (a b : Bool) → a ≡ true → (a || b) ≡ true
    by_test true b e = refl
    by_test false b e = absurd (false≢true e)
member_found row (r ∷ rows) (inr m) = by_test (is_same row r) (list_any (is_same row) rows) (member_found row rows m)
  where
    by_test : (a b : Bool) → b ≡ true → (a || b) ≡ true
    by_test true b e = refl
    by_test false b e = e

no_doubles_after : (rows : List Terms) (row : Terms) → HasNoDoubles rows → ¬ (Member row rows) → HasNoDoubles (rows ++ row ∷ [])
no_doubles_after [] row d n = (λ m. m, tt)
no_doubles_after (r ∷ rows) row d n = (
  λ m. ⊎_elim d.0 (λ k. ⊎_elim (λ e. n (inl (sym e))) (λ f. f) k) (member_either r rows (row ∷ []) m),
  no_doubles_after rows row d.1 (λ m. n (inr m)),
)

no_doubles-with_row : (rows : List Terms) (row : Terms) → HasNoDoubles rows → HasNoDoubles (with_row rows row)
no_doubles-with_row rows [] d = d
no_doubles-with_row rows (t ∷ ts) d = by_test (list_any (is_same (t ∷ ts)) rows) (member_found (t ∷ ts) rows)
  where
    by_test : (b : Bool) → (Member (t ∷ ts) rows → b ≡ true) → HasNoDoubles (if b then rows else rows ++ (t ∷ ts) ∷ [])
    by_test true f = d
    by_test false f = no_doubles_after rows (t ∷ ts) d (λ m. false≢true (f m))

-- what was there stays
stays-with_row : (rows : List Terms) (row x : Terms) → Member x rows → Member x (with_row rows row)
stays-with_row rows [] x m = m
stays-with_row rows (t ∷ ts) x m = by_test (list_any (is_same (t ∷ ts)) rows)
  where
    by_test : (b : Bool) → Member x (if b then rows else rows ++ (t ∷ ts) ∷ [])
    by_test true = m
    by_test false = member-front x rows ((t ∷ ts) ∷ []) m

-- a row that isn't zero comes
comes-with_row : (rows : List Terms) (row : Terms) → row ≢ [] → Member row (with_row rows row)
comes-with_row rows [] n = absurd (n refl)
comes-with_row rows (t ∷ ts) n = by_test (list_any (is_same (t ∷ ts)) rows) (found_member (t ∷ ts) rows)
  where
    by_test : (b : Bool) → (b ≡ true → Member (t ∷ ts) rows) → Member (t ∷ ts) (if b then rows else rows ++ (t ∷ ts) ∷ [])
    by_test true f = f refl
    by_test false f = member-back (t ∷ ts) rows ((t ∷ ts) ∷ []) (inl refl)

-- and nothing else is there
source-with_row : (rows : List Terms) (row x : Terms) → Member x (with_row rows row) → Member x rows ⊎ ((x ≡ row) × (row ≢ []))
source-with_row rows [] x m = inl m
source-with_row rows (t ∷ ts) x m = by_test (list_any (is_same (t ∷ ts)) rows) m
  where
    row_some : t ∷ ts ≢ []
    row_some e = cc

    by_test : (b : Bool) → Member x (if b then rows else rows ++ (t ∷ ts) ∷ []) → Member x rows ⊎ ((x ≡ t ∷ ts) × (t ∷ ts ≢ []))
    by_test true k = inl k
    by_test false k = ⊎_elim (λ h. inl h) (λ h. ⊎_elim (λ e. inr (e, row_some)) (λ f. absurd f) h) (member_either x rows ((t ∷ ts) ∷ []) k)

-- ---- rows put in order

no_doubles-with_rows : (before rows : List Terms) → HasNoDoubles before → HasNoDoubles (with_lowest_rows before rows)
no_doubles-with_rows before [] d = d
no_doubles-with_rows before (row ∷ rows) d = no_doubles-with_rows (with_row before (lowest_terms row)) rows (no_doubles-with_row before (lowest_terms row) d)

no_doubles-ordered_rows : (rows : List Terms) → HasNoDoubles (ordered_rows rows)
no_doubles-ordered_rows rows = no_doubles-with_rows [] rows tt

stays-with_rows : (before rows : List Terms) (x : Terms) → Member x before → Member x (with_lowest_rows before rows)
stays-with_rows before [] x m = m
stays-with_rows before (row ∷ rows) x m = stays-with_rows (with_row before (lowest_terms row)) rows x (stays-with_row before (lowest_terms row) x m)

comes-with_rows : (before rows : List Terms) (y : Terms) → Member y rows → lowest_terms y ≢ [] → Member (lowest_terms y) (with_lowest_rows before rows)
comes-with_rows before [] y m n = absurd m
comes-with_rows before (row ∷ rows) y (inl e) n = stays-with_rows (with_row before (lowest_terms row)) rows (lowest_terms y)
    (subst (λ (r : Terms). Member (lowest_terms y) (with_row before r)) (ap lowest_terms e) (comes-with_row before (lowest_terms y) n))
comes-with_rows before (row ∷ rows) y (inr m) n = comes-with_rows (with_row before (lowest_terms row)) rows y m n

-- a row of the list in order is one of the rows in lowest terms, and not zero
record IsLowestOf (rows : List Terms) (x : Terms) : Type 0 where
  source : Terms
  member : Member source rows
  is : x ≡ lowest_terms source
  some : x ≢ []

source-with_rows : (before rows : List Terms) (x : Terms) → Member x (with_lowest_rows before rows) → Member x before ⊎ IsLowestOf rows x
source-with_rows before [] x m = inl m
source-with_rows before (row ∷ rows) x m = ⊎_elim
    (λ k. ⊎_elim (λ h. inl h) (λ e. inr (record { source = row; member = inl refl; is = e.0; some = λ z. e.1 (sym e.0 ∙ z) }))
    (source-with_row before (lowest_terms row) x k))
    (λ s. inr (record { source = s.source; member = inr s.member; is = s.is; some = s.some }))
    (source-with_rows (with_row before (lowest_terms row)) rows x m)

source-ordered_rows : (rows : List Terms) (x : Terms) → Member x (ordered_rows rows) → IsLowestOf rows x
source-ordered_rows rows x m = ⊎_elim (λ k. absurd k) (λ s. s) (source-with_rows [] rows x m)

comes-ordered_rows : (rows : List Terms) (y x : Terms) → Member y rows → x ≡ lowest_terms y → x ≢ [] → Member x (ordered_rows rows)
comes-ordered_rows rows y x m e n = subst (λ (r : Terms). Member r (ordered_rows rows)) (sym e) (comes-with_rows [] rows y m (λ z. n (e ∙ z)))

part-ordered_rows : (xs ys : List Terms) → IsPart xs ys → IsPart (ordered_rows xs) (ordered_rows ys)
part-ordered_rows xs ys p x m = let s = source-ordered_rows xs x m in comes-ordered_rows ys s.source x (p s.source s.member) s.is s.some

-- a part of a list in order is still one when it is put in order itself: lowest terms of lowest terms are the same
pub part-ordered : (xs ys : List Terms) → IsPart xs (ordered_rows ys) → IsPart (ordered_rows xs) (ordered_rows ys)
part-ordered xs ys p x m =
    let s = source-ordered_rows xs x m in
    let t = source-ordered_rows ys s.source (p s.source s.member) in
    let same : x ≡ s.source = s.is ∙ ap lowest_terms t.is ∙ lowest_again t.source ∙ sym t.is in
    subst (λ (r : Terms). Member r (ordered_rows ys)) (sym same) (p s.source s.member)

-- ---- one rate

module _ (at : ℕ) (xs ys : List Terms) (p : IsPart xs ys) where
  part-results : IsPart (results at xs) (results at ys)
  part-results = results_all (λ row. Member row (results at ys)) at xs (λ row m e. flat_member at ys row (p row m) e)
      (λ up down m n h k. pair_member at ys up down (p up m) (p down n) h k)

  pub part-next_list : IsPart (next_list at xs) (next_list at ys)
  part-next_list = part-ordered_rows (results at xs) (results at ys) part-results

  pub next_list_no_longer : length (next_list at xs) ≤ length (next_list at ys)
  next_list_no_longer = part_no_longer (next_list at xs) (next_list at ys) (no_doubles-ordered_rows (results at xs)) part-next_list

  pub pairs_fit_part : PairsFit at ys → PairsFit at xs
  pairs_fit_part f up down m n h k = f up down (contains_of ys up (p up (member_of xs up m))) (contains_of ys down (p down (member_of xs down n))) h k
