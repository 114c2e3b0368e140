-- The order in which the rows of a region are told.
use Rattle.std.proofs.Common.{◌≡◌, ◌≢◌, ℕ, zero, suc, ◌+◌, ◌<◌, ◌≤◌, Bool, true, false, nat_lt, if◌then◌else◌, List, [], ◌∷◌, ◌++◌, map, take, drop, length, get_or, All, refl, sym, ap, ap₂, subst, ◌∙◌, ◌&&◌, ◌||◌, arith, add-one, eq-eqb, ne_eqb, lt-ltb, le-ltb, ltb-true, ltb-false}
use Rattle.std.specs.Borrow.{Bor}
use Rattle.std.specs.List.{fold, insert}
use Rattle.std.proofs.lemmas.List.{drop_all, get_or-map, length-map, map-append, take_more}
use Rattle.std.proofs.lemmas.List.Elements.{All-cons, All-get_or, All-head, All-nil, All-tail}
use Rattle.std.proofs.lemmas.List.Sums.{fold-append}
use Rattle.it_space.specs.declared.answers.Mark.{Mark}
use Rattle.it_space.specs.Rows.{Terms}
use Rattle.it_syntax.specs.NamesViews.{NamesView}
use Rattle.it_print.specs.Lines.{IsRowOver}
use Rattle.it_tell.specs.SortedRows.{is_before, order_key, put_in_order, rows_by_rates}
use Rattle.it_tell.specs.Tellings.{told_rows}
use Rattle.it_tell.specs.declared.settings.Style.{Style}
use Rattle.it_tell.specs.declared.settings.Style.TheVariants.{Plain, Named, Whole}

-- ---- numbers, as words

-- nothing comes before an end
before_nothing : (xs : List ℕ) → is_before xs [] ≡ false
before_nothing [] = refl
before_nothing (x ∷ xs) = refl

pub before_end : (xs ys : List ℕ) (i : ℕ) → length ys ≤ i → is_before (drop i xs) (drop i ys) ≡ false
before_end xs ys i h = ap (is_before (drop i xs)) (drop_all i ys h) ∙ before_nothing (drop i xs)

less_by_both : (a b : ℕ) → nat_lt a b ≡ nat_lt (suc a) (suc b)
less_by_both a b = by_test (nat_lt a b) refl
  where
    by_test : (t : Bool) → nat_lt a b ≡ t → nat_lt a b ≡ nat_lt (suc a) (suc b)
    by_test true e = let less : a < b = ltb-true a b e in e ∙ sym (lt-ltb (suc a) (suc b) (omega arith))
    by_test false e = let least : b ≤ a = ltb-false a b e in e ∙ sym (le-ltb (suc a) (suc b) (omega arith))

-- where the first list has ended, it comes before the other one if that hasn't
pub end_before : (xs ys : List ℕ) (i : ℕ) → length xs ≤ i → i ≤ length xs → is_before (drop i xs) (drop i ys) ≡ nat_lt (length xs) (length ys)
end_before [] [] zero h k = sym (le-ltb 0 0 (omega arith))
end_before [] (y ∷ ys) zero h k = sym (lt-ltb 0 (suc (length ys)) (omega arith))
end_before [] ys (suc i) h k = absurd (omega arith)
end_before (x ∷ xs) ys zero h k = absurd (omega arith)
end_before (x ∷ xs) [] (suc i) h k = before_nothing (drop i xs) ∙ sym (le-ltb (suc (length xs)) 0 (omega arith))
end_before (x ∷ xs) (y ∷ ys) (suc i) h k = end_before xs ys i (omega arith) (omega arith) ∙ less_by_both (length xs) (length ys)

-- where both have the same number, what stands behind it decides
pub before_by_rest : (xs ys : List ℕ) (i : ℕ) → i < length xs → i < length ys → get_or xs i 0 ≡ get_or ys i 0
    → is_before (drop i xs) (drop i ys) ≡ is_before (drop (i + 1) xs) (drop (i + 1) ys)
before_by_rest xs ys i h k e = rw add-one (same_first xs ys i h k e)
  where
    same_first : (xs ys : List ℕ) (i : ℕ) → i < length xs → i < length ys → get_or xs i 0 ≡ get_or ys i 0
        → is_before (drop i xs) (drop i ys) ≡ is_before (drop (suc i) xs) (drop (suc i) ys)
    same_first [] ys i h k e = absurd (omega arith)
    same_first (x ∷ xs) [] i h k e = absurd (omega arith)
    same_first (x ∷ xs) (y ∷ ys) zero h k e = ap₂ (λ t u. t || (u && is_before xs ys)) (le-ltb x y (omega arith)) (eq-eqb x y e)
    same_first (x ∷ xs) (y ∷ ys) (suc i) h k e = same_first xs ys i (omega arith) (omega arith) e

or_false : (t : Bool) → (t || false) ≡ t
or_false true = refl
or_false false = refl

-- where both have other numbers, these decide
pub before_by_number : (xs ys : List ℕ) (i : ℕ) → i < length xs → i < length ys → get_or xs i 0 ≢ get_or ys i 0
    → is_before (drop i xs) (drop i ys) ≡ nat_lt (get_or xs i 0) (get_or ys i 0)
before_by_number [] ys i h k n = absurd (omega arith)
before_by_number (x ∷ xs) [] i h k n = absurd (omega arith)
before_by_number (x ∷ xs) (y ∷ ys) zero h k n = ap (λ (t : Bool). nat_lt x y || (t && is_before xs ys)) (ne_eqb x y n) ∙ or_false (nat_lt x y)
before_by_number (x ∷ xs) (y ∷ ys) (suc i) h k n = before_by_number xs ys i (omega arith) (omega arith) n

-- ---- rows

-- the rows up to a place stay before a row that doesn't come before them
pub place_goes_on : (n : ℕ) (row other : Mark × Terms) (rows : List (Mark × Terms)) (i : ℕ) → i < length rows → get_or rows i other ≡ other
    → is_before (order_key n row.1) (order_key n other.1) ≡ false
    → put_in_order n row rows ≡ take i rows ++ put_in_order n row (drop i rows)
    → put_in_order n row rows ≡ take (i + 1) rows ++ put_in_order n row (drop (i + 1) rows)
place_goes_on n row other rows i h read later e = e ∙ rw add-one (more rows i h read)
  where
    more : (rows : List (Mark × Terms)) (i : ℕ) → i < length rows → get_or rows i other ≡ other
        → take i rows ++ put_in_order n row (drop i rows) ≡ take (suc i) rows ++ put_in_order n row (drop (suc i) rows)
    more [] i h read = absurd (omega arith)
    more (r ∷ rows) zero h read = ap (λ (t : Bool). if t then row ∷ r ∷ rows else r ∷ put_in_order n row rows)
        (ap (λ (x : Mark × Terms). is_before (order_key n row.1) (order_key n x.1)) read ∙ later)
    more (r ∷ rows) (suc i) h read = ap (λ (rs : List (Mark × Terms)). r ∷ rs) (more rows i (omega arith) read)

-- a row is put before the first one before which it comes
pub place_found : (n : ℕ) (row other : Mark × Terms) (rows : List (Mark × Terms)) (i : ℕ) → i < length rows → get_or rows i other ≡ other
    → is_before (order_key n row.1) (order_key n other.1) ≡ true
    → put_in_order n row rows ≡ take i rows ++ put_in_order n row (drop i rows) → put_in_order n row rows ≡ insert rows i row
place_found n row other rows i h read earlier e = e ∙ here rows i h read
  where
    here : (rows : List (Mark × Terms)) (i : ℕ) → i < length rows → get_or rows i other ≡ other
        → take i rows ++ put_in_order n row (drop i rows) ≡ insert rows i row
    here [] i h read = absurd (omega arith)
    here (r ∷ rows) zero h read = ap (λ (t : Bool). if t then row ∷ r ∷ rows else r ∷ put_in_order n row rows)
        (ap (λ (x : Mark × Terms). is_before (order_key n row.1) (order_key n x.1)) read ∙ earlier)
    here (r ∷ rows) (suc i) h read = ap (λ (rs : List (Mark × Terms)). r ∷ rs) (here rows i (omega arith) read)

-- a row that comes before none is put behind all
pub place_behind : (n : ℕ) (row : Mark × Terms) (rows : List (Mark × Terms)) (i : ℕ) → length rows ≤ i → i ≤ length rows
    → put_in_order n row rows ≡ take i rows ++ put_in_order n row (drop i rows)
    → put_in_order n row rows ≡ insert rows (length rows) row
place_behind n row rows i h k e = e ∙ behind rows i h k
  where
    behind : (rows : List (Mark × Terms)) (i : ℕ) → length rows ≤ i → i ≤ length rows
        → take i rows ++ put_in_order n row (drop i rows) ≡ insert rows (length rows) row
    behind [] zero h k = refl
    behind [] (suc i) h k = absurd (omega arith)
    behind (r ∷ rows) zero h k = absurd (omega arith)
    behind (r ∷ rows) (suc i) h k = ap (λ (rs : List (Mark × Terms)). r ∷ rs) (behind rows i (omega arith) (omega arith))

map-insert : {X Y : Type 0} (f : X → Y) (xs : List X) (i : ℕ) (x : X) → map f (insert xs i x) ≡ insert (map f xs) i (f x)
map-insert f [] zero x = refl
map-insert f [] (suc i) x = refl
map-insert f (y ∷ xs) zero x = refl
map-insert f (y ∷ xs) (suc i) x = ap (λ (ys : List _). f y ∷ ys) (map-insert f xs i x)

-- one more row in order
pub rates_more : (n : ℕ) (rows : List (Mark × Terms)) (i : ℕ) (row : Mark × Terms) → i < length rows → get_or rows i row ≡ row
    → rows_by_rates n (take (i + 1) rows) ≡ put_in_order n row (rows_by_rates n (take i rows))
rates_more n rows i row h read =
    ap (rows_by_rates n) (take_more rows i row h ∙ ap (λ (r : Mark × Terms). take i rows ++ r ∷ []) read)
    ∙ fold-append (λ (sorted : List (Mark × Terms)) (r : Mark × Terms). put_in_order n r sorted) [] (take i rows) (row ∷ [])

-- ---- what holds of each row holds of each in order

module _ (P : Mark × Terms → Type 0) (n : ℕ) where
  all_with : (row : Mark × Terms) (rows : List (Mark × Terms)) → P row → All P rows → All P (put_in_order n row rows)
  all_with row [] p all = All-cons P row [] p all
  all_with row (other ∷ rows) p all = by_test (is_before (order_key n row.1) (order_key n other.1)) (all_with row rows p (All-tail P other rows all))
    where
      by_test : (t : Bool) → All P (put_in_order n row rows) → All P (if t then row ∷ other ∷ rows else other ∷ put_in_order n row rows)
      by_test true more = All-cons P row (other ∷ rows) p all
      by_test false more = All-cons P other (put_in_order n row rows) (All-head P other rows all) more

  all_by_rates : (sorted rows : List (Mark × Terms)) → All P sorted → All P rows → All P (fold (λ sorted row. put_in_order n row sorted) sorted rows)
  all_by_rates sorted [] s all = s
  all_by_rates sorted (row ∷ rows) s all = all_by_rates (put_in_order n row sorted) rows (all_with row sorted (All-head P row rows all) s)
      (All-tail P row rows all)

  pub all_told : (style : Style) (rows : List (Mark × Terms)) → All P rows → All P (told_rows style n rows)
  all_told Plain rows all = all
  all_told Named rows all = all_by_rates [] rows (All-nil P) all
  all_told Whole rows all = all_by_rates [] rows (All-nil P) all

-- ---- references to rows

-- the rows that references stand for
abbrev pub rows_at : List (Bor (Mark × Terms)) → List (Mark × Terms)
rows_at refs = map (λ r. r.now) refs

pub in_rows : (refs : List (Bor (Mark × Terms))) (i : ℕ) → i < length refs → i < length (rows_at refs)
in_rows refs i h = simp length-map h

pub row_read : (refs : List (Bor (Mark × Terms))) (i : ℕ) (d : Bor (Mark × Terms)) → i < length refs
    → get_or (rows_at refs) i (get_or refs i d).now ≡ (get_or refs i d).now
row_read refs i d h = get_or-map (λ (r : Bor (Mark × Terms)). r.now) refs i d (get_or refs i d).now h

pub next_place : (n : ℕ) (row : Mark × Terms) (refs : List (Bor (Mark × Terms))) (i : ℕ) (d : Bor (Mark × Terms)) (here : Bool)
    → i < length refs → here ≡ is_before (order_key n row.1) (order_key n (get_or refs i d).now.1) → here ≡ false
    → put_in_order n row (rows_at refs) ≡ take i (rows_at refs) ++ put_in_order n row (drop i (rows_at refs))
    → put_in_order n row (rows_at refs) ≡ take (i + 1) (rows_at refs) ++ put_in_order n row (drop (i + 1) (rows_at refs))
next_place n row refs i d here h is not e = place_goes_on n row (get_or refs i d).now (rows_at refs) i (in_rows refs i h) (row_read refs i d h) (sym is ∙ not) e

pub this_place : (n : ℕ) (row : Mark × Terms) (refs : List (Bor (Mark × Terms))) (i : ℕ) (d : Bor (Mark × Terms)) (here : Bool)
    → i < length refs → here ≡ is_before (order_key n row.1) (order_key n (get_or refs i d).now.1) → here ≡ true
    → put_in_order n row (rows_at refs) ≡ take i (rows_at refs) ++ put_in_order n row (drop i (rows_at refs))
    → put_in_order n row (rows_at refs) ≡ insert (rows_at refs) i row
this_place n row refs i d here h is so e = place_found n row (get_or refs i d).now (rows_at refs) i (in_rows refs i h) (row_read refs i d h) (sym is ∙ so) e

pub last_place : (n : ℕ) (row : Mark × Terms) (refs : List (Bor (Mark × Terms))) (i : ℕ) → length refs ≤ i → i ≤ length refs
    → put_in_order n row (rows_at refs) ≡ take i (rows_at refs) ++ put_in_order n row (drop i (rows_at refs))
    → put_in_order n row (rows_at refs) ≡ insert (rows_at refs) (length refs) row
last_place n row refs i h k e =
    let counted : length (rows_at refs) ≡ length refs = length-map refs (λ (r : Bor (Mark × Terms)). r.now) in
    place_behind n row (rows_at refs) i (omega (arith, counted)) (omega (arith, counted)) e ∙ ap (λ (k : ℕ). insert (rows_at refs) k row) counted

-- a reference put in its place
pub row_put : (n : ℕ) (row : Bor (Mark × Terms)) (old shown new : List (Bor (Mark × Terms))) (i : ℕ) → shown ≡ old
    → put_in_order n row.now (rows_at shown) ≡ insert (rows_at shown) i row.now → new ≡ insert old i row
    → rows_at new ≡ put_in_order n row.now (rows_at old)
row_put n row old shown new i same place is =
    ap rows_at is ∙ map-insert (λ (r : Bor (Mark × Terms)). r.now) old i row
    ∙ sym (subst (λ (rs : List (Bor (Mark × Terms))). put_in_order n row.now (rows_at rs) ≡ insert (rows_at rs) i row.now) same place)

-- one more reference
pub turn_more : (rows : List (Mark × Terms)) (row : Bor (Mark × Terms)) (old new : List (Bor (Mark × Terms))) (i : ℕ) → i < length rows
    → row.now ≡ get_or rows i row.now → new ≡ old ++ row ∷ [] → rows_at old ≡ take i rows → rows_at new ≡ take (i + 1) rows
turn_more rows row old new i h read is before =
    ap rows_at is ∙ map-append (λ (r : Bor (Mark × Terms)). r.now) old (row ∷ [])
    ∙ ap₂ (λ (xs ys : List (Mark × Terms)). xs ++ ys) before (ap (λ (r : Mark × Terms). r ∷ []) read) ∙ sym (take_more rows i row.now h)

-- each row that is told is over the names that all are over
pub told_is_over : (v : NamesView) (style : Style) (n : ℕ) (rows : List (Mark × Terms)) (refs : List (Bor (Mark × Terms))) (i : ℕ)
    (d : Bor (Mark × Terms)) → All (λ row. IsRowOver v row.1) rows → rows_at refs ≡ told_rows style n rows → i < length refs
    → IsRowOver v (get_or refs i d).now.1
told_is_over v style n rows refs i d all are h =
    let P : Mark × Terms → Type 0 = λ (row : Mark × Terms). IsRowOver v row.1 in
    subst P (row_read refs i d h) (All-get_or P (rows_at refs) i (get_or refs i d).now (in_rows refs i h)
    (subst (All P) (sym are) (all_told P n style rows all)))
