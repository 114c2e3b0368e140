-- Rows kept up to a number of them, row after row.
use Rattle.std.proofs.Common.{◌≡◌, ◌⊎◌, inl, inr, ◌↔◌, ℕ, ◌+◌, ◌<◌, ◌≤◌, ℤ, ◌<ℤ◌, arith, pos, refl, sym, ap, subst, ◌∙◌, append_assoc, List, [], ◌∷◌, ◌++◌, length, drop, get_or, false}
use Rattle.std.specs.List.{flat_map, AllByRecursion as Every}
use Rattle.std.specs.Global.{Vec}
use Rattle.std.specs.Prelude.{not, Contains}
use Rattle.std.specs.Ordering.{int_eq}
use Rattle.std.proofs.lemmas.Int.{ints}
use Rattle.std.proofs.lemmas.List.{length-map}
use Rattle.std.proofs.lemmas.List.Elements.{filter-append}
use Rattle.it_space.proofs.ListLemmas.{drop_item}
use Rattle.it_space.specs.Rows.{Terms, IsCanonical, coefficient}
use Rattle.it_space.specs.Divisors.{lowest_terms}
use Rattle.it_eliminate.proofs.MemberLemmas.{Member, member_of, contains_of, every_member, member_every, member-filter, member_filtered}
use Rattle.it_eliminate.proofs.ResultLemmas.{results_are}
use Rattle.it_eliminate.specs.Elimination.{with_row, with_lowest_rows, is_zero_at, next_list, PairsFit}
use Rattle.it_eliminate.specs.Gathering.{flat_of, up_pairs, DownFits, UpFits, IsKeptList, Gathers, rows_of, rows_with}

-- ---- many rows

with_lowest_rows-append : (seen xs ys : List Terms) → with_lowest_rows seen (xs ++ ys) ≡ with_lowest_rows (with_lowest_rows seen xs) ys
with_lowest_rows-append seen [] ys = refl
with_lowest_rows-append seen (x ∷ xs) ys = with_lowest_rows-append (with_row seen (lowest_terms x)) xs ys

pub gathers_both : (most : ℕ) (xs ys : List Terms) (old mid new : List Terms) → Gathers most xs old mid → Gathers most ys mid new
    → Gathers most (xs ++ ys) old new
gathers_both most xs ys old mid new f g = record {
  keeps = λ exact k. subst (λ (rs : List Terms). IsKeptList most rs new) (sym (with_lowest_rows-append exact xs ys))
      (g.keeps (with_lowest_rows exact xs) (f.keeps exact k));
}

-- what is still to come leads from what is there to an end
abbrev pub Leads : ℕ → (Terms → List Terms) → List Terms → List Terms → List Terms → List Terms → Type 0
Leads most g rest rows first now = (s : List Terms) → Gathers most (flat_map g rest) now s → Gathers most (flat_map g rows) first s

pub leads_more : (most : ℕ) (g : Terms → List Terms) (rest rows : List Terms) (row : Terms) (later first now new : List Terms) → rest ≡ row ∷ later
    → Gathers most (g row) now new → Leads most g rest rows first now → Leads most g later rows first new
leads_more most g rest rows row later first now new e f l s k = l s (subst (λ (rs : List Terms). Gathers most (flat_map g rs) now s) (sym e)
    (gathers_both most (g row) (flat_map g later) now new s f k))

-- the rows that have the coordinate: those so far, and those still to come
pub others_more : (at : ℕ) (rest all : List Terms) (row : Terms) (later old new : List Terms) → rest ≡ row ∷ later
    → new ≡ old ++ rows_with at (row ∷ []) → old ++ rows_with at rest ≡ all → new ++ rows_with at later ≡ all
others_more at rest all row later old new e f is = ap (λ (rs : List Terms). rs ++ rows_with at later) f
    ∙ append_assoc old (rows_with at (row ∷ [])) (rows_with at later)
    ∙ ap (λ (rs : List Terms). old ++ rs) (sym (filter-append (λ r. not (is_zero_at at r)) (row ∷ []) later)
    ∙ sym (ap (rows_with at) e)) ∙ is

-- what holds of each still to come holds of all
abbrev pub Rests : (Terms → Type 0) → List Terms → ℕ → Type 0
Rests P rows i = Every P (drop i rows) ↔ Every P rows

module _ (P : Terms → Type 0) (rows : List Terms) (i : ℕ) (row : Terms) (h : i < length rows) (e : row ≡ get_or rows i row) where
  row_is_first : drop i rows ≡ row ∷ drop (i + 1) rows
  row_is_first = drop_item rows i row h e

  pub rests_more : P row → Rests P rows i → Rests P rows (i + 1)
  rests_more p r = (
    λ a. r.0 (subst (λ (rs : List Terms). Every P rs) (sym row_is_first) (p, a)),
    λ a.
        (subst (λ (rs : List Terms). Every P rs) row_is_first (r.1 a)).1,
  )

-- ---- the whole list, from nothing

pub next_kept : (most at : ℕ) (rows others none mid new : List Terms) → none ≡ [] → others ≡ rows_with at rows
    → Gathers most (flat_map (flat_of at) rows) none mid → Gathers most (flat_map (up_pairs at others) others) mid new
    → IsKeptList most (next_list at rows) new
next_kept most at rows others none mid new e o f g = subst (λ (rs : List Terms). IsKeptList most (with_lowest_rows [] rs) new)
    (sym (results_are at rows others o))
    ((gathers_both most (flat_map (flat_of at) rows) (flat_map (up_pairs at others) others) none mid new f g).keeps []
    (record { is = inl e; canonical = subst (λ (rs : List Terms). Every IsCanonical rs) (sym e) tt }))

-- ---- the pairs

module _ (at : ℕ) (rows others : List Terms) (is : others ≡ rows_with at rows) where
  other : (row : Terms) → Contains rows row → is_zero_at at row ≡ false → Member row others
  other row m e = subst (λ (rs : List Terms). Member row rs) (sym is)
      (member-filter (λ r. not (is_zero_at at r)) row rows (member_of rows row m) (ap not e))

  row_of : (row : Terms) → Member row others → Contains rows row
  row_of row m = contains_of rows row (member_filtered (λ r. not (is_zero_at at r)) row rows (subst (λ (rs : List Terms). Member row rs) is m)).0

  pub pairs_fit : Every (UpFits at others) others → PairsFit at rows
  pairs_fit f up down m n h k = every_member (DownFits at up) others down
      (every_member (UpFits at others) others up f (other up m (some_is_not_zero (coefficient up at) h)) h)
      (other down n (negative_is_not_zero (coefficient down at) k)) k
    where
      some_is_not_zero : (z : ℤ) → pos 0 <ℤ z → int_eq z (pos 0) ≡ false
      some_is_not_zero z e = grind (arith, ints)

      negative_is_not_zero : (z : ℤ) → z <ℤ pos 0 → int_eq z (pos 0) ≡ false
      negative_is_not_zero z e = grind (arith, ints)

  pub fit_pairs : PairsFit at rows → Every (UpFits at others) others
  fit_pairs f = member_every (UpFits at others) others (λ up m h. member_every (DownFits at up) others
      (λ down n k. f up down (row_of up m) (row_of down n) h k))

  pub wide_pair : {W : Type 0} → (W → ¬ (Every (UpFits at others) others)) → W → ¬ (PairsFit at rows)
  wide_pair f w p = f w (fit_pairs p)

-- ---- how many there are

module _ (most : ℕ) (exact : List Terms) (lists : List (Vec (ℕ × ℤ))) (k : IsKeptList most exact (rows_of lists)) where
  -- a kept list that isn't above the limit is the exact one
  pub kept_few : length lists ≤ most → (rows_of lists ≡ exact) × (length exact ≤ most)
  kept_few few = by_cases k.is
    where
      by_cases : (rows_of lists ≡ exact) ⊎ ((most < length (rows_of lists)) × (most < length exact)) → (rows_of lists ≡ exact) × (length exact ≤ most)
      by_cases (inl e) = let same : length (rows_of lists) ≡ length lists = length-map lists (λ v. v.items) in
          (e, subst (λ (rs : List Terms). length rs ≤ most) e (omega (arith, few, same)))
      by_cases (inr e) = let same : length (rows_of lists) ≡ length lists = length-map lists (λ v. v.items) in absurd (omega (arith, few, same, e.0))

  -- and one above it stands for one above it
  pub kept_many : most < length lists → most < length exact
  kept_many many = by_cases k.is
    where
      by_cases : (rows_of lists ≡ exact) ⊎ ((most < length (rows_of lists)) × (most < length exact)) → most < length exact
      by_cases (inl e) = let same : length (rows_of lists) ≡ length lists = length-map lists (λ v. v.items) in
          subst (λ (rs : List Terms). most < length rs) e (omega (arith, many, same))
      by_cases (inr e) = e.1
