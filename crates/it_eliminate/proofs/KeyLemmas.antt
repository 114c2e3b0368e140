-- The keys of an index set of rows after a row is inserted.
use Rattle.std.proofs.Common.{◌≡◌, ◌≢◌, ℕ, ℤ, refl, sym, ap, ap₂, ◌∙◌, List, [], ◌∷◌, ◌++◌, Bool, true, false, ◌&&◌, ◌||◌, nat_eq, Vec, Global, if◌then◌else◌}
use Rattle.std.specs.List.{list_any}
use Rattle.std.specs.Ordering.{int_eq}
use Rattle.std.specs.Cmp.Lexicographic.{pointwise}
use Rattle.std.proofs.lemmas.List.{map-append}
use Rattle.it_space.specs.Rows.{Terms}
use Rattle.it_eliminate.specs.Elimination.{is_same, with_row}
use Rattle.it_eliminate.specs.Gathering.{rows_of}

abbrev pub ComparesTerms : (ℕ × ℤ → ℕ × ℤ → Bool) → Type 0
ComparesTerms eq = (s t : ℕ × ℤ) → eq s t ≡ (nat_eq s.0 t.0 && int_eq s.1 t.1)

pub same_by : (eq : ℕ × ℤ → ℕ × ℤ → Bool) → ComparesTerms eq → (xs ys : Terms) → pointwise eq xs ys ≡ is_same xs ys
same_by eq h [] [] = refl
same_by eq h [] (y ∷ ys) = refl
same_by eq h (x ∷ xs) [] = refl
same_by eq h (x ∷ xs) (y ∷ ys) = ap₂ (λ a b. a && b) (h x y) (same_by eq h xs ys)

any_by : (eq : ℕ × ℤ → ℕ × ℤ → Bool) → ComparesTerms eq → (row : Terms) (vs : List (Vec (ℕ × ℤ) Global))
    → list_any (λ v. pointwise eq row v.items) vs ≡ list_any (is_same row) (rows_of vs)
any_by eq h row [] = refl
any_by eq h row (v ∷ vs) = ap₂ (λ a b. a || b) (same_by eq h row v.items) (any_by eq h row vs)

-- the keys after a row that isn't zero is inserted
pub keys_with_row : (eq : ℕ × ℤ → ℕ × ℤ → Bool) → ComparesTerms eq → (old new : List (Vec (ℕ × ℤ) Global)) (v : Vec (ℕ × ℤ) Global) → v.items ≢ []
    → new ≡ (if list_any (λ w. pointwise eq v.items w.items) old then old else old ++ v ∷ []) → rows_of new ≡ with_row (rows_of old) v.items
keys_with_row eq h old new v n e = ap rows_of e ∙ ap (λ b. rows_of (if b then old else old ++ v ∷ [])) (any_by eq h v.items old) ∙ by_list v.items n refl
  where
    by_test : (b : Bool) → rows_of (if b then old else old ++ v ∷ []) ≡ (if b then rows_of old else rows_of old ++ v.items ∷ [])
    by_test true = refl
    by_test false = map-append (λ (w : Vec (ℕ × ℤ) Global). w.items) old (v ∷ [])

    by_list : (row : Terms) → row ≢ [] → row ≡ v.items → rows_of (if list_any (is_same v.items) (rows_of old) then old else old ++ v ∷ [])
        ≡ with_row (rows_of old) row
    by_list [] n e = absurd (n refl)
    by_list (t ∷ ts) n e = by_test (list_any (is_same v.items) (rows_of old))
        ∙ ap (λ r. if list_any (is_same r) (rows_of old) then rows_of old else rows_of old ++ r ∷ []) (sym e)
