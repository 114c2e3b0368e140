-- Spans of numbers, and properties of each number in a span.
use Rattle.std.proofs.Common.{◌≡◌, ℕ, zero, suc, ◌+◌, ◌<◌, ◌≤◌, ◌⊎◌, inl, inr, ◌∷◌, ◌++◌, map, length, get_or, refl, ap, ap₂, ◌∙◌, subst, arith}
use Rattle.std.proofs.lemmas.List.{length-map}
use Rattle.std.specs.List.{AllByRecursion as Every}
use Rattle.it_polymatroid.specs.Elementals.{span}

pub span-append : (a m n : ℕ) → span a (m + n) ≡ span a m ++ span (a + m) n
span-append a zero n = ap₂ span (omega arith) (omega arith)
span-append a (suc m) n =
    let e : suc m + n ≡ suc (m + n) = omega arith in
    let f : a + 1 + m ≡ a + suc m = omega arith in
    ap (span a) e ∙ ap (λ xs. a ∷ xs) (span-append (a + 1) m n ∙ ap (λ b. span (a + 1) m ++ span b n) f)

pub length-span : (a n : ℕ) → length (span a n) ≡ n
length-span a zero = refl
length-span a (suc n) = ap suc (length-span (a + 1) n)

pub get_or-span : (a n i d : ℕ) → i < n → get_or (span a n) i d ≡ a + i
get_or-span a zero i d h = absurd (omega arith)
get_or-span a (suc n) zero d h = omega arith
get_or-span a (suc n) (suc i) d h = get_or-span (a + 1) n i d (omega arith) ∙ omega arith

pub length-map-span : {A : Type 0} (f : ℕ → A) (a n : ℕ) → length (map f (span a n)) ≡ n
length-map-span f a n = length-map (span a n) f ∙ length-span a n

pub same_or_more : (a b : ℕ) → a ≤ b → (a ≡ b) ⊎ (a + 1 ≤ b)
same_or_more a b h = grind arith

pub every-span : (P : ℕ → Type 0) (from count : ℕ) → ((i : ℕ) → from ≤ i → i < from + count → P i) → Every P (span from count)
every-span P from zero f = tt
every-span P from (suc count) f = (f from (omega arith) (omega arith), every-span P (from + 1) count (λ i h k. f i (omega arith) (omega arith)))

pub every_spanned : (P : ℕ → Type 0) (from count : ℕ) → Every P (span from count) → (i : ℕ) → from ≤ i → i < from + count → P i
every_spanned P from zero e i h k = absurd (omega arith)
every_spanned P from (suc count) e i h k = by_cases (same_or_more from i h) (λ l. every_spanned P (from + 1) count e.1 i l (omega arith))
  where
    by_cases : (from ≡ i) ⊎ (from + 1 ≤ i) → (from + 1 ≤ i → P i) → P i
    by_cases (inl s) f = subst P s e.0
    by_cases (inr l) f = f l
